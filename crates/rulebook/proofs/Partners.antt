-- Over every list of calls: each joined instruction's partner, and the one joined to each that was matched.
use Rattle.std.proofs.Common.{◌≡◌, ℕ, ◌+◌, ◌-◌, ◌<◌, ◌≤◌, Bool, true, not, ◌&&◌, eqb, ltb, List, [], ◌∷◌, ◌++◌, sym, refl, ap, ◌∙◌, subst, arith}
use Rattle.std.specs.List.{AllZip, AllByRecursion}
use Rattle.std.proofs.ByRecursion.{All-append, All-weaker}
use Rattle.std.proofs.lemmas.Bool.{false≢true, cond_both, eq-eqb}
use Rattle.std.proofs.lemmas.Bool.Decides.{nat_tests}
use Rattle.calendar.specs.Days.{passing}
use Rattle.rulebook.specs.declared.Order.{Order}
use Rattle.rulebook.specs.declared.Fate.TheVariants as fate
use Rattle.rulebook.specs.declared.Call.{Call}
use Rattle.rulebook.specs.States.{opened}
use Rattle.rulebook.specs.Words.{one_if, total, Amounts, Instruction, Book, Start}
use Rattle.rulebook.specs.Checks.{today, is_inside, has_serial}
use Rattle.rulebook.specs.Matching.{joins, same_order, counter, arrive, wake_all, leaves, leavers, stayers, cancelled_in}
use Rattle.rulebook.specs.Rules.{incoming, with_order, rounded, closing_list}
use Rattle.rulebook.specs.Journal.{reads, new_past, setting_of, Past, accepted, step, history}
use Rattle.rulebook.specs.Laws.{Sensible, with_serial, was_matched}
use Rattle.rulebook.proofs.Totals.{total_append, total_split, member_le, all_passing, total_plus, one_if_le, one_if_split, Member}
use Rattle.rulebook.proofs.Turns.{weigh, named, answering, joined_to, leads, leading, Calm, Fits, Turn, round_turns, end_turns, cancel_turns, turned_joined, turned_led, turned_calm, turned_fits, turned_bare}
use Rattle.rulebook.proofs.Pairing.{came_serials, came_fixed, Between, Came, kept_leads, arrived, all_woken}
use Rattle.rulebook.proofs.Steps.{each_call, each_history}
use Rattle.rulebook.proofs.Roll.{bare, bares, serials, serials_roll, total_roll, arrive_bare, wake_all_bare}

-- over those on the list and those that left it
abbrev pub over : List Instruction → List Instruction → (Instruction → ℕ) → ℕ
over is gone f = total f is + total f gone

-- how many of them have that serial and answer that order
abbrev pub answered : List Instruction → List Instruction → ℕ → Order → ℕ
answered is gone n o = over is gone (weigh (answering n o))

-- each serial given stands once, serials rise on the list, each that leads has one joined to it, each joined one its partner
pub record Kin (is gone : List Instruction) (next : ℕ) : Type 0 where
  pub known : (n : ℕ) → over is gone (weigh (named n)) ≡ one_if (ltb 0 n && ltb n next)
  pub rising : Between 0 next (serials is)
  pub led : (n : ℕ) → over is gone (joined_to n) ≡ over is gone (leading n)
  pub calm : AllByRecursion Calm is
  pub fits : AllByRecursion (Fits (answered is gone)) is
  pub fits_gone : AllByRecursion (Fits (answered is gone)) gone

-- of a book and those that left its list, and of a past
abbrev pub AkinOf : List Instruction → Book → Type 0
AkinOf gone k = Kin k.instructions.standing gone k.instructions.next

abbrev pub Akin : Past → Type 0
Akin h = AkinOf h.departed h.book

-- what fits one count fits a larger one
fits_more : (c c' : ℕ → Order → ℕ) → ((n : ℕ) (o : Order) → c n o ≤ c' n o) → (is : List Instruction) → AllByRecursion (Fits c) is → AllByRecursion (Fits c') is
fits_more c c' l = All-weaker (Fits c) (Fits c') (λ i h n e. ((h n e).0, omega (arith, (h n e).1, l n i.order)))

-- rising numbers: fewer, or one more at the end
between_wider : (low low' high : ℕ) (ns : List ℕ) → low' ≤ low → Between low high ns → Between low' high ns
between_wider low low' high [] l b = omega arith
between_wider low low' high (n ∷ ns) l b = (omega (arith, b.0), b.1)

between_push : (low high : ℕ) (ns : List ℕ) → Between low high ns → Between low (high + 1) (ns ++ high ∷ [])
between_push low high [] b = (b, omega arith)
between_push low high (n ∷ ns) b = (b.0, between_push n high ns b.1)

between_passing : (low high : ℕ) (t : Instruction → Bool) (is : List Instruction) → Between low high (serials is)
    → Between low high (serials (passing t is))
between_passing low high t [] b = b
between_passing low high t (i ∷ is) b =
    let w = between_passing i.serial high t is b.1 in
    cond_both (t i) (i ∷ passing t is) (passing t is) (λ xs. Between low high (serials xs))
    (λ _. (b.0, w))
    (λ _. between_wider i.serial low high (serials (passing t is)) (omega (arith, b.0)) w)

between_below : (low high : ℕ) (ns : List ℕ) → Between low high ns → low < high
between_below low high [] b = b
between_below low high (n ∷ ns) b = omega (arith, b.0, between_below n high ns b.1)

between_all : (low high : ℕ) (ns : List ℕ) → Between low high ns → AllByRecursion (λ s. s < high) ns
between_all low high [] b = tt
between_all low high (n ∷ ns) b = (between_below n high ns b.1, between_all n high ns b.1)

-- fates turn
turned_kin : (is js gone : List Instruction) (next : ℕ) → AllZip Turn is js → Kin is gone next → Kin js gone next
turned_kin is js gone next t h =
    record {
      known = λ n. omega (arith, h.known n, total_roll (weigh (named n)) (λ _. refl) is js roll);
      rising = subst (Between 0 next) (sym (serials_roll is js roll)) h.rising;
      led = λ n. omega (arith, h.led n, turned_joined n is js h.calm t, turned_led n is js h.calm t);
      calm = turned_calm is js h.calm t;
      fits = turned_fits (answered is gone) (answered js gone) more is js h.calm t h.fits;
      fits_gone = fits_more (answered is gone) (answered js gone) more gone h.fits_gone;
    }
  where
    roll : bares js ≡ bares is
    roll = turned_bare is js t

    more : (n : ℕ) (o : Order) → answered is gone n o ≤ answered js gone n o
    more n o = omega (arith, total_roll (weigh (answering n o)) (λ _. refl) is js roll)

-- a new instruction comes, with the next serial
next_known : (n next x y : ℕ) → 0 < next → y ≡ x + one_if (eqb next n) → x ≡ one_if (ltb 0 n && ltb n next)
    → y ≡ one_if (ltb 0 n && ltb n (next + 1))
next_known n next x y p e h = grind (arith, nat_tests)

arrived_kin : (k : Book) (gone : List Instruction) (o : Order) → AkinOf gone k → AkinOf gone (with_order k o)
arrived_kin k gone o h =
    record {
      known = λ n. next_known n next (over is gone (weigh (named n))) (over js gone (weigh (named n)))
          some (omega (arith, came_fixed (named n) is (i ∷ []) js roll)) (h.known n);
      rising = subst (Between 0 (next + 1)) (sym (came_serials is (i ∷ []) js roll)) (between_push 0 next (serials is) h.rising);
      led = λ n. omega (arith, h.led n, c.led n, kept_leads n i refl);
      calm = c.calm h.calm (λ _. refl, tt);
      fits = c.fits (answered js gone) (next - 1) (next + 1)
          (λ n q. omega (arith, came_fixed (answering n q) is (i ∷ []) js roll))
          (All-weaker (λ s. s < next) (λ s. s ≤ next - 1) (λ s l. omega arith) (serials is) (between_all 0 next (serials is) h.rising))
          (omega (arith, some), omega arith)
          (fits_more (answered is gone) (answered js gone) more is h.fits)
          (λ n e. absurd (false≢true e), tt);
      fits_gone = fits_more (answered is gone) (answered js gone) more gone h.fits_gone;
    }
  where
    next : ℕ
    next = k.instructions.next

    i : Instruction
    i = incoming k o

    is : List Instruction
    is = k.instructions.standing

    js : List Instruction
    js = arrive (today k) is i

    roll : bares js ≡ bares is ++ bare i ∷ []
    roll = arrive_bare (today k) is i

    c : Came is (i ∷ []) js
    c = arrived (today k) is i refl

    some : 0 < next
    some = between_below 0 next (serials is) h.rising

    more : (n : ℕ) (q : Order) → answered is gone n q ≤ answered js gone n q
    more n q = omega (arith, came_fixed (answering n q) is (i ∷ []) js roll)

-- some leave the list, and those that were kept arrive
opened_kin : (d : ℕ) (is gone : List Instruction) (next : ℕ) → Kin is gone next
    → Kin (wake_all d [] (stayers is)) (leavers is ++ gone) next
opened_kin d is gone next h =
    record {
      known = λ n. omega (arith, h.known n, came_fixed (named n) [] (stayers is) js roll, parts (weigh (named n)));
      rising = subst (Between 0 next) (sym (came_serials [] (stayers is) js roll)) (between_passing 0 next stays is h.rising);
      led = λ n. omega (arith, h.led n, c.led n, parts (joined_to n), parts (leading n));
      calm = c.calm tt (all_passing Calm stays is h.calm);
      fits = c.fits (answered js left) 0 next
          (λ n o. omega (arith, came_fixed (answering n o) [] (stayers is) js roll))
          tt
          (between_passing 0 next stays is h.rising)
          tt
          (all_passing (Fits (answered js left)) stays is fits_now);
      fits_gone = All-append (Fits (answered js left)) (leavers is) gone
          (all_passing (Fits (answered js left)) (leaves is) is fits_now)
          (fits_more (answered is gone) (answered js left) more gone h.fits_gone);
    }
  where
    stays : Instruction → Bool
    stays i = not (leaves is i)

    left : List Instruction
    left = leavers is ++ gone

    js : List Instruction
    js = wake_all d [] (stayers is)

    roll : bares js ≡ bares (stayers is)
    roll = wake_all_bare d [] (stayers is)

    c : Came [] (stayers is) js
    c = all_woken d [] (stayers is)

    parts : (f : Instruction → ℕ) → total f (stayers is) + total f left ≡ over is gone f
    parts f = omega (arith, total_split f (leaves is) is, total_append f (leavers is) gone)

    more : (n : ℕ) (o : Order) → answered is gone n o ≤ answered js left n o
    more n o = omega (arith, came_fixed (answering n o) [] (stayers is) js roll, parts (weigh (answering n o)))

    fits_now : AllByRecursion (Fits (answered js left)) is
    fits_now = fits_more (answered is gone) (answered js left) more is h.fits

step_kin : (s : Start) (h : Past) (c : Call) → Akin h → Akin (step s h c)
step_kin s h c a =
    each_call s h (λ _ x _ gone. Kin x.standing gone x.next)
    record {
      plain = λ _ _. a;
      opening = λ _. opened_kin (opened s.days k.standing).day is h.departed next a;
      instructing = λ o _. arrived_kin k h.departed o a;
      cancelling = λ p n. turned_kin is (cancelled_in p n is) h.departed next (cancel_turns p n is) a;
      round = round_kin;
      closing = λ _. turned_kin tried (closing_list (setting_of s) am k) h.departed next (end_turns (today k) tried) round_kin;
      resting = λ _. a;
    }
    c
  where
    am : Amounts
    am = reads s.funds h.journal

    k : Book
    k = h.book

    is : List Instruction
    is = k.instructions.standing

    next : ℕ
    next = k.instructions.next

    tried : List Instruction
    tried = (rounded (setting_of s) am k).0

    round_kin : Kin tried h.departed next
    round_kin = turned_kin is tried h.departed next (round_turns (setting_of s) (today k) k.blockings.standing is am) a

new_kin : Akin new_past
new_kin =
    record {
      known = λ n. grind (arith, nat_tests);
      rising = omega arith;
      led = λ n. refl;
      calm = tt;
      fits = tt;
      fits_gone = tt;
    }

pub kin : (s : Start) (cs : List Call) → Akin (history s cs)
kin s = each_history s Akin new_kin (λ cs c. step_kin s (history s cs) c)

-- where a serial stands once at most, a test of those that have it is the test of the one
only_one : (v t : Bool) (a b : ℕ) → v ≡ true → one_if (v && t) ≤ a → one_if (v && not t) ≤ b → a + b ≤ 1 → a ≡ one_if t
only_one v t a b e l m u = grind arith

abbrev has_and : (Instruction → Bool) → ℕ → Instruction → ℕ
has_and t n i = one_if (has_serial n i && t i)

has_split : (t : Instruction → Bool) (n : ℕ) (is : List Instruction)
    → total (has_and t n) is + total (has_and (λ i. not (t i)) n) is ≡ total (weigh (named n)) is
has_split t n is =
    sym (total_plus (has_and t n) (has_and (λ i. not (t i)) n) is)
    ∙ ap (λ (f : Instruction → ℕ). total f is) (λ k i. one_if_split (has_serial n i) (t i) k)

by_serial : (t : Instruction → Bool) (is : List Instruction) → ((n : ℕ) → total (weigh (named n)) is ≤ 1)
    → AllByRecursion (λ i. total (has_and t i.serial) is ≡ one_if (t i)) is
by_serial t is once =
    All-weaker
    (Member is)
    (λ i. total (has_and t i.serial) is ≡ one_if (t i))
    (λ i m. only_one (has_serial i.serial i) (t i)
    (total (has_and t i.serial) is)
    (total (has_and (λ x. not (t x)) i.serial) is)
    (eq-eqb i.serial i.serial refl)
    (m (has_and t i.serial))
    (m (has_and (λ x. not (t x)) i.serial))
    (omega (arith, has_split t i.serial is, once i.serial)))
    is
    (member_le is)

-- each serial given stands once
pub remembered : (h : Past) → Akin h → (n : ℕ) → with_serial h n ≡ one_if (ltb 0 n && ltb n h.book.instructions.next)
remembered h a n = total_append (weigh (named n)) h.book.instructions.standing h.departed ∙ a.known n

pub once : (h : Past) → Akin h → (n : ℕ) → with_serial h n ≤ 1
once h a n = omega (arith, remembered h a n, one_if_le (ltb 0 n && ltb n h.book.instructions.next))

-- one that was matched has exactly one joined to it, inside one participant none; no other has any
pub joined_once_holds : (s : Start) → Sensible s → (cs : List Call)
    → AllByRecursion
    (λ i. total (λ x. one_if (joins i.serial x.fate)) (accepted (history s cs))
    ≡ one_if (was_matched i && not (is_inside i.order)))
    (accepted (history s cs))
joined_once_holds s _ cs =
    All-weaker
    (λ i. total (has_and leads i.serial) (accepted h) ≡ one_if (leads i))
    (λ i. total (joined_to i.serial) (accepted h) ≡ one_if (leads i))
    (λ i e. omega (
      arith,
      e,
      a.led i.serial,
      total_append (joined_to i.serial) h.book.instructions.standing h.departed,
      total_append (leading i.serial) h.book.instructions.standing h.departed,
    ))
    (accepted h)
    (by_serial leads (accepted h) (once h a))
  where
    h : Past
    h = history s cs

    a : Akin h
    a = kin s cs

-- a joined instruction's partner has a lower serial, and the same order but for the sender
pub partner_holds : (s : Start) → Sensible s → (cs : List Call)
    → AllByRecursion
    (λ i. (n : ℕ) → i.fate ≡ fate.Joined n
    → (n < i.serial)
    × (total (λ x. one_if (has_serial n x && same_order x.order (counter i.order))) (accepted (history s cs)) ≡ 1))
    (accepted (history s cs))
partner_holds s _ cs =
    All-weaker
    (Fits (answered is gone))
    (λ i. (n : ℕ) → i.fate ≡ fate.Joined n
    → (n < i.serial) × (total (λ x. one_if (has_serial n x && same_order x.order (counter i.order))) (is ++ gone) ≡ 1))
    (λ i f n e.
    let w = f n (ap (joins n) e ∙ eq-eqb n n refl) in
    let t : Instruction → Bool = λ x. same_order x.order (counter i.order) in (
      w.0,
      omega (
        arith,
        w.1,
        total_append (has_and t n) is gone,
        has_split t n (is ++ gone),
        once (history s cs) (kin s cs) n,
      ),
    ))
    (is ++ gone)
    (All-append (Fits (answered is gone)) is gone (kin s cs).fits (kin s cs).fits_gone)
  where
    is : List Instruction
    is = (history s cs).book.instructions.standing

    gone : List Instruction
    gone = (history s cs).departed
