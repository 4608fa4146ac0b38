-- What closing refuses was short at its last try, when the legs of lower serials had settled.
use Rattle.std.proofs.Common.{◌≡◌, ℕ, ◌<◌, ◌≤◌, Bool, true, false, cond, ◌&&◌, eqb, List, [], ◌∷◌, ◌++◌, Some, None, Ok, Err, Option, sym, refl, ap, ◌∙◌, subst, inl, inr, arith}
use Rattle.std.specs.List.{AllByRecursion}
use Rattle.std.proofs.lemmas.List.{append-nil, append_assoc}
use Rattle.std.proofs.ByRecursion.{All-append, All-weaker}
use Rattle.std.proofs.lemmas.Bool.{cond_both, cond-false, and_parts, both_ways, or_left, eqb-true, ne_eqb}
use Rattle.refusals.specs.declared.Refusal.{Refusal}
use Rattle.refusals.specs.declared.Refusal.TheVariants.{WrongState, NominalShort, MoneyShort}
use Rattle.calendar.specs.declared.Date.{Date}
use Rattle.rulebook.specs.declared.Fate.{Fate}
use Rattle.rulebook.specs.declared.Fate.TheVariants as fate
use Rattle.rulebook.specs.declared.Call.{Call}
use Rattle.rulebook.specs.declared.Call.TheVariants as call
use Rattle.rulebook.specs.States.{on_a_day, on_no_day, Standing}
use Rattle.rulebook.specs.Words.{Leg, first, return, Movement, Amounts, afters, Blocking, Instruction, turned, alike, Setting, Start, free}
use Rattle.rulebook.specs.Checks.{affords, is_on_a_day}
use Rattle.rulebook.specs.Rounds.{giver, leg_payment, leg, is_day, Try, idle, waits, settles, try, settled_one, tried, try_moves, rounds, is_leg_refused, ended, ended_all}
use Rattle.rulebook.specs.Rules.{close_on_a_day, Outcome, ruled, rounded as round_of, closing_list, close_work, book_by, moves_by}
use Rattle.rulebook.specs.Journal.{Journal, reads, setting_of, Past, outcome, history}
use Rattle.rulebook.specs.Laws.{Sensible, was_matched, leg_serial, last_leg, Short, TriedLast, RefusedShort}
use Rattle.rulebook.proofs.Covered.{leg_covered}
use Rattle.rulebook.proofs.Agreement.{Shown, shown_more, shown_reads, backed}
use Rattle.rulebook.proofs.Ways.{Ready, try_both, ended_both}
use Rattle.rulebook.proofs.Roll.{serials}
use Rattle.rulebook.proofs.Pairing.{Between}
use Rattle.rulebook.proofs.Partners.{kin}
use Rattle.rulebook.proofs.Punctual.{Well, due_day}
use Rattle.rulebook.proofs.Endings.{well_holds}

-- the past after an outcome, if nothing leaves the list
abbrev past_by : Past → Outcome → Past
past_by h o = record { book = book_by h.book o; journal = h.journal ++ moves_by o; departed = h.departed }

-- closing refused the leg of one that was matched
abbrev is_short : Instruction → Bool
is_short i = is_leg_refused i.fate && was_matched i

-- what was not tried was not short
untried : (d : ℕ) (i : Instruction) → (is_leg_refused i.fate ≡ true → ⊥)
    → alike i.fate fate.Matched ≡ false → alike i.fate fate.RepoOut && is_day d i.order.return_date ≡ false
    → is_short (ended d i) ≡ true → ⊥
untried d i n m o =
    ended_both d i (λ y. is_short y ≡ true → ⊥)
    (λ _ e. both_ways false refl e)
    (λ t. absurd (both_ways _ m t))
    (λ t. absurd (both_ways _ o t))
    (λ _ _ _ e. n (and_parts (is_leg_refused i.fate) _ e).0)

-- a first leg that is due has no return that day
not_back : (days : List ℕ) (sd : Standing) (i : Instruction) → Well days sd i → i.fate ≡ fate.Matched
    → is_day sd.day i.order.return_date ≡ true → ⊥
not_back days sd i w m = go i.order.return_date refl
  where
    go : (r : Option Date) → i.order.return_date ≡ r → is_day sd.day r ≡ true → ⊥
    go None q e = both_ways false refl e
    go (Some r) q e = omega (arith, eqb-true r.number sd.day e, (w.fit.return_date r q).1, due_day days sd i w m)

-- what settled was not short
settled_not : (d : ℕ) (i : Instruction) (e : Leg) (r : Option Date) → (e ≡ first → is_day d i.order.return_date ≡ true → ⊥)
    → is_short (ended d (settled_one i e r)) ≡ true → ⊥
settled_not d i first None n q = both_ways false refl q
settled_not d i first (Some r) n q =
    cond_both
    (is_day d i.order.return_date)
    (turned i fate.ReturnRefused None)
    (turned i fate.RepoOut None)
    (λ y. is_short y ≡ true → ⊥)
    (λ t. absurd (n refl t))
    (λ _ z. both_ways false refl z)
    q
settled_not d i return r n q = both_ways false refl q

-- how closing ends a leg that waits
abbrev refused_as : Leg → Fate
refused_as first = fate.Refused
refused_as return = fate.ReturnRefused

waited_ends : (d : ℕ) (i : Instruction) (e : Leg) (c : Option Refusal) → Ready d i e → ended d (turned i i.fate c) ≡ turned i (refused_as e) c
waited_ends d i first c r = ap (λ (f : Fate). ended d (turned i f c)) r
waited_ends d i return c r =
    ap (λ (f : Fate). ended d (turned i f c)) r.0
    ∙ ap (λ (b : Bool). cond b (turned i fate.ReturnRefused c) (turned i fate.RepoOut c)) r.1

last_refused : (e : Leg) → last_leg (refused_as e) ≡ e
last_refused first = refl
last_refused return = refl

-- an instruction that closing refused after its last try: the legs before it have lower serials, those behind it higher ones
record Last (s : Start) (bs : List Blocking) (low : ℕ) (j : Journal) (vs : List Movement) (i : Instruction) : Type 0 where
  before : Journal
  rest : Journal
  split : vs ≡ before ++ rest
  above : low < i.serial
  lower : AllByRecursion (λ v. leg_serial v < i.serial) before
  higher : AllByRecursion (λ v. i.serial < leg_serial v) rest
  short : Short s (reads s.funds (j ++ before)) bs i

-- the legs that a round settles have serials of its list
rounds_above : (st : Setting) (d : ℕ) (bs : List Blocking) (low : ℕ) (is : List Instruction) (high : ℕ) (a : Amounts) → Between low high (serials is)
    → AllByRecursion (λ v. low < leg_serial v) (rounds st d bs is a).1
rounds_above st d bs low [] high a c = tt
rounds_above st d bs low (i ∷ is) high a c =
    All-append
    _
    (try_moves st d i (try st d bs a i))
    _
    (go (try st d bs a i))
    (All-weaker
    (λ v. i.serial < leg_serial v)
    _
    (λ v l. omega (arith, c.0, l))
    (rounds st d bs is (afters (try_moves st d i (try st d bs a i)) a)).1
    (rounds_above st d bs i.serial is high (afters (try_moves st d i (try st d bs a i)) a) c.1))
  where
    go : (t : Try) → AllByRecursion (λ v. low < leg_serial v) (try_moves st d i t)
    go idle = tt
    go (waits r) = tt
    go (settles e) = (c.0, tt)

module _ (s : Start) (sd : Standing) (on : sd.state ≡ on_a_day) (bs : List Blocking) where
  abbrev Ends : ℕ → Journal → List Movement → Instruction → Type 0
  Ends low j vs y = is_short y ≡ true → Last s bs low j vs y

  waited_last : (low : ℕ) (j : Journal) (a : Amounts) (i : Instruction) (e : Leg) (c : Refusal) (vs : List Movement)
      → Ready sd.day i e → Shown s.funds a j → low < i.serial → AllByRecursion (λ v. i.serial < leg_serial v) vs
      → Short s a bs (turned i (refused_as e) (Some c))
      → Last s bs low j vs (ended sd.day (turned i i.fate (Some c)))
  waited_last low j a i e c vs r h l g sh =
      subst (λ (y : Instruction). Last s bs low j vs y) (sym (waited_ends sd.day i e (Some c) r))
      record {
        before = [];
        rest = vs;
        split = refl;
        above = l;
        lower = tt;
        higher = g;
        short = subst (λ (x : Amounts). Short s x bs (turned i (refused_as e) (Some c))) (shown_reads s.funds a j h ∙ ap (reads s.funds) (sym (append-nil j))) sh;
      }

  -- behind the first instruction's legs
  behind : (low n : ℕ) (j m vs : Journal) (ys : List Instruction) → low < n → AllByRecursion (λ v. leg_serial v ≡ n) m
      → AllByRecursion (Ends n (j ++ m) vs) ys → AllByRecursion (Ends low j (m ++ vs)) ys
  behind low n j m vs ys l q h =
      All-weaker
      (Ends n (j ++ m) vs)
      (Ends low j (m ++ vs))
      (λ y g t. let x : Last s bs n (j ++ m) vs y = g t in
      record {
        before = m ++ x.before;
        rest = x.rest;
        split = ap (λ (z : Journal). m ++ z) x.split ∙ sym (append_assoc m x.before x.rest);
        above = omega (arith, x.above);
        lower = All-append _ m x.before (All-weaker (λ v. leg_serial v ≡ n) _ (λ v e. omega (arith, e, x.above)) m q) x.lower;
        higher = x.higher;
        short = subst (λ (z : Journal). Short s (reads s.funds z) bs y) (append_assoc j m x.before) x.short;
      })
      ys
      h

  module _ (i : Instruction) (is : List Instruction) (low high : ℕ) (j : Journal) (a : Amounts) (c : Between low high (serials (i ∷ is))) (h : Shown s.funds a j)
      (w : Well s.days sd i)
      (ih : (j : Journal) (a : Amounts) → Shown s.funds a j
      → AllByRecursion (Ends i.serial j (rounds (setting_of s) sd.day bs is a).1) (ended_all sd.day (rounds (setting_of s) sd.day bs is a).0)) where
    abbrev moved : Try → List Movement
    moved t = try_moves (setting_of s) sd.day i t

    others : (m : List Movement) → AllByRecursion (λ v. leg_serial v ≡ i.serial) m → Shown s.funds (afters m a) (j ++ m)
        → AllByRecursion (Ends low j (m ++ (rounds (setting_of s) sd.day bs is (afters m a)).1)) (ended_all sd.day (rounds (setting_of s) sd.day bs is (afters m a)).0)
    others m q g =
        behind low i.serial j m _ _ c.0 q
        (ih (j ++ m) (afters m a) g)

    still : AllByRecursion (Ends low j (rounds (setting_of s) sd.day bs is a).1) (ended_all sd.day (rounds (setting_of s) sd.day bs is a).0)
    still = others [] tt (subst (λ (l : Journal). Shown s.funds a l) (sym (append-nil j)) h)

    refused_now : (e : Leg) (r : Refusal) → Ready sd.day i e → Short s a bs (turned i (refused_as e) (Some r))
        → Last s bs low j (rounds (setting_of s) sd.day bs is a).1 (ended sd.day (turned i i.fate (Some r)))
    refused_now e r y sh =
        waited_last low j a i e r _ y h c.0 (rounds_above (setting_of s) sd.day bs i.serial is high a c.1) sh

    one_last : AllByRecursion (Ends low j (rounds (setting_of s) sd.day bs (i ∷ is) a).1) (ended_all sd.day (rounds (setting_of s) sd.day bs (i ∷ is) a).0)
    one_last =
        try_both
        (setting_of s)
        sd.day
        bs
        a
        i
        (λ t. AllByRecursion
        (Ends low j (moved t ++ (rounds (setting_of s) sd.day bs is (afters (moved t) a)).1))
        (ended sd.day (tried i t) ∷ ended_all sd.day (rounds (setting_of s) sd.day bs is (afters (moved t) a)).0))
        (λ m o. (λ q. absurd (untried sd.day i (λ z. omega (arith, on, w.refused z)) m o q), still))
        (λ e r n. (
          λ _. refused_now e NominalShort r
              (inl (refl, subst (λ (l : Leg). free a bs (giver i.order l) < i.order.nominal) (sym (last_refused e)) n)),
          still,
        ))
        (λ e r n p. (
          λ _. refused_now e MoneyShort r
              (inr (
                refl,
                subst (λ (l : Leg). i.order.nominal ≤ free a bs (giver i.order l)) (sym (last_refused e)) n,
                subst (λ (l : Leg). affords a (leg_payment (setting_of s) i.order l) ≡ false) (sym (last_refused e)) p,
              )),
          still,
        ))
        (λ e r n p. (
          λ q. absurd (settled_not sd.day i e i.order.return_date
              (λ z. not_back s.days sd i w (subst (λ (l : Leg). Ready sd.day i l) z r))
              q),
          others (moved (settles e)) (refl, tt)
              (shown_more s.funds a j bs (leg (setting_of s) sd.day i e) h (leg_covered (setting_of s) sd.day bs i a e n p)),
        ))

  last : (is : List Instruction) (low high : ℕ) (j : Journal) (a : Amounts) → Between low high (serials is) → Shown s.funds a j → AllByRecursion (Well s.days sd) is
      → AllByRecursion (Ends low j (rounds (setting_of s) sd.day bs is a).1) (ended_all sd.day (rounds (setting_of s) sd.day bs is a).0)
  last [] low high j a c h w = tt
  last (i ∷ is) low high j a c h w =
      one_last i is low high j a c h w.0 (λ j' a' h'. last is i.serial high j' a' c.1 h' w.1)

-- closing on a day
closes : (s : Start) (h : Past) → is_on_a_day h.book ≡ true
    → outcome s h call.Closing ≡ close_on_a_day (setting_of s) (reads s.funds h.journal) h.book
closes s h e =
    ap
    (λ (b : Bool). ruled (cond b (Ok tt) (Err WrongState)) (close_work (setting_of s) (reads s.funds h.journal) h.book))
    (or_left (is_on_a_day h.book) (eqb h.book.standing.state on_no_day) e)
    ∙ cond-false (eqb h.book.standing.state on_no_day) _ _
    (ne_eqb h.book.standing.state on_no_day (λ z. omega (arith, eqb-true h.book.standing.state on_a_day e)))

pub refused_short_holds : (s : Start) → Sensible s → (cs : List Call) → RefusedShort s (history s cs)
refused_short_holds s w cs e =
    subst
    (λ (o : Outcome). AllByRecursion (λ i. is_short i ≡ true → TriedLast s h (past_by h o) i) (past_by h o).book.instructions.standing)
    (sym (closes s h e))
    (All-weaker
    (Ends s h.book.standing (eqb-true h.book.standing.state on_a_day e) h.book.blockings.standing 0 h.journal vs)
    _
    (λ i g t. let x : Last s h.book.blockings.standing 0 h.journal vs i = g t in
    record {
      before = x.before;
      rest = x.rest;
      journal = ap (λ (l : Journal). h.journal ++ l) x.split ∙ sym (append_assoc h.journal x.before x.rest);
      lower = x.lower;
      higher = x.higher;
      short = x.short;
    })
    (closing_list (setting_of s) (reads s.funds h.journal) h.book)
    (last s h.book.standing (eqb-true h.book.standing.state on_a_day e) h.book.blockings.standing
    h.book.instructions.standing 0 h.book.instructions.next h.journal (reads s.funds h.journal) (kin s cs).rising (backed s cs) (well_holds s w cs)))
  where
    h : Past
    h = history s cs

    vs : List Movement
    vs = (round_of (setting_of s) (reads s.funds (history s cs).journal) (history s cs).book).1
