-- Which causes an instruction has by its fate.
use Rattle.std.proofs.Common.{◌≡◌, ℕ, true, false, cond, not, ◌&&◌, ◌||◌, List, [], ◌∷◌, ◌++◌, Some, None, Option, sym, refl, ap, ◌∙◌, subst, arith}
use Rattle.std.specs.List.{AllByRecursion}
use Rattle.std.proofs.ByRecursion.{All-append, All-push, All-map, All-weaker}
use Rattle.std.proofs.lemmas.Bool.{cond_both, both_ways}
use Rattle.refusals.specs.declared.Refusal.{Refusal}
use Rattle.calendar.specs.declared.Date.{Date}
use Rattle.rulebook.specs.declared.Order.{Order}
use Rattle.rulebook.specs.declared.Fate.{Fate}
use Rattle.rulebook.specs.declared.Fate.TheVariants as fate
use Rattle.rulebook.specs.declared.Call.{Call}
use Rattle.rulebook.specs.States.{Standing, opened}
use Rattle.rulebook.specs.Words.{Leg, first, return, Amounts, afters, Blocking, Instruction, turned, alike, Setting, Book, Start}
use Rattle.rulebook.specs.Checks.{today, may_cancel}
use Rattle.rulebook.specs.Matching.{is_partner, pair_up, met, arrive, wake, wake_all, leaves, leavers, stayers, cancelled_in}
use Rattle.rulebook.specs.Rounds.{is_day, try, settled_one, tried, try_moves, rounds, ended, ended_all}
use Rattle.rulebook.specs.Rules.{incoming}
use Rattle.rulebook.specs.Journal.{reads, setting_of, Past, step, history}
use Rattle.rulebook.specs.Laws.{is_short, cause_suits, CausesSuit}
use Rattle.rulebook.proofs.Totals.{all_passing}
use Rattle.rulebook.proofs.Ways.{Ready, try_both, ended_both, cancel_both, arrive_both}
use Rattle.rulebook.proofs.Steps.{each_call, each_history}
use Rattle.rulebook.proofs.Punctual.{Well}
use Rattle.rulebook.proofs.Endings.{well_holds}
use Rattle.rulebook.proofs.Moving.{out_stays}

abbrev Suits : Instruction → Type 0
Suits i = cause_suits i.fate i.cause ≡ true

-- arrivals have no cause
pair_suits : (o : Order) (xs : List Instruction) → AllByRecursion Suits xs → AllByRecursion Suits (pair_up o xs).0
pair_suits o [] h = tt
pair_suits o (x ∷ xs) h =
    cond_both
    {A = List Instruction × Option ℕ}
    (is_partner o x)
    (turned x fate.Matched None ∷ xs, Some x.serial)
    (x ∷ (pair_up o xs).0, (pair_up o xs).1)
    (λ r. AllByRecursion Suits r.0)
    (λ _. (refl, h.1))
    (λ _. (h.0, pair_suits o xs h.1))

met_suits : (i : Instruction) (r : Option ℕ) → Suits (met i r)
met_suits i None = refl
met_suits i (Some n) = refl

arrive_suits : (d : ℕ) (xs : List Instruction) (i : Instruction) → AllByRecursion Suits xs → AllByRecursion Suits (arrive d xs i)
arrive_suits d xs i h =
    arrive_both d xs i (AllByRecursion Suits)
    (λ _ _. All-push Suits xs (turned i fate.Matched None) h refl)
    (λ _ _. All-push Suits (pair_up i.order xs).0 (met i (pair_up i.order xs).1) (pair_suits i.order xs h) (met_suits i (pair_up i.order xs).1))
    (λ _. All-push Suits xs (turned i fate.Kept None) h refl)

wake_suits : (d : ℕ) (xs is : List Instruction) → AllByRecursion Suits xs → AllByRecursion Suits is → AllByRecursion Suits (wake_all d xs is)
wake_suits d xs [] h k = h
wake_suits d xs (i ∷ is) h k =
    wake_suits d (wake d xs i) is
    (cond_both (alike i.fate fate.Kept) (arrive d xs i) (xs ++ i ∷ []) (AllByRecursion Suits) (λ _. arrive_suits d xs i h) (λ _. All-push Suits xs i h k.0))
    k.1

cancel_suits : (p n : ℕ) (xs : List Instruction) → AllByRecursion Suits xs → AllByRecursion Suits (cancelled_in p n xs)
cancel_suits p n xs h =
    All-map Suits (λ i. cond (may_cancel p n i) (turned i fate.Cancelled i.cause) i) xs
    (All-weaker Suits (λ i. Suits (cond (may_cancel p n i) (turned i fate.Cancelled i.cause) i))
    (λ i w. cancel_both p n i Suits (λ e. early i.fate i.cause e w) w) xs h)
  where
    early : (f : Fate) (c : Option Refusal) → alike f fate.Kept || alike f fate.Unmatched ≡ true → cause_suits f c ≡ true → cause_suits fate.Cancelled c ≡ true
    early f c e w = grind arith

-- a leg that is due may lack nominal or money
ready_short : (d : ℕ) (i : Instruction) (e : Leg) (c : Refusal) → Ready d i e → is_short (Some c) ≡ true → cause_suits i.fate (Some c) ≡ true
ready_short d i first c r h = ap (λ f. cause_suits f (Some c)) r ∙ or_short
  where
    or_short : cause_suits fate.Matched (Some c) ≡ true
    or_short = grind arith
ready_short d i return c r h = ap (λ f. cause_suits f (Some c)) r.0 ∙ or_short
  where
    or_short : cause_suits fate.RepoOut (Some c) ≡ true
    or_short = grind arith

settled_suits : (d : ℕ) (i : Instruction) (e : Leg) (r : Option Date) → Ready d i e → Suits i → Suits (settled_one i e r)
settled_suits d i first None h w = sym (ap (λ f. cause_suits f i.cause) h) ∙ w
settled_suits d i first (Some r) h w = refl
settled_suits d i return r h w = sym (ap (λ f. cause_suits f i.cause) h.0) ∙ w

round_suits : (st : Setting) (d : ℕ) (bs : List Blocking) (is : List Instruction) (a : Amounts) → AllByRecursion Suits is → AllByRecursion Suits (rounds st d bs is a).0
round_suits st d bs [] a h = tt
round_suits st d bs (i ∷ is) a h = (
  try_both st d bs a i (λ t. Suits (tried i t))
      (λ _ _. h.0)
      (λ e r _. ready_short d i e _ r refl)
      (λ e r _ _. ready_short d i e _ r refl)
      (λ e r _ _. settled_suits d i e i.order.return_date r h.0),
  round_suits st d bs is (afters (try_moves st d i (try st d bs a i)) a) h.1,
)

-- closing: what was due was tried, and is refused with its cause
waited_suits : (d : ℕ) (i : Instruction) (e : Leg) (c : Refusal) → Ready d i e → is_short (Some c) ≡ true → Suits (ended d (turned i i.fate (Some c)))
waited_suits d i e c r h =
    ended_both d (turned i i.fate (Some c)) Suits
    (λ _. refl)
    (λ _. grind arith)
    (λ _. h)
    (λ _ _ _. ready_short d i e c r h)

idle_suits : (d : ℕ) (i : Instruction) → Suits i → alike i.fate fate.Matched ≡ false
    → alike i.fate fate.RepoOut && is_day d i.order.return_date ≡ false → Suits (ended d i)
idle_suits d i w m o =
    ended_both d i Suits
    (λ _. refl)
    (λ e. absurd (both_ways (alike i.fate fate.Matched) m e))
    (λ e. absurd (both_ways (alike i.fate fate.RepoOut && is_day d i.order.return_date) o e))
    (λ _ _ _. w)

settled_end_suits : (days : List ℕ) (sd : Standing) (i : Instruction) → Well days sd i → (e : Leg) (r : Option Date)
    → Ready sd.day i e → Suits i → Suits (ended sd.day (settled_one i e r))
settled_end_suits days sd i w first None h k = settled_suits sd.day i first None h k
settled_end_suits days sd i w first (Some r) h k = subst Suits (sym (out_stays days sd i w h)) refl
settled_end_suits days sd i w return r h k = settled_suits sd.day i return r h k

close_suits : (days : List ℕ) (sd : Standing) (st : Setting) (bs : List Blocking) (is : List Instruction) (a : Amounts)
    → AllByRecursion (Well days sd) is → AllByRecursion Suits is → AllByRecursion Suits (ended_all sd.day (rounds st sd.day bs is a).0)
close_suits days sd st bs [] a w h = tt
close_suits days sd st bs (i ∷ is) a w h = (
  try_both st sd.day bs a i (λ t. Suits (ended sd.day (tried i t)))
      (λ m o. idle_suits sd.day i h.0 m o)
      (λ e r _. waited_suits sd.day i e _ r refl)
      (λ e r _ _. waited_suits sd.day i e _ r refl)
      (λ e r _ _. settled_end_suits days sd i w.0 e i.order.return_date r h.0),
  close_suits days sd st bs is (afters (try_moves st sd.day i (try st sd.day bs a i)) a) w.1 h.1,
)

-- on the list, and among those that left it
abbrev Suiting : List Instruction → List Instruction → Type 0
Suiting xs gone = AllByRecursion Suits xs × AllByRecursion Suits gone

step_suits : (s : Start) (h : Past) → AllByRecursion (Well s.days h.book.standing) h.book.instructions.standing
    → Suiting h.book.instructions.standing h.departed → (c : Call)
    → Suiting (step s h c).book.instructions.standing (step s h c).departed
step_suits s h w a =
    each_call s h (λ _ x _ gone. Suiting x.standing gone)
    record {
      plain = λ _ _. a;
      opening = λ _. (
        wake_suits (opened s.days k.standing).day [] (stayers xs) tt (all_passing Suits (λ i. not (leaves xs i)) xs a.0),
        All-append Suits (leavers xs) h.departed (all_passing Suits (leaves xs) xs a.0) a.1,
      );
      instructing = λ o _. (arrive_suits (today k) xs (incoming k o) a.0, a.1);
      cancelling = λ p n. (cancel_suits p n xs a.0, a.1);
      round = (round_suits st (today k) k.blockings.standing xs now a.0, a.1);
      closing = λ _. (close_suits s.days k.standing st k.blockings.standing xs now w a.0, a.1);
      resting = λ _. a;
    }
  where
    st : Setting
    st = setting_of s

    now : Amounts
    now = reads s.funds h.journal

    k : Book
    k = h.book

    xs : List Instruction
    xs = k.instructions.standing

pub causes_suit : CausesSuit
causes_suit s sense cs =
    All-append Suits (history s cs).book.instructions.standing (history s cs).departed each.0 each.1
  where
    each : Suiting (history s cs).book.instructions.standing (history s cs).departed
    each =
        each_history s (λ h. Suiting h.book.instructions.standing h.departed) (tt, tt)
        (λ ds c a. step_suits s (history s ds) (well_holds s sense ds) a c)
        cs
