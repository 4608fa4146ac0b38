-- One call, and every list of calls: what each kind of call makes of the instructions and the journal.
use Rattle.std.proofs.Common.{◌≡◌, ℕ, Bool, true, false, cond, ◌||◌, eqb, List, [], ◌∷◌, ◌++◌, Ok, Err, sym, refl, subst, arith}
use Rattle.std.specs.List.{AllByRecursion}
use Rattle.std.proofs.lemmas.List.{append-nil, append_assoc}
use Rattle.std.proofs.lemmas.Bool.{cond_both}
use Rattle.refusals.specs.declared.Refusal.TheVariants.{WrongState}
use Rattle.rulebook.specs.declared.Order.{Order}
use Rattle.rulebook.specs.declared.Call.{Call}
use Rattle.rulebook.specs.declared.Call.TheVariants as call
use Rattle.rulebook.specs.States.{on_a_day, on_no_day, Standing, opened, closed}
use Rattle.rulebook.specs.Words.{Leg, Movement, placed, settled, redeemed, is_leg, Amounts, Instruction, Numbered, Setting, Book, Start}
use Rattle.rulebook.specs.Checks.{today, is_shut, instruct_checks}
use Rattle.rulebook.specs.Matching.{arrive, wake_all, leavers, stayers, cancelled_in}
use Rattle.rulebook.specs.Rules.{Outcome, standing_now, numbered_on, placing, redeeming, incoming, rounded, closing_list, close_on_no_day, close_on_a_day, checks, work, ruled, rule, book_by, moves_by}
use Rattle.rulebook.specs.Journal.{Journal, times, reads, setting_of, Past, new_past, step, history_from, history}
use Rattle.rulebook.specs.Laws.{is_settlement}
use Rattle.rulebook.proofs.Answering.{Passes, rule_both, asked}

module _ (s : Start) (h : Past) (P : Standing → Numbered Instruction → Journal → List Instruction → Type 0) where
  abbrev st : Setting
  st = setting_of s

  abbrev now : Amounts
  now = reads s.funds h.journal

  abbrev k : Book
  k = h.book

  abbrev xs : List Instruction
  xs = k.instructions.standing

  -- P of what each kind of call leaves: most leave the list and move no leg
  pub record Ways : Type 0 where
    pub plain : (vs : List Movement) → AllByRecursion (λ v. is_settlement v ≡ false) vs
        → P k.standing k.instructions (h.journal ++ vs) h.departed
    pub opening : is_shut k ≡ true
        → P (opened s.days k.standing) (standing_now k.instructions (wake_all (opened s.days k.standing).day [] (stayers xs)))
        (h.journal ++ []) (leavers xs ++ h.departed)
    pub instructing : (o : Order) → Passes (instruct_checks st k o)
        → P k.standing (numbered_on k.instructions (arrive (today k) xs (incoming k o))) (h.journal ++ []) h.departed
    pub cancelling : (p n : ℕ) → P k.standing (standing_now k.instructions (cancelled_in p n xs)) (h.journal ++ []) h.departed
    pub round : P k.standing (standing_now k.instructions (rounded st now k).0) (h.journal ++ (rounded st now k).1) h.departed
    pub closing : eqb k.standing.state on_a_day ≡ true
        → P (closed k.standing) (standing_now k.instructions (closing_list st now k)) (h.journal ++ (rounded st now k).1) h.departed
    pub resting : eqb k.standing.state on_no_day ≡ true
        → P (closed k.standing) (standing_now k.instructions xs) (h.journal ++ []) h.departed

  -- P of a past
  abbrev pub Of : Past → Type 0
  Of g = P g.book.standing g.book.instructions g.journal g.departed

  abbrev By : List Instruction → Outcome → Type 0
  By gone o = P (book_by k o).standing (book_by k o).instructions (h.journal ++ moves_by o) (gone ++ h.departed)

  by_checks : Ways → (c : Call) → (Passes (checks st now k c) → By [] (work st now k c)) → By [] (rule st now k c)
  by_checks w c good = rule_both (By []) st now k c (λ _. w.plain [] tt) good

  opens_by : Ways → (b : Bool) → is_shut k ≡ b
      → By (cond b (leavers xs) []) (ruled (cond b (Ok tt) (Err WrongState)) (work st now k call.Opening))
  opens_by w true e = w.opening e
  opens_by w false e = w.plain [] tt

  open_yet : (a b : Bool) → (a || b) ≡ true → b ≡ false → a ≡ true
  open_yet a b x y = grind arith

  pub each_call : Ways → (c : Call) → Of (step s h c)
  each_call w call.Opening = opens_by w (is_shut k) refl
  each_call w (call.NewIssue i d) = by_checks w (call.NewIssue i d) (λ _. w.plain [] tt)
  each_call w (call.Placing o) = by_checks w (call.Placing o) (λ _. w.plain (placing st k o ∷ []) (refl, tt))
  each_call w (call.Instructing o) = by_checks w (call.Instructing o) (w.instructing o)
  each_call w (call.Cancelling p n) = by_checks w (call.Cancelling p n) (λ _. w.cancelling p n)
  each_call w (call.Blocking o) = by_checks w (call.Blocking o) (λ _. w.plain [] tt)
  each_call w (call.Releasing p n) = by_checks w (call.Releasing p n) (λ _. w.plain [] tt)
  each_call w call.Round = by_checks w call.Round (λ _. w.round)
  each_call w call.Closing =
      by_checks w call.Closing λ p.
      cond_both (eqb k.standing.state on_no_day) (close_on_no_day k) (close_on_a_day st now k) (By [])
      w.resting
      (λ e. w.closing (open_yet (eqb k.standing.state on_a_day) (eqb k.standing.state on_no_day) p.0 e))
  each_call w (call.Redeeming i p) = by_checks w (call.Redeeming i p) (λ _. w.plain (redeeming st now k i p ∷ []) (refl, tt))
  each_call w (call.AskingStatus n) =
      by_checks w (call.AskingStatus n) (λ _. asked (By []) st now k n (w.plain [] tt) (λ _. w.plain [] tt))
  each_call w (call.AskingHolding p i) = by_checks w (call.AskingHolding p i) (λ _. w.plain [] tt)

-- movements that are no legs
pub plain_times : (vs : List Movement) → AllByRecursion (λ v. is_settlement v ≡ false) vs → (n : ℕ) (e : Leg) → times vs n e ≡ 0
plain_times [] a n e = refl
plain_times (v ∷ vs) a n e = omega (arith, one v a.0, plain_times vs a.1 n e)
  where
    one : (v : Movement) → is_settlement v ≡ false → is_leg n e v ≡ 0
    one (placed d p m y) q = refl
    one (settled d k l g r m y) q = let z : ◌≡◌ {A = ℕ} 0 1 = cc in absurd (omega arith)
    one (redeemed d p i u c y) q = refl

-- one more call behind a list
pub history_more : (s : Start) (h : Past) (cs : List Call) (c : Call)
    → history_from s h (cs ++ c ∷ []) ≡ step s (history_from s h cs) c
history_more s h [] c = refl
history_more s h (d ∷ cs) c = history_more s (step s h d) cs c

-- what holds of a new past, and after one more call behind any list, holds after every list of calls
pub each_history : (s : Start) (P : Past → Type 0) → P new_past
    → ((cs : List Call) (c : Call) → P (history s cs) → P (step s (history s cs) c))
    → (cs : List Call) → P (history s cs)
each_history s P new more cs = behind [] cs new
  where
    behind : (ds cs : List Call) → P (history s ds) → P (history s (ds ++ cs))
    behind ds [] p = subst (λ (l : List Call). P (history s l)) (sym (append-nil ds)) p
    behind ds (c ∷ cs) p =
        subst (λ (l : List Call). P (history s l)) (append_assoc ds (c ∷ []) cs)
        (behind (ds ++ c ∷ []) cs (subst P (sym (history_more s new_past ds c)) (more ds c p)))
