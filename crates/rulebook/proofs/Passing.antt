-- Business days pass one by one.
use Rattle.std.proofs.Common.{◌≡◌, ℕ, suc, ◌+◌, ◌≤◌, Bool, true, false, cond, ◌&&◌, eqb, ltb, leb, List, [], ◌∷◌, length, Some, None, Ok, Option, sym, refl, ap, ◌∙◌, subst, arith}
use Rattle.std.specs.List.{AllByRecursion}
use Rattle.std.proofs.lemmas.Bool.{cond_both, cond-true, cond-false, or_left, or_right, eq-eqb}
use Rattle.std.proofs.lemmas.Bool.Decides.{nat_tests}
use Rattle.refusals.specs.declared.Refusal.TheVariants.{WrongState}
use Rattle.calendar.specs.declared.Date.{Date}
use Rattle.calendar.specs.Days.{passing, RisingAbove, is_business, first_from, next_after, count_between}
use Rattle.calendar.specs.Calendars.{dated}
use Rattle.rulebook.specs.declared.Call.{Call}
use Rattle.rulebook.specs.declared.Call.TheVariants as call
use Rattle.rulebook.specs.declared.Answer.TheVariants as answer
use Rattle.rulebook.specs.States.{Standing, on_no_day, opened_on}
use Rattle.rulebook.specs.Words.{Book}
use Rattle.rulebook.specs.Checks.{verdict, is_shut}
use Rattle.rulebook.specs.Rules.{Outcome, ruled, work, answer_by, book_by}
use Rattle.rulebook.specs.Journal.{View, next}
use Rattle.rulebook.specs.Laws.{GoesOn, DaysPass}
use Rattle.rulebook.proofs.Answering.{rule_both, asked, accepted}

-- none from n on is found: all are below n
none_later : (n : ℕ) (bs : List ℕ) → first_from (n + 1) bs ≡ None → AllByRecursion (λ b. b ≤ n) bs
none_later n [] e = tt
none_later n (b ∷ bs) e = go (leb (n + 1) b) refl e (none_later n bs)
  where
    go : (t : Bool) → leb (n + 1) b ≡ t → cond t (Some b) (first_from (n + 1) bs) ≡ None
        → (first_from (n + 1) bs ≡ None → AllByRecursion (λ x. x ≤ n) bs) → (b ≤ n) × AllByRecursion (λ x. x ≤ n) bs
    go true h f rest = let z : ◌≡◌ {A = ℕ} 0 1 = cc in absurd (omega arith)
    go false h f rest = (grind (arith, nat_tests), rest f)

-- behind a bound at or above d, none lies up to d
none_between : (n d low : ℕ) (bs : List ℕ) → RisingAbove low bs → d ≤ low → count_between n d bs ≡ 0
none_between n d low [] r h = refl
none_between n d low (b ∷ bs) r h =
    let e : (ltb n b && leb b d) ≡ false = grind (arith, nat_tests, r.0) in
    ap (λ t. length (cond t (b ∷ passing (λ x. ltb n x && leb x d) bs) (passing (λ x. ltb n x && leb x d) bs))) e
    ∙ none_between n d b bs r.1 (omega (arith, r.0))

-- the first later one is on the list, and the only one up to itself
next_alone : (n d low : ℕ) (bs : List ℕ) → RisingAbove low bs → first_from (n + 1) bs ≡ Some d
    → (is_business d bs ≡ true) × (count_between n d bs ≡ 1)
next_alone n d low [] r e = let z : ◌≡◌ {A = ℕ} 0 1 = cc in absurd (omega arith)
next_alone n d low (b ∷ bs) r e = go (leb (n + 1) b) refl e (next_alone n d b bs r.1)
  where
    go : (t : Bool) → leb (n + 1) b ≡ t → cond t (Some b) (first_from (n + 1) bs) ≡ Some d
        → (first_from (n + 1) bs ≡ Some d → (is_business d bs ≡ true) × (count_between n d bs ≡ 1))
        → (is_business d (b ∷ bs) ≡ true) × (count_between n d (b ∷ bs) ≡ 1)
    go true h f rest =
        let e : b ≡ d = cc in
        let taken : (ltb n b && leb b d) ≡ true = grind (arith, nat_tests) in (
          or_left (eqb b d) (is_business d bs) (eq-eqb b d e),
          ap length (cond-true (ltb n b && leb b d) (b ∷ passing (λ x. ltb n x && leb x d) bs) (passing (λ x. ltb n x && leb x d) bs) taken)
              ∙ ap suc (none_between n d b bs r.1 (omega arith)),
        )
    go false h f rest =
        let left : (ltb n b && leb b d) ≡ false = grind (arith, nat_tests) in
        let more = rest f in (
          or_right (eqb b d) (is_business d bs) more.0,
          ap length (cond-false (ltb n b && leb b d) (b ∷ passing (λ x. ltb n x && leb x d) bs) (passing (λ x. ltb n x && leb x d) bs) left) ∙ more.1,
        )

-- from the last business day to what the calendar has next
went : (days : List ℕ) (s : Standing) → RisingAbove 0 days → (o : Option ℕ) → next_after s.day days ≡ o
    → GoesOn days s.day (dated o) (opened_on o s).day
went days s r None e = (refl, none_later s.day days e)
went days s r (Some d) e = let h = next_alone s.day d 0 days r e in (h.0, h.1, refl)

opening : (v : View) (d : Option Date) → RisingAbove 0 v.setting.days → (next v call.Opening).1 ≡ Ok (answer.Opened d)
    → GoesOn v.setting.days v.book.standing.day d (next v call.Opening).0.book.standing.day
opening v d r e = go (is_shut v.book) e
  where
    done : Outcome
    done = work v.setting v.amounts v.book call.Opening

    go : (t : Bool) → answer_by (ruled (verdict ((t, WrongState) ∷ [])) done) ≡ Ok (answer.Opened d)
        → GoesOn v.setting.days v.book.standing.day d (book_by v.book (ruled (verdict ((t, WrongState) ∷ [])) done)).standing.day
    go true f =
        let s = v.book.standing in
        let days = v.setting.days in
        let o = next_after s.day days in
        let h : dated o ≡ d = cc in
        subst (λ n. GoesOn days s.day n (opened_on o s).day) h (went days s r o refl)
    go false f = absurd (accepted (answer.Opened d) WrongState (sym f))

-- the book's day is as it was
abbrev SameDay : Book → Outcome → Type 0
SameDay k o = (book_by k o).standing.day ≡ k.standing.day

stays : (v : View) (c : Call) → (c ≡ call.Opening → ⊥) → SameDay v.book (work v.setting v.amounts v.book c)
stays v call.Opening ne = absurd (ne refl)
stays v (call.NewIssue i d) ne = refl
stays v (call.Placing o) ne = refl
stays v (call.Instructing o) ne = refl
stays v (call.Cancelling p n) ne = refl
stays v (call.Blocking o) ne = refl
stays v (call.Releasing p n) ne = refl
stays v call.Round ne = refl
stays v call.Closing ne = cond_both (eqb v.book.standing.state on_no_day) _ _ (SameDay v.book) (λ _. refl) (λ _. refl)
stays v (call.Redeeming i p) ne = refl
stays v (call.AskingStatus n) ne = asked (SameDay v.book) v.setting v.amounts v.book n refl (λ _. refl)
stays v (call.AskingHolding p i) ne = refl

pub days_pass : DaysPass
days_pass =
    record {
      opening = opening;
      others = λ v c ne. rule_both (SameDay v.book) v.setting v.amounts v.book c (λ r. refl) (λ _. stays v c ne);
    }
