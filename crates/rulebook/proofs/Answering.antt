-- What a call answers: refusals change nothing, and each state takes its own calls.
use Rattle.std.proofs.Common.{◌≡◌, ℕ, Bool, true, false, eqb, List, [], ◌∷◌, Some, None, Ok, Err, Option, Result, refl, ap, ◌∙◌, arith}
use Rattle.std.proofs.lemmas.Bool.{cond_both, cond-false, eq-eqb, both_ways}
use Rattle.std.proofs.lemmas.Bool.Decides.{nat_tests}
use Rattle.refusals.specs.declared.Refusal.{Refusal}
use Rattle.refusals.specs.declared.Refusal.TheVariants.{WrongState, NotFound}
use Rattle.rulebook.specs.declared.Call.{Call}
use Rattle.rulebook.specs.declared.Call.TheVariants as call
use Rattle.rulebook.specs.declared.Ending.{Ending}
use Rattle.rulebook.specs.declared.Answer.{Answer}
use Rattle.rulebook.specs.declared.Answer.TheVariants as answer
use Rattle.rulebook.specs.States.{shut, on_no_day}
use Rattle.rulebook.specs.Answers.{Reply}
use Rattle.rulebook.specs.Words.{found, Amounts, Instruction, Setting, Book}
use Rattle.rulebook.specs.Checks.{Check, verdict, has_serial}
use Rattle.rulebook.specs.Rules.{Outcome, refuses, does, status_of, checks, work, ruled, rule, answer_by, close_work}
use Rattle.rulebook.specs.Journal.{View, ruling, view_by}
use Rattle.rulebook.specs.Laws.{suits, StateRefuses, TurnsGranted, RefusalKeeps, KnowsPlainly}

-- each check holds
abbrev pub Passes : List Check → Type 0
Passes [] = Unit {0}
Passes (c ∷ cs) = (c.0 ≡ true) × Passes cs

-- what holds of each refusal, and of the work where every check holds, holds of what is ruled
pub ruled_both : (P : Outcome → Type 0) (cs : List Check) (o : Outcome)
    → ((r : Refusal) → P (refuses r)) → (Passes cs → P o) → P (ruled (verdict cs) o)
ruled_both P [] o bad good = good tt
ruled_both P (c ∷ cs) o bad good =
    cond_both
    c.0
    (verdict cs)
    (Err c.1)
    (λ v. P (ruled v o))
    (λ e. ruled_both P cs o bad (λ h. good (e, h)))
    (λ _. bad c.1)

-- the same of a call's rule
pub rule_both : (P : Outcome → Type 0) (st : Setting) (a : Amounts) (k : Book) (c : Call)
    → ((r : Refusal) → P (refuses r)) → (Passes (checks st a k c) → P (work st a k c)) → P (rule st a k c)
rule_both P st a k c bad good = ruled_both P (checks st a k c) (work st a k c) bad good

-- what holds of a refusal, and of any answer that leaves all as it was, holds of a status asked for
pub asked : (P : Outcome → Type 0) (st : Setting) (a : Amounts) (k : Book) (n : ℕ)
    → P (refuses NotFound) → ((w : Answer) → P (does w k [])) → P (work st a k (call.AskingStatus n))
asked P st a k n bad good = go (found (has_serial n) k.instructions.standing)
  where
    go : (i : Option Instruction) → P (status_of k i)
    go None = bad
    go (Some i) = good (answer.Status i.fate i.cause)

-- an acceptance is no refusal
pub accepted : (w : Answer) (r : Refusal) → ◌≡◌ {A = Reply} (Ok w) (Err r) → ⊥
accepted w r e =
    let z : ◌≡◌ {A = ℕ} 0 1 = cc in
    omega arith

-- where the answer is a refusal, nothing changes
keeps : (v : View) (o : Outcome) (r : Refusal) → answer_by o ≡ Err r → view_by v o ≡ v
keeps v (refuses s) r e = refl
keeps v (does w k vs) r e = absurd (accepted w r e)

pub refusal_keeps : RefusalKeeps
refusal_keeps v c = keeps v (ruling v c)

-- the first check fails
fails : (v : View) (c : Call) → suits v.book.standing.state c ≡ false
    → verdict (checks v.setting v.amounts v.book c) ≡ Err WrongState
fails v call.Opening e = cond-false _ _ _ e
fails v (call.NewIssue i d) e = cond-false _ _ _ e
fails v (call.Placing o) e = cond-false _ _ _ e
fails v (call.Instructing o) e = cond-false _ _ _ e
fails v (call.Cancelling p n) e = cond-false _ _ _ e
fails v (call.Blocking o) e = cond-false _ _ _ e
fails v (call.Releasing p n) e = cond-false _ _ _ e
fails v call.Round e = cond-false _ _ _ e
fails v call.Closing e = cond-false _ _ _ e
fails v (call.Redeeming i p) e = cond-false _ _ _ e
fails v (call.AskingStatus n) e = absurd (both_ways true e refl)
fails v (call.AskingHolding p i) e = absurd (both_ways true e refl)

pub state_refuses : StateRefuses
state_refuses v c e =
    let o = work v.setting v.amounts v.book c in
    ap (λ (x : Result Unit Refusal). (view_by v (ruled x o), answer_by (ruled x o))) (fails v c e)

-- the only check holds
only_holds : (b : Bool) (o : Outcome) → b ≡ true → ruled (verdict ((b, WrongState) ∷ [])) o ≡ o
only_holds true o e = refl
only_holds false o e = absurd (both_ways false refl e)

abbrev Closes : Outcome → Type 0
Closes o = (e : Ending) × (answer_by o ≡ Ok (answer.Closed e))

closes : (st : Setting) (a : Amounts) (k : Book) → Closes (close_work st a k)
closes st a k = cond_both (eqb k.standing.state on_no_day) _ _ Closes (λ _. (_, refl)) (λ _. (_, refl))

pub turns_granted : TurnsGranted
turns_granted =
    record {
      opening = λ v e. ap answer_by (only_holds (eqb v.book.standing.state shut) _ (eq-eqb v.book.standing.state shut e));
      closing = λ v e.
          let o = work v.setting v.amounts v.book call.Closing in
          let h = closes v.setting v.amounts v.book in
          (h.0, ap answer_by (only_holds _ o e) ∙ h.1);
    }

pub knows_plainly : KnowsPlainly
knows_plainly s h p = grind (arith, nat_tests, h.known)
