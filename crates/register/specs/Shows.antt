-- What a register shows, and what each call makes of it.
use Rattle.std.specs.Prelude.{◌≡◌, ℕ, ◌≤◌, Bool, cond, List, Ok, Err, ◌==◌}
use Rattle.std.specs.Coded.{le_prop}
use mathlib.Core.Logic.{∥∥₁_prop}
use Rattle.calendar.specs.declared.years.Calendar.{Calendar}
use Rattle.refusals.specs.declared.Refusal.TheVariants.{WrongState}
use Rattle.calendar.specs.Days.{LawfulDays, lawful_days_prop, next_after}
use Rattle.calendar.specs.Calendars.{days_of, dated}
use Rattle.rulebook.specs.declared.Call.{Call}
use Rattle.rulebook.specs.declared.Call.TheVariants.{Opening, NewIssue, Placing, Instructing, Cancelling, Blocking, Releasing, Round, Closing, Redeeming, AskingStatus, AskingHolding}
use Rattle.rulebook.specs.declared.Answer.TheVariants.{Opened, Closed}
use Rattle.rulebook.specs.Answers.{ending, Reply}
use Rattle.rulebook.specs.States.{Standing, shut, opened, closed}

-- the calendar's business days, and how the register stands
pub record View : Type 0 where
  pub days : List ℕ
  pub standing : Standing

-- what is true of every register: its business days rise, each a calendar date, and are those of a calendar, and its state is
-- one of the three
pub record Stands (v : View) : Type 0 where
  pub days : LawfulDays v.days
  pub calendar : ∥ ((k : Calendar) × (v.days ≡ days_of k)) ∥₁
  pub state : v.standing.state ≤ 2

-- any two proofs of it are the same, as a ghost field needs
pub stands_prop : (v : View) → IsProp (Stands v)
stands_prop v a b = λ i. record { days = lawful_days_prop v.days a.days b.days i; calendar = ∥∥₁_prop a.calendar b.calendar i; state = le_prop a.state b.state i }

-- a call that the state does not take gets 10, and changes nothing
abbrev pub untaken : View → View × Reply
untaken v = (v, Err WrongState)

-- what an opening makes of a shut register, and closing of an open one
abbrev pub after_opening : View → View × Reply
after_opening v = (
  record { days = v.days; standing = opened v.days v.standing },
  Ok (Opened (dated (next_after v.standing.day v.days))),
)

abbrev pub after_closing : View → View × Reply
after_closing v = (record { days = v.days; standing = closed v.standing }, Ok (Closed (ending 0 0)))

abbrev pub is_shut : View → Bool
is_shut v = v.standing.state == shut

-- one call by the rules: opening a shut register and closing an open one; no state takes another call yet
abbrev pub next : View → Call → View × Reply
next v Opening = cond (is_shut v) (after_opening v) (untaken v)
next v (NewIssue i d) = untaken v
next v (Placing o) = untaken v
next v (Instructing o) = untaken v
next v (Cancelling p n) = untaken v
next v (Blocking o) = untaken v
next v (Releasing p n) = untaken v
next v Round = untaken v
next v Closing = cond (is_shut v) (untaken v) (after_closing v)
next v (Redeeming i p) = untaken v
next v (AskingStatus n) = untaken v
next v (AskingHolding p i) = untaken v

-- what every call says: the register before and after, the call, its answer
abbrev pub Serves : View → View → Call → Reply → Type 0
Serves v w c a = (w, a) ≡ next v c
