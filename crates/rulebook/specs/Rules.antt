-- The rules: what each call answers, what book it leaves, and what it moves.
use Rattle.std.specs.Prelude.{ℕ, ◌+◌, cond, not, List, [], ◌∷◌, ◌++◌, Some, None, Ok, Err, Option, Result, ◌==◌, slice_set}
use Rattle.refusals.specs.declared.Refusal.{Refusal}
use Rattle.refusals.specs.declared.Refusal.TheVariants.{NotFound}
use Rattle.calendar.specs.declared.Date.{Date}
use Rattle.calendar.specs.Days.{passing, next_after}
use Rattle.calendar.specs.Calendars.{dated}
use Rattle.rulebook.specs.declared.Side.TheVariants.{Own, Customer}
use Rattle.rulebook.specs.declared.Order.{Order}
use Rattle.rulebook.specs.declared.Fate.TheVariants as fate
use Rattle.rulebook.specs.declared.Placement.{Placement}
use Rattle.rulebook.specs.declared.Pledge.{Pledge}
use Rattle.rulebook.specs.declared.Holding.{Holding}
use Rattle.rulebook.specs.declared.Call.{Call}
use Rattle.rulebook.specs.declared.Call.TheVariants as call
use Rattle.rulebook.specs.declared.Answer.{Answer}
use Rattle.rulebook.specs.declared.Answer.TheVariants as answer
use Rattle.rulebook.specs.States.{on_no_day, opened, closed}
use Rattle.rulebook.specs.Answers.{ending, Reply}
use Rattle.rulebook.specs.Words.{found, place, Movement, placed, redeemed, Amounts, Blocking, Instruction, Numbered, Setting, Book, book, blocked, payment, outstanding}
use Rattle.rulebook.specs.Checks.{Check, verdict, today, open_checks, issue_checks, place_checks, instruct_checks, cancel_checks, pledge_place, block_checks, is_blocking, release_checks, round_checks, close_checks, held, redeem_checks, has_serial, status_checks, holding_checks}
use Rattle.rulebook.specs.Matching.{arrive, wake_all, stayers, cancelled_in}
use Rattle.rulebook.specs.Rounds.{rounds, moved_to, is_leg_done, is_leg_refused, ended_all}

-- what a call does: it is refused, or gives an answer, the book after it and what moved, in order
pub data Outcome : Type 0 where
  refuses : Refusal → Outcome
  does : Answer → Book → List Movement → Outcome

-- other things stand, by the same numbers; or one more number is given
abbrev pub standing_now : {X : Type 0} → Numbered X → List X → Numbered X
standing_now x ys = record { standing = ys; next = x.next }

abbrev pub numbered_on : {X : Type 0} → Numbered X → List X → Numbered X
numbered_on x ys = record { standing = ys; next = x.next + 1 }

-- the book with other instructions
abbrev pub with_list : Book → List Instruction → Book
with_list k is = book k.standing k.issues k.blockings (standing_now k.instructions is)

-- opening: what has ended leaves the list, and what was kept arrives
abbrev pub opens : Setting → Book → Book
opens st k =
    let s = opened st.days k.standing in
    book
    s
    k.issues
    k.blockings
    (standing_now k.instructions (wake_all s.day [] (stayers k.instructions.standing)))

-- the business day that opening comes to, if one is left
abbrev pub opening_day : Setting → Book → Option Date
opening_day st k = dated (next_after (today k) st.days)

-- a new issue has a maturity
abbrev pub with_issue : Book → ℕ → Date → Book
with_issue k i d = book k.standing (slice_set k.issues i (Some d)) k.blockings k.instructions

-- a placement adds nominal, while the participant pays the ministry
abbrev pub placing : Setting → Book → Placement → Movement
placing st k o =
    placed
    (today k)
    (place o.participant o.issue o.side)
    o.nominal
    (payment st o.participant 0 o.price)

-- an instruction comes to the list
abbrev pub incoming : Book → Order → Instruction
incoming k o = record { serial = k.instructions.next; order = o; fate = fate.Kept; cause = None }

abbrev pub with_order : Book → Order → Book
with_order k o =
    book
    k.standing
    k.issues
    k.blockings
    (numbered_on k.instructions (arrive (today k) k.instructions.standing (incoming k o)))

-- a blocking is granted; it is released
abbrev pub granted : Book → Pledge → Blocking
granted k o = record { number = k.blockings.next; place = pledge_place o; nominal = o.nominal }

abbrev pub with_blocking : Book → Pledge → Book
with_blocking k o =
    book k.standing k.issues (numbered_on k.blockings (k.blockings.standing ++ granted k o ∷ [])) k.instructions

abbrev pub without_blocking : Book → ℕ → ℕ → Book
without_blocking k p n =
    book
    k.standing
    k.issues
    (standing_now k.blockings (passing (λ b. not (is_blocking p n b)) k.blockings.standing))
    k.instructions

-- a round over the list: the instructions after it, and what moved
abbrev pub rounded : Setting → Amounts → Book → List Instruction × List Movement
rounded st a k = rounds st (today k) k.blockings.standing k.instructions.standing a

-- legs settled by a round
abbrev pub legs_done : Setting → Amounts → Book → ℕ
legs_done st a k = moved_to is_leg_done k.instructions.standing (rounded st a k).0

-- closing makes one last round and then refuses; on no day there is nothing to try or refuse
abbrev pub closing_list : Setting → Amounts → Book → List Instruction
closing_list st a k = ended_all (today k) (rounded st a k).0

abbrev pub shuts : Book → List Instruction → Book
shuts k is = book (closed k.standing) k.issues k.blockings (standing_now k.instructions is)

abbrev pub legs_refused : Setting → Amounts → Book → ℕ
legs_refused st a k = moved_to is_leg_refused (rounded st a k).0 (closing_list st a k)

abbrev pub close_on_no_day : Book → Outcome
close_on_no_day k = does (answer.Closed (ending 0 0)) (shuts k k.instructions.standing) []

abbrev pub close_on_a_day : Setting → Amounts → Book → Outcome
close_on_a_day st a k =
    does
    (answer.Closed (ending (legs_done st a k) (legs_refused st a k)))
    (shuts k (closing_list st a k))
    (rounded st a k).1

abbrev pub close_work : Setting → Amounts → Book → Outcome
close_work st a k = cond (k.standing.state == on_no_day) (close_on_no_day k) (close_on_a_day st a k)

-- a redemption clears own and customer nominal, while the ministry pays that sum
abbrev pub redeeming : Setting → Amounts → Book → ℕ → ℕ → Movement
redeeming st a k i p =
    redeemed
    (today k)
    p
    i
    (a.nominal (place p i Own))
    (a.nominal (place p i Customer))
    (payment st 0 p (held a p i))

-- the status of an instruction, if it is on the list
abbrev pub status_of : Book → Option Instruction → Outcome
status_of k None = refuses NotFound
status_of k (Some i) = does (answer.Status i.fate i.cause) k []

-- what a participant holds of an issue
abbrev pub holding_of : Amounts → List Blocking → ℕ → ℕ → Holding
holding_of a bs p i =
    record {
      own = a.nominal (place p i Own);
      customer = a.nominal (place p i Customer);
      blocked_own = blocked bs (place p i Own);
      blocked_customer = blocked bs (place p i Customer);
    }

-- the checks of a call
abbrev pub checks : Setting → Amounts → Book → Call → List Check
checks st a k call.Opening = open_checks k
checks st a k (call.NewIssue i d) = issue_checks st k i d
checks st a k (call.Placing o) = place_checks st a k o
checks st a k (call.Instructing o) = instruct_checks st k o
checks st a k (call.Cancelling p n) = cancel_checks st k p n
checks st a k (call.Blocking o) = block_checks st a k o
checks st a k (call.Releasing p n) = release_checks st k p n
checks st a k call.Round = round_checks k
checks st a k call.Closing = close_checks k
checks st a k (call.Redeeming i p) = redeem_checks st a k i p
checks st a k (call.AskingStatus n) = status_checks k n
checks st a k (call.AskingHolding p i) = holding_checks st k p i

-- what a call does if no check fails
abbrev pub work : Setting → Amounts → Book → Call → Outcome
work st a k call.Opening = does (answer.Opened (opening_day st k)) (opens st k) []
work st a k (call.NewIssue i d) = does (answer.Registered i) (with_issue k i d) []
work st a k (call.Placing o) = does (answer.Placed (outstanding st a o.issue + o.nominal)) k (placing st k o ∷ [])
work st a k (call.Instructing o) = does (answer.Instructed k.instructions.next) (with_order k o) []
work st a k (call.Cancelling p n) =
    does (answer.Cancelled n) (with_list k (cancelled_in p n k.instructions.standing)) []
work st a k (call.Blocking o) = does (answer.Blocked k.blockings.next) (with_blocking k o) []
work st a k (call.Releasing p n) = does (answer.Released n) (without_blocking k p n) []
work st a k call.Round = does (answer.RoundMade (legs_done st a k)) (with_list k (rounded st a k).0) (rounded st a k).1
work st a k call.Closing = close_work st a k
work st a k (call.Redeeming i p) = does (answer.Redeemed (held a p i)) k (redeeming st a k i p ∷ [])
work st a k (call.AskingStatus n) = status_of k (found (has_serial n) k.instructions.standing)
work st a k (call.AskingHolding p i) = does (answer.Holds (holding_of a k.blockings.standing p i)) k []

-- the first failed check is answered; else the call does its work
abbrev pub ruled : Result Unit Refusal → Outcome → Outcome
ruled (Ok u) o = o
ruled (Err r) o = refuses r

abbrev pub rule : Setting → Amounts → Book → Call → Outcome
rule st a k c = ruled (verdict (checks st a k c)) (work st a k c)

-- the answer by an outcome, the book that it leaves, and what it moves: a refusal leaves everything as it was
abbrev pub answer_by : Outcome → Reply
answer_by (refuses r) = Err r
answer_by (does w k vs) = Ok w

abbrev pub book_by : Book → Outcome → Book
book_by k (refuses r) = k
book_by k (does w k' vs) = k'

abbrev pub moves_by : Outcome → List Movement
moves_by (refuses r) = []
moves_by (does w k vs) = vs
