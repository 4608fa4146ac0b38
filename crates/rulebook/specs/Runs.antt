-- Two runs, whole: their calls, and what they are answered.
use Rattle.std.specs.Prelude.{◌≡◌, List, [], ◌∷◌, ◌++◌, map, Some, None, Ok, Err}
use Rattle.rulebook.specs.declared.Sender.TheVariants.{Transferor, Acquirer}
use Rattle.rulebook.specs.declared.Fate.TheVariants as fate
use Rattle.rulebook.specs.declared.Call.{Call}
use Rattle.rulebook.specs.declared.Call.TheVariants.{Opening, NewIssue, Releasing, Round, Closing, AskingStatus, AskingHolding, Cancelling, Blocking, Redeeming}
use Rattle.rulebook.specs.declared.Answer.TheVariants.{Opened, Registered, Placed, Instructed, Blocked, Released, RoundMade, Closed, Status, Holds, Cancelled, Redeemed}
use Rattle.rulebook.specs.Answers.{ending, Reply}
use Rattle.rulebook.specs.Journal.{history, answers, reads, first_view, run}
use Rattle.rulebook.specs.Sheet.{january, rich, placement, transfer, pledge, stocked, inside}
use Rattle.refusals.specs.declared.Refusal.TheVariants.{WrongState, NominalShort, MoneyShort, NoPartner, NotFound}
use Rattle.rulebook.specs.declared.Side.TheVariants.{Own}

-- one day: a repo whose first leg waits while its nominal is blocked
abbrev pub day : List Call
day =
    Opening
    ∷ NewIssue 4 (january 10)
    ∷ placement 50000
    ∷ transfer Transferor 20000 (Some 19900) 2 (Some (january 7)) (Some 19950)
    ∷ transfer Acquirer 20000 (Some 19900) 2 (Some (january 7)) (Some 19950)
    ∷ pledge 40000
    ∷ Round
    ∷ Releasing 1 1
    ∷ Round
    ∷ AskingHolding 1 4
    ∷ AskingStatus 2
    ∷ Closing
    ∷ []

-- what it is answered
abbrev pub day_answers : List Reply
day_answers =
    Ok (Opened (Some (january 2)))
    ∷ Ok (Registered 4)
    ∷ Ok (Placed 50000)
    ∷ Ok (Instructed 1)
    ∷ Ok (Instructed 2)
    ∷ Ok (Blocked 1)
    ∷ Ok (RoundMade 0)
    ∷ Ok (Released 1)
    ∷ Ok (RoundMade 1)
    ∷ Ok (Holds record { own = 30000; customer = 0; blocked_own = 0; blocked_customer = 0 })
    ∷ Ok (Status (fate.Joined 1) None)
    ∷ Ok (Closed (ending 0 0))
    ∷ []

-- a week: kept, matched, waiting, refused, cancelled, a return refused, redemptions
abbrev pub week : List Call
week =
    stocked
    ++ transfer Transferor 20000 (Some 19900) 2 (Some (january 7)) (Some 19950)
    ∷ transfer Acquirer 20000 (Some 19900) 2 (Some (january 7)) (Some 19950)
    ∷ transfer Transferor 100 None 3 None None
    ∷ transfer Acquirer 100 None 3 None None
    ∷ transfer Transferor 100 None 6 None None
    ∷ Cancelling 2 5
    ∷ Cancelling 1 5
    ∷ transfer Transferor 300 None 2 None None
    ∷ transfer Transferor 40000 None 2 None None
    ∷ transfer Acquirer 40000 None 2 None None
    ∷ inside Transferor
    ∷ Round
    ∷ Closing
    ∷ AskingStatus 6
    ∷ AskingStatus 7
    ∷ AskingStatus 8
    ∷ Round
    ∷ Opening
    ∷ AskingStatus 8
    ∷ AskingStatus 4
    ∷ Round
    ∷ Closing
    ∷ Opening
    ∷ Closing
    ∷ Opening
    ∷ Blocking record { participant = 2; side = Own; issue = 4; nominal = 200 }
    ∷ Closing
    ∷ AskingStatus 1
    ∷ Opening
    ∷ Closing
    ∷ Opening
    ∷ Closing
    ∷ Opening
    ∷ Redeeming 4 1
    ∷ Redeeming 4 2
    ∷ Releasing 2 1
    ∷ Redeeming 4 2
    ∷ []

-- what it is answered
abbrev pub week_answers : List Reply
week_answers =
    Ok (Opened (Some (january 2)))
    ∷ Ok (Registered 4)
    ∷ Ok (Placed 50000)
    ∷ Ok (Instructed 1)
    ∷ Ok (Instructed 2)
    ∷ Ok (Instructed 3)
    ∷ Ok (Instructed 4)
    ∷ Ok (Instructed 5)
    ∷ Err NotFound
    ∷ Ok (Cancelled 5)
    ∷ Ok (Instructed 6)
    ∷ Ok (Instructed 7)
    ∷ Ok (Instructed 8)
    ∷ Ok (Instructed 9)
    ∷ Ok (RoundMade 2)
    ∷ Ok (Closed (ending 0 2))
    ∷ Ok (Status fate.Refused (Some NoPartner))
    ∷ Ok (Status fate.Refused (Some NominalShort))
    ∷ Ok (Status (fate.Joined 7) None)
    ∷ Err WrongState
    ∷ Ok (Opened (Some (january 3)))
    ∷ Err NotFound
    ∷ Ok (Status (fate.Joined 3) None)
    ∷ Ok (RoundMade 1)
    ∷ Ok (Closed (ending 0 0))
    ∷ Ok (Opened (Some (january 6)))
    ∷ Ok (Closed (ending 0 0))
    ∷ Ok (Opened (Some (january 7)))
    ∷ Ok (Blocked 1)
    ∷ Ok (Closed (ending 0 1))
    ∷ Ok (Status fate.ReturnRefused (Some NominalShort))
    ∷ Ok (Opened (Some (january 8)))
    ∷ Ok (Closed (ending 0 0))
    ∷ Ok (Opened (Some (january 9)))
    ∷ Ok (Closed (ending 0 0))
    ∷ Ok (Opened (Some (january 10)))
    ∷ Ok (Redeemed 29900)
    ∷ Err NominalShort
    ∷ Ok (Released 1)
    ∷ Err MoneyShort
    ∷ []

-- the journal and amounts kept in place both give these answers, and the day ends with these balances
pub record RunsWhole : Type 0 where
  pub day_by_journal : answers rich day ≡ day_answers
  pub day_in_place : (run (first_view rich) day).1 ≡ day_answers
  pub day_balances : map (reads rich.funds (history rich day).journal).balance (0 ∷ 1 ∷ 2 ∷ []) ≡ 49500 ∷ 970400 ∷ 480100 ∷ []
  pub week_by_journal : answers rich week ≡ week_answers
  pub week_in_place : (run (first_view rich) week).1 ≡ week_answers
