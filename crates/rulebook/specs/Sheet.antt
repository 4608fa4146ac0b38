-- The edge cases of the rules, on one sheet: the year 2025, and issue 4 that matures on the 10th.
use Rattle.std.specs.Prelude.{◌≡◌, ℕ, ◌+◌, List, [], ◌∷◌, ◌++◌, Some, None, Ok, Err, Option}
use Rattle.refusals.specs.declared.Refusal.TheVariants.{AmountLimits, WrongDate, InstructionShape, NominalShort, MoneyShort, NoPartner}
use Rattle.calendar.specs.declared.Date.{Date}
use Rattle.calendar.specs.Masks.{business_days as calendar-days}
use Rattle.rulebook.specs.declared.Side.TheVariants.{Own, Customer}
use Rattle.rulebook.specs.declared.Sender.{Sender}
use Rattle.rulebook.specs.declared.Sender.TheVariants.{Transferor, Acquirer}
use Rattle.rulebook.specs.declared.Fate.TheVariants as fate
use Rattle.rulebook.specs.declared.Call.{Call}
use Rattle.rulebook.specs.declared.Call.TheVariants.{Opening, NewIssue, Placing, Instructing, Blocking, Round, Closing, AskingStatus}
use Rattle.rulebook.specs.declared.Answer.TheVariants.{Placed, Instructed, Blocked, RoundMade, Status}
use Rattle.rulebook.specs.Words.{Start}
use Rattle.rulebook.specs.Journal.{reply}

-- the day of January 2025
abbrev pub january : ℕ → Date
january d = record { number = 20250100 + d }

-- the year 2025: Monday to Friday, but 1 January
abbrev pub business_days : List ℕ
business_days =
    calendar-days
    2025
    (0x7cf9f3e6 ∷ 0x0f9f3e7c ∷ 0x4f9f3e7c ∷ 0x39f3e7cf ∷ 0x3e7cf9f3 ∷ 0x27cf9f3e
    ∷ 0x79f3e7cf ∷ 0x1f3e7cf9 ∷ 0x33e7cf9f ∷ 0x7cf9f3e7 ∷ 0x0f9f3e7c ∷ 0x73e7cf9f
    ∷ [])

-- three participants with an account each, and these balances
abbrev pub three : List ℕ → Start
three balances =
    record { participants = 3; days = business_days; funds = record { accounts = 0 ∷ 1 ∷ 2 ∷ []; balances = balances } }

abbrev pub rich : Start
rich = three (0 ∷ 1000000 ∷ 500000 ∷ [])

-- participants 1 and 2 have one agent, with 49,500
abbrev pub one_agent : Start
one_agent =
    record {
      participants = 3;
      days = business_days;
      funds = record { accounts = 0 ∷ 1 ∷ 1 ∷ []; balances = 0 ∷ 49500 ∷ [] };
    }

-- participant 1 takes nominal for 49,500, its own
abbrev pub placement : ℕ → Call
placement n = Placing record { issue = 4; participant = 1; side = Own; nominal = n; price = 49500 }

-- the 2nd of January: the issue is registered; and 50,000 of it is placed
abbrev pub registered : List Call
registered = Opening ∷ NewIssue 4 (january 10) ∷ []

abbrev pub stocked : List Call
stocked = registered ++ placement 50000 ∷ []

abbrev pub next_day : List Call
next_day = Closing ∷ Opening ∷ []

-- participant 1 transfers to 2, own to own
abbrev pub transfer : Sender → ℕ → Option ℕ → ℕ → Option Date → Option ℕ → Call
transfer who nominal price value_date return_date return_price =
    Instructing
    record {
      sender = who;
      transferor = 1;
      transferor_side = Own;
      acquirer = 2;
      acquirer_side = Own;
      issue = 4;
      nominal = nominal;
      price = price;
      value_date = january value_date;
      return_date = return_date;
      return_price = return_price;
    }

-- own to customer, inside participant 1
abbrev pub inside : Sender → Call
inside who =
    Instructing
    record {
      sender = who;
      transferor = 1;
      transferor_side = Own;
      acquirer = 1;
      acquirer_side = Customer;
      issue = 4;
      nominal = 20000;
      price = None;
      value_date = january 2;
      return_date = None;
      return_price = None;
    }

-- 20,000 for 19,900 on the 2nd, and both parties' instructions for it
abbrev pub sale : Sender → Call
sale who = transfer who 20000 (Some 19900) 2 None None

abbrev pub sold : List Call
sold = sale Transferor ∷ sale Acquirer ∷ []

abbrev pub pledge : ℕ → Call
pledge n = Blocking record { participant = 1; side = Own; issue = 4; nominal = n }

-- two equal instructions of the transferor, one of the acquirer
abbrev pub two_sellers : List Call
two_sellers = stocked ++ sale Transferor ∷ sale Transferor ∷ sale Acquirer ∷ []

pub record Sheet : Type 0 where
  -- a nominal of 99 is refused, 100 passes
  pub placing_99 : reply rich registered (placement 99) ≡ Err AmountLimits
  pub placing_100 : reply rich registered (placement 100) ≡ Ok (Placed 100)
  pub instructing_99 : reply rich stocked (transfer Transferor 99 None 2 None None) ≡ Err AmountLimits
  pub instructing_100 : reply rich stocked (transfer Transferor 100 None 2 None None) ≡ Ok (Instructed 1)
  pub blocking_99 : reply rich stocked (pledge 99) ≡ Err AmountLimits
  pub blocking_100 : reply rich stocked (pledge 100) ≡ Ok (Blocked 1)
  -- value date 9 January passes; 10 January, which is maturity, and Sunday 5 January do not
  pub value_9th : reply rich stocked (transfer Transferor 100 None 9 None None) ≡ Ok (Instructed 1)
  pub value_10th : reply rich stocked (transfer Transferor 100 None 10 None None) ≡ Err WrongDate
  pub value_sunday : reply rich stocked (transfer Transferor 100 None 5 None None) ≡ Err WrongDate
  -- blocking passes on 7 January and is too late on the 8th
  pub blocking_7th : reply rich (stocked ++ next_day ++ next_day ++ next_day) (pledge 100) ≡ Ok (Blocked 1)
  pub blocking_8th : reply rich (stocked ++ next_day ++ next_day ++ next_day ++ next_day) (pledge 100) ≡ Err WrongDate
  -- a balance equal to the price settles, one less waits with 20
  pub money_equal : reply (three (0 ∷ 49500 ∷ 19900 ∷ [])) (stocked ++ sold) Round ≡ Ok (RoundMade 1)
  pub money_less : reply (three (0 ∷ 49500 ∷ 19899 ∷ [])) (stocked ++ sold) Round ≡ Ok (RoundMade 0)
  pub money_waits :
      reply (three (0 ∷ 49500 ∷ 19899 ∷ [])) (stocked ++ sold ++ Round ∷ []) (AskingStatus 1) ≡ Ok (Status fate.Matched (Some MoneyShort))
  -- free nominal equal to the leg's settles, one less waits with 19
  pub nominal_equal : reply rich (stocked ++ sold ++ pledge 30000 ∷ []) Round ≡ Ok (RoundMade 1)
  pub nominal_less : reply rich (stocked ++ sold ++ pledge 30001 ∷ []) Round ≡ Ok (RoundMade 0)
  pub nominal_waits :
      reply rich (stocked ++ sold ++ pledge 30001 ∷ Round ∷ []) (AskingStatus 1) ≡ Ok (Status fate.Matched (Some NominalShort))
  -- with one agent for both and balance 0, a priced leg settles
  pub agent_settles : reply one_agent (stocked ++ sold) Round ≡ Ok (RoundMade 1)
  -- own to customer inside one participant: the transferor may send it, the acquirer may not
  pub inside_transferor : reply rich stocked (inside Transferor) ≡ Ok (Instructed 1)
  pub inside_acquirer : reply rich stocked (inside Acquirer) ≡ Err InstructionShape
  -- a return date equal to the value date is refused
  pub return_same_day :
      reply rich stocked (transfer Transferor 20000 (Some 19900) 2 (Some (january 2)) (Some 19950)) ≡ Err WrongDate
  -- of two equal transferor's instructions the lower matches the acquirer's; the other finds no partner
  pub lower_matches : reply rich two_sellers (AskingStatus 3) ≡ Ok (Status (fate.Joined 1) None)
  pub lower_settles : reply rich (two_sellers ++ Closing ∷ []) (AskingStatus 1) ≡ Ok (Status fate.Settled None)
  pub other_refused : reply rich (two_sellers ++ Closing ∷ []) (AskingStatus 2) ≡ Ok (Status fate.Refused (Some NoPartner))
