-- More cases of the rules, by the sheet's start: each call's refusals and limits, and the course of instructions.
use Rattle.std.specs.Prelude.{◌≡◌, ℕ, zero, suc, List, [], ◌∷◌, ◌++◌, map, replicate, Some, None, Ok, Err, Option}
use Rattle.refusals.specs.declared.Refusal.{Refusal}
use Rattle.refusals.specs.declared.Refusal.TheVariants.{FieldForm, WrongState, UnknownParticipant, WrongIssue, AmountLimits, WrongDate, InstructionShape, NoPlaceLeft, NotFound, OutstandingLimit, NominalShort, MoneyShort, NoPartner}
use Rattle.calendar.specs.declared.Date.{Date}
use Rattle.rulebook.specs.declared.Side.{Side}
use Rattle.rulebook.specs.declared.Side.TheVariants.{Own, Customer}
use Rattle.rulebook.specs.declared.Sender.{Sender}
use Rattle.rulebook.specs.declared.Sender.TheVariants.{Transferor, Acquirer}
use Rattle.rulebook.specs.declared.Fate.TheVariants as fate
use Rattle.rulebook.specs.declared.Call.{Call}
use Rattle.rulebook.specs.declared.Call.TheVariants.{Opening, NewIssue, Placing, Instructing, Cancelling, Blocking, Releasing, Round, Closing, Redeeming, AskingStatus, AskingHolding}
use Rattle.rulebook.specs.declared.Answer.{Answer}
use Rattle.rulebook.specs.declared.Answer.TheVariants.{Opened, Registered, Placed, Instructed, Cancelled, Blocked, RoundMade, Closed, Redeemed, Status, Holds}
use Rattle.rulebook.specs.Answers.{num, letter, fate_letter, ending, Reply, of_no_field, reply_letter, reply_values}
use Rattle.rulebook.specs.Words.{Start, book}
use Rattle.rulebook.specs.Journal.{reply, answers, told, View, next, setting_of}
use Rattle.rulebook.specs.Sheet.{january, business_days, three, rich, registered, placement, stocked, next_day, transfer, inside, sale, sold, pledge}

-- each of these calls on its own, behind the same calls before
abbrev pub each : Start → List Call → List Call → List Reply
each s cs ds = map (reply s cs) ds

-- a call n times; the same refusal n times
abbrev pub repeated : ℕ → Call → List Call
repeated n c = replicate n c

abbrev pub refused : ℕ → Refusal → List Reply
refused n r = replicate n (Err r)

-- the fields in the order of their line
abbrev pub issuing : ℕ → ℕ → Call
issuing i maturity = NewIssue i record { number = maturity }

abbrev pub placing : ℕ → ℕ → Side → ℕ → ℕ → Call
placing i p side nominal price =
    Placing record { issue = i; participant = p; side = side; nominal = nominal; price = price }

abbrev pub deal : Sender → ℕ → Side → ℕ → Side → ℕ → ℕ → Option ℕ → ℕ → Option Date → Option ℕ → Call
deal who giver giver_side taker taker_side i nominal price value_date return_date return_price =
    Instructing
    record {
      sender = who;
      transferor = giver;
      transferor_side = giver_side;
      acquirer = taker;
      acquirer_side = taker_side;
      issue = i;
      nominal = nominal;
      price = price;
      value_date = january value_date;
      return_date = return_date;
      return_price = return_price;
    }

abbrev pub blocking : ℕ → Side → ℕ → ℕ → Call
blocking p side i nominal = Blocking record { participant = p; side = side; issue = i; nominal = nominal }

-- participants with much money; days further on
abbrev pub wealthy : Start
wealthy = three (0 ∷ 10000000000000 ∷ 10000000000000 ∷ [])

abbrev pub days_on : ℕ → List Call
days_on zero = []
days_on (suc n) = next_day ++ days_on n

-- both parties' instructions for a repo of 20,000 until the 7th
abbrev pub repo : List Call
repo =
    transfer Transferor 20000 (Some 19900) 2 (Some (january 7)) (Some 19950)
    ∷ transfer Acquirer 20000 (Some 19900) 2 (Some (january 7)) (Some 19950)
    ∷ []

-- both parties' instructions without a price, from one participant's own to the other's
abbrev pub gift : ℕ → ℕ → ℕ → List Call
gift giver taker nominal =
    deal Transferor giver Own taker Own 4 nominal None 2 None None
    ∷ deal Acquirer giver Own taker Own 4 nominal None 2 None None
    ∷ []

-- the balances of the first three accounts
abbrev pub balances : Start → List Call → List ℕ
balances s cs = map (told s cs).amounts.balance (0 ∷ 1 ∷ 2 ∷ [])

abbrev pub holds : ℕ → ℕ → ℕ → ℕ → Answer
holds own customer blocked_own blocked_customer =
    Holds record { own = own; customer = customer; blocked_own = blocked_own; blocked_customer = blocked_customer }

-- two business days only; an account shared with the ministry
abbrev pub two_days : Start
two_days =
    record {
      participants = 3;
      days = 20250102 ∷ 20250103 ∷ [];
      funds = record { accounts = 0 ∷ 1 ∷ 2 ∷ []; balances = 0 ∷ 1000000 ∷ 500000 ∷ [] };
    }

abbrev pub ministry_agent : Start
ministry_agent =
    record { participants = 3; days = business_days; funds = record { accounts = 0 ∷ 0 ∷ 1 ∷ []; balances = 0 ∷ 0 ∷ [] } }

-- after the placement, with other numbers given
abbrev pub numbers_given : ℕ → ℕ → View
numbers_given b n =
    record {
      setting = setting_of rich;
      book = book
          (told rich stocked).book.standing
          (told rich stocked).book.issues
          record { standing = []; next = b }
          record { standing = []; next = n };
      amounts = (told rich stocked).amounts;
    }

pub record MoreCases : Type 0 where
  -- calls that a shut register does not take, and those that one open on no day does not; questions are answered in both
  pub while_shut : each rich (stocked ++ Closing ∷ [])
      (issuing 5 20250110 ∷ placement 100 ∷ sale Transferor ∷ Cancelling 1 1 ∷ pledge 100 ∷ Releasing 1 1 ∷ Round ∷ Closing
      ∷ Redeeming 4 1 ∷ [])
      ≡ refused 9 WrongState
  pub while_on_no_day : each two_days (Opening ∷ days_on 2)
      (Opening ∷ issuing 5 20250110 ∷ placement 100 ∷ sale Transferor ∷ Cancelling 1 1 ∷ pledge 100 ∷ Releasing 1 1 ∷ Round
      ∷ Redeeming 4 1 ∷ [])
      ≡ refused 9 WrongState
  pub while_open : reply rich stocked Opening ≡ Err WrongState
  pub questions_shut : each rich (stocked ++ sale Transferor ∷ Closing ∷ []) (AskingStatus 1 ∷ AskingHolding 1 4 ∷ [])
      ≡ map Ok (Status fate.Refused (Some NoPartner) ∷ holds 50000 0 0 0 ∷ [])
  pub questions_on_no_day : each two_days (Opening ∷ issuing 4 20250103 ∷ placing 4 1 Own 100 1 ∷ days_on 2) (AskingStatus 1 ∷ AskingHolding 1 4 ∷ [])
      ≡ Err NotFound ∷ Ok (holds 100 0 0 0) ∷ []
  -- opening goes from business day to business day, and on no day keeps the last
  pub days_pass : answers rich (Opening ∷ days_on 3)
      ≡ map Ok (Opened (Some (january 2)) ∷ Closed (ending 0 0) ∷ Opened (Some (january 3)) ∷ Closed (ending 0 0)
      ∷ Opened (Some (january 6)) ∷ Closed (ending 0 0) ∷ Opened (Some (january 7)) ∷ [])
  pub no_day : answers two_days (Opening ∷ days_on 3)
      ≡ map Ok (Opened (Some (january 2)) ∷ Closed (ending 0 0) ∷ Opened (Some (january 3)) ∷ Closed (ending 0 0)
      ∷ Opened None ∷ Closed (ending 0 0) ∷ Opened None ∷ [])
  -- unknown participants, and wrong issues
  pub unknown_participants : each rich stocked
      (placing 4 3 Own 100 1 ∷ deal Transferor 3 Own 2 Own 4 100 None 2 None None
      ∷ deal Transferor 1 Own 3 Own 4 100 None 2 None None ∷ Cancelling 3 1 ∷ blocking 3 Own 4 100 ∷ Releasing 3 1
      ∷ Redeeming 4 3 ∷ AskingHolding 3 4 ∷ [])
      ≡ refused 8 UnknownParticipant
  pub wrong_issues : each rich stocked
      (issuing 4 20250110 ∷ issuing 32 20250110 ∷ placing 5 1 Own 100 1
      ∷ deal Transferor 1 Own 2 Own 5 100 None 2 None None ∷ blocking 1 Own 5 100 ∷ Redeeming 5 1 ∷ AskingHolding 1 5 ∷ [])
      ≡ refused 7 WrongIssue
  pub last_issue : reply rich stocked (issuing 31 20250110) ≡ Ok (Registered 31)
  -- amounts: a nominal is 100 to 10^13, a price 1 to 10^13
  pub amounts_outside : each wealthy stocked
      (placing 4 1 Own 99 1 ∷ placing 4 1 Own 10000000000001 1 ∷ placing 4 1 Own 100 0 ∷ placing 4 1 Own 100 10000000000001
      ∷ transfer Transferor 99 None 2 None None ∷ transfer Transferor 10000000000001 None 2 None None
      ∷ transfer Transferor 100 (Some 0) 2 None None ∷ transfer Transferor 100 (Some 10000000000001) 2 None None
      ∷ transfer Transferor 100 (Some 1) 2 (Some (january 3)) (Some 0)
      ∷ transfer Transferor 100 (Some 1) 2 (Some (january 3)) (Some 10000000000001)
      ∷ pledge 99 ∷ pledge 10000000000001 ∷ [])
      ≡ refused 12 AmountLimits
  pub amounts_within : each wealthy (registered ++ placing 4 1 Own 10000000000000 1 ∷ [])
      (placing 4 2 Own 100 10000000000000 ∷ transfer Transferor 100 (Some 1) 2 (Some (january 3)) (Some 1)
      ∷ transfer Transferor 10000000000000 (Some 10000000000000) 2 (Some (january 3)) (Some 10000000000000)
      ∷ pledge 10000000000000 ∷ [])
      ≡ map Ok (Placed 10000000000100 ∷ Instructed 1 ∷ Instructed 1 ∷ Blocked 1 ∷ [])
  -- maturity is a calendar date later than today, with a business day on or after it
  pub maturities : each rich stocked
      (issuing 5 20250229 ∷ issuing 5 20250102 ∷ issuing 5 20260101 ∷ issuing 5 20250103 ∷ issuing 5 20250104
      ∷ issuing 5 20251231 ∷ [])
      ≡ refused 3 WrongDate ++ map Ok (Registered 5 ∷ Registered 5 ∷ Registered 5 ∷ [])
  -- on the day before maturity a placement passes and a redemption does not; on that day it is the other way
  pub before_maturity : each rich (stocked ++ days_on 5) (placement 100 ∷ Redeeming 4 1 ∷ [])
      ≡ Ok (Placed 50100) ∷ Err WrongDate ∷ []
  pub at_maturity : each (three (500 ∷ 49500 ∷ 0 ∷ [])) (stocked ++ days_on 6) (placement 100 ∷ Redeeming 4 1 ∷ [])
      ≡ Err WrongDate ∷ Ok (Redeemed 50000) ∷ []
  -- a value date before today; a return date on Saturday, at maturity, and the day before
  pub dates : each rich (stocked ++ next_day)
      (transfer Transferor 100 None 2 None None ∷ transfer Transferor 100 None 3 (Some (january 4)) None
      ∷ transfer Transferor 100 None 3 (Some (january 10)) None ∷ transfer Transferor 100 None 3 (Some (january 9)) None
      ∷ transfer Transferor 100 None 3 None None ∷ [])
      ≡ refused 3 WrongDate ++ map Ok (Instructed 1 ∷ Instructed 1 ∷ [])
  -- maturity on Saturday the 11th counts up to Monday the 13th: blocking passes on the 8th, and is too late on the 9th
  pub saturday_8th :
      reply rich (Opening ∷ issuing 4 20250111 ∷ placement 50000 ∷ [] ++ days_on 4) (pledge 100) ≡ Ok (Blocked 1)
  pub saturday_9th :
      reply rich (Opening ∷ issuing 4 20250111 ∷ placement 50000 ∷ [] ++ days_on 5) (pledge 100) ≡ Err WrongDate
  -- shapes: one side of one participant; a price inside one participant, or with a customer side; a return price without price,
  -- without return date, and lacking
  pub shapes : each rich stocked
      (deal Transferor 1 Own 1 Own 4 100 None 2 None None ∷ deal Transferor 1 Customer 1 Customer 4 100 None 2 None None
      ∷ deal Acquirer 1 Own 1 Customer 4 100 None 2 None None ∷ deal Transferor 1 Own 1 Customer 4 100 (Some 99) 2 None None
      ∷ deal Transferor 1 Customer 2 Own 4 100 (Some 99) 2 None None ∷ deal Transferor 1 Own 2 Customer 4 100 (Some 99) 2 None None
      ∷ transfer Transferor 100 None 2 (Some (january 3)) (Some 99) ∷ transfer Transferor 100 (Some 99) 2 None (Some 99)
      ∷ transfer Transferor 100 None 2 None (Some 99) ∷ transfer Transferor 100 (Some 99) 2 (Some (january 3)) None ∷ [])
      ≡ refused 10 InstructionShape
  pub shapes_right : each rich stocked
      (deal Acquirer 1 Customer 2 Customer 4 100 None 2 None None ∷ transfer Transferor 100 None 2 (Some (january 3)) None
      ∷ deal Transferor 1 Customer 1 Own 4 100 None 2 (Some (january 3)) None ∷ [])
      ≡ map Ok (Instructed 1 ∷ Instructed 1 ∷ Instructed 1 ∷ [])
  -- the 256th instruction and the 64th blocking have a place, the next have none; places come free
  pub places_left : reply rich (stocked ++ repeated 255 (sale Transferor)) (sale Transferor) ≡ Ok (Instructed 256)
  pub no_place_left : reply rich (stocked ++ repeated 256 (sale Transferor)) (sale Transferor) ≡ Err NoPlaceLeft
  pub places_again : reply rich (stocked ++ repeated 256 (sale Transferor) ++ next_day) (transfer Transferor 100 None 3 None None)
      ≡ Ok (Instructed 257)
  pub blockings_left : reply rich (stocked ++ repeated 63 (pledge 100)) (pledge 100) ≡ Ok (Blocked 64)
  pub no_blocking_left : each rich (stocked ++ repeated 64 (pledge 100)) (pledge 100 ∷ pledge 50000 ∷ []) ≡ refused 2 NoPlaceLeft
  pub blocking_again : reply rich (stocked ++ repeated 64 (pledge 100) ++ Releasing 1 7 ∷ []) (pledge 100) ≡ Ok (Blocked 65)
  -- number 999,999 is still given
  pub last_numbers : map (λ c. (next (numbers_given 999999 999999) c).1) (pledge 100 ∷ sale Transferor ∷ [])
      ≡ map Ok (Blocked 999999 ∷ Instructed 999999 ∷ [])
  pub no_number_left : map (λ c. (next (numbers_given 1000000 1000000) c).1) (pledge 100 ∷ sale Transferor ∷ [])
      ≡ refused 2 NoPlaceLeft
  -- only the sender cancels, and only what is kept or unmatched: not a matched, joined or cancelled one
  pub not_cancelled : each rich (stocked ++ sold ++ sale Transferor ∷ transfer Acquirer 100 None 3 None None ∷ Cancelling 1 3 ∷ [])
      (Cancelling 1 1 ∷ Cancelling 2 2 ∷ Cancelling 1 3 ∷ Cancelling 1 4 ∷ Cancelling 1 5 ∷ [])
      ≡ refused 5 NotFound
  pub cancelled : answers rich (stocked ++ sale Acquirer ∷ transfer Transferor 100 None 3 None None
      ∷ Cancelling 1 1 ∷ Cancelling 2 1 ∷ Cancelling 1 2 ∷ AskingStatus 1 ∷ AskingStatus 2 ∷ sale Transferor ∷ AskingStatus 3 ∷ [])
      ≡ Ok (Opened (Some (january 2))) ∷ Ok (Registered 4) ∷ Ok (Placed 50000) ∷ Ok (Instructed 1) ∷ Ok (Instructed 2)
      ∷ Err NotFound ∷ Ok (Cancelled 1) ∷ Ok (Cancelled 2) ∷ Ok (Status fate.Cancelled None)
      ∷ Ok (Status fate.Cancelled None) ∷ Ok (Instructed 3) ∷ Ok (Status fate.Unmatched None) ∷ []
  -- only the holder releases; a released number is not given again
  pub not_released : each rich (stocked ++ pledge 100 ∷ pledge 200 ∷ Releasing 1 1 ∷ [])
      (Releasing 2 2 ∷ Releasing 1 1 ∷ Releasing 1 3 ∷ pledge 100 ∷ AskingHolding 1 4 ∷ [])
      ≡ refused 3 NotFound ++ map Ok (Blocked 3 ∷ holds 50000 0 200 0 ∷ [])
  -- an issue goes up to 10^15
  pub outstanding_limit : each wealthy (registered ++ repeated 99 (placing 4 1 Own 10000000000000 1) ++ placing 4 2 Customer 9999999999900 1 ∷ [])
      (placing 4 2 Own 101 1 ∷ placing 4 2 Own 100 1 ∷ [])
      ≡ Err OutstandingLimit ∷ Ok (Placed 1000000000000000) ∷ []
  -- what is blocked is not blocked again, on its side; free nominal is enough if equal
  pub free_nominal : each rich (stocked ++ pledge 30000 ∷ []) (pledge 20001 ∷ blocking 1 Customer 4 100 ∷ pledge 20000 ∷ [])
      ≡ refused 2 NominalShort ++ Ok (Blocked 2) ∷ []
  -- a placement wants its price, and brings it to the ministry; between equal accounts nothing
  pub placement_money : each (three (0 ∷ 49499 ∷ 49500 ∷ [])) registered (placement 100 ∷ placing 4 2 Own 100 49500 ∷ [])
      ≡ Err MoneyShort ∷ Ok (Placed 100) ∷ []
  pub placement_pays : balances rich stocked ≡ 49500 ∷ 950500 ∷ 500000 ∷ []
  pub placement_free : reply ministry_agent registered (placement 100) ≡ Ok (Placed 100)
  -- redemption wants something held, nothing blocked on either side, and the ministry's money; it clears both sides
  pub redemption_nominal : each (three (0 ∷ 49500 ∷ 1 ∷ []))
      (stocked ++ placing 4 2 Customer 1000 1 ∷ pledge 100 ∷ blocking 2 Customer 4 100 ∷ [] ++ days_on 6)
      (Redeeming 4 0 ∷ Redeeming 4 1 ∷ Redeeming 4 2 ∷ [])
      ≡ refused 3 NominalShort
  pub redemption_money : each (three (500 ∷ 49500 ∷ 0 ∷ [])) (stocked ++ inside Transferor ∷ [] ++ days_on 6) (Redeeming 4 1 ∷ [])
      ≡ Ok (Redeemed 50000) ∷ []
  pub redemption_short : reply (three (499 ∷ 49500 ∷ 0 ∷ [])) (stocked ++ days_on 6) (Redeeming 4 1) ≡ Err MoneyShort
  pub redemption_pays :
      balances (three (500 ∷ 49500 ∷ 7 ∷ [])) (stocked ++ inside Transferor ∷ [] ++ days_on 6 ++ Redeeming 4 1 ∷ []) ≡ 0 ∷ 50000 ∷ 7 ∷ []
  pub redemption_clears :
      reply (three (500 ∷ 49500 ∷ 0 ∷ [])) (stocked ++ inside Transferor ∷ [] ++ days_on 6 ++ Redeeming 4 1 ∷ []) (AskingHolding 1 4)
      ≡ Ok (holds 0 0 0 0)
  pub redemption_free : reply ministry_agent (stocked ++ days_on 6) (Redeeming 4 1) ≡ Ok (Redeemed 50000)
  -- a placement goes to its issue and side, and answers all of the issue
  pub placed_apart : answers rich (stocked ++ issuing 5 20250110 ∷ placing 4 1 Customer 200 1 ∷ placing 5 1 Customer 300 1 ∷ placing 4 2 Own 400 1
      ∷ AskingHolding 1 4 ∷ AskingHolding 1 5 ∷ AskingHolding 2 4 ∷ AskingHolding 2 5 ∷ [])
      ≡ map Ok (Opened (Some (january 2)) ∷ Registered 4 ∷ Placed 50000 ∷ Registered 5 ∷ Placed 50200 ∷ Placed 300
      ∷ Placed 50600 ∷ holds 50000 200 0 0 ∷ holds 0 300 0 0 ∷ holds 400 0 0 0 ∷ holds 0 0 0 0 ∷ [])
  -- a holding by its parts
  pub parts : reply rich (stocked ++ inside Transferor ∷ Round ∷ pledge 300 ∷ blocking 1 Customer 4 400 ∷ []) (AskingHolding 1 4)
      ≡ Ok (holds 30000 20000 300 400)
  -- serials not on the list, or no longer: settled, joined to a settled one, refused, cancelled, return refused
  pub no_status : each rich (stocked ++ sold ++ sale Acquirer ∷ sale Acquirer ∷ Cancelling 2 4 ∷ [] ++ next_day)
      (AskingStatus 0 ∷ AskingStatus 1 ∷ AskingStatus 2 ∷ AskingStatus 3 ∷ AskingStatus 4 ∷ AskingStatus 5 ∷ [])
      ≡ refused 6 NotFound
  pub no_return_status : each rich (stocked ++ repo ++ days_on 3 ++ blocking 2 Own 4 100 ∷ [] ++ next_day)
      (AskingStatus 1 ∷ AskingStatus 2 ∷ []) ≡ refused 2 NotFound
  -- a difference in any field but the sender, or the same sender, is no partner
  pub no_partner : map (λ c. reply rich (registered ++ issuing 5 20250110 ∷ sale Transferor ∷ c ∷ []) (AskingStatus 2))
      (sale Transferor
      ∷ deal Acquirer 0 Own 2 Own 4 20000 (Some 19900) 2 None None
      ∷ deal Acquirer 1 Own 0 Own 4 20000 (Some 19900) 2 None None
      ∷ deal Acquirer 1 Own 2 Own 5 20000 (Some 19900) 2 None None
      ∷ deal Acquirer 1 Own 2 Own 4 20001 (Some 19900) 2 None None
      ∷ deal Acquirer 1 Own 2 Own 4 20000 (Some 19901) 2 None None
      ∷ deal Acquirer 1 Own 2 Own 4 20000 None 2 None None
      ∷ deal Acquirer 1 Own 2 Own 4 20000 (Some 19900) 2 (Some (january 7)) (Some 19950) ∷ [])
      ≡ replicate 8 (Ok (Status fate.Unmatched None))
  pub no_partner_sides : map
      (λ c. reply rich (registered ++ deal Transferor 1 Own 2 Own 4 100 None 2 None None ∷ c ∷ []) (AskingStatus 2))
      (deal Acquirer 1 Customer 2 Own 4 100 None 2 None None ∷ deal Acquirer 1 Own 2 Customer 4 100 None 2 None None ∷ [])
      ≡ replicate 2 (Ok (Status fate.Unmatched None))
  pub no_partner_return : map
      (λ c. reply rich (registered ++ transfer Transferor 20000 (Some 19900) 2 (Some (january 7)) (Some 19950) ∷ c ∷ []) (AskingStatus 2))
      (transfer Acquirer 20000 (Some 19900) 2 (Some (january 8)) (Some 19950)
      ∷ transfer Acquirer 20000 (Some 19900) 2 (Some (january 7)) (Some 19951) ∷ [])
      ≡ replicate 2 (Ok (Status fate.Unmatched None))
  -- who is matched has its partner
  pub taken : each rich (stocked ++ sold ++ sale Acquirer ∷ sale Transferor ∷ []) (AskingStatus 2 ∷ AskingStatus 3 ∷ AskingStatus 4 ∷ [])
      ≡ map Ok (Status (fate.Joined 1) None ∷ Status fate.Matched None ∷ Status (fate.Joined 3) None ∷ [])
  -- kept ones wait for their value date; then the lower becomes matched and the higher joined; one of another value date is no partner
  pub kept : each rich
      (stocked ++ transfer Transferor 100 None 3 None None ∷ transfer Acquirer 100 None 3 None None
      ∷ transfer Transferor 100 None 6 None None ∷ transfer Acquirer 100 None 2 None None ∷ [])
      (AskingStatus 1 ∷ AskingStatus 2 ∷ AskingStatus 3 ∷ AskingStatus 4 ∷ Round ∷ Closing ∷ [])
      ≡ map Ok (Status fate.Kept None ∷ Status fate.Kept None ∷ Status fate.Kept None ∷ Status fate.Unmatched None
      ∷ RoundMade 0 ∷ Closed (ending 0 1) ∷ [])
  pub woken : each rich
      (stocked ++ transfer Transferor 100 None 3 None None ∷ transfer Acquirer 100 None 3 None None
      ∷ transfer Transferor 100 None 6 None None ∷ transfer Acquirer 100 None 2 None None ∷ [] ++ next_day)
      (AskingStatus 1 ∷ AskingStatus 2 ∷ AskingStatus 3 ∷ AskingStatus 4 ∷ Round ∷ [])
      ≡ Ok (Status fate.Matched None) ∷ Ok (Status (fate.Joined 1) None) ∷ Ok (Status fate.Kept None) ∷ Err NotFound
      ∷ Ok (RoundMade 1) ∷ []
  pub still_kept : reply rich (stocked ++ transfer Transferor 100 None 7 None None ∷ [] ++ days_on 2) (AskingStatus 1) ≡ Ok (Status fate.Kept None)
  -- inside one participant an instruction is matched alone
  pub alone : answers rich (stocked ++ inside Transferor ∷ AskingStatus 1 ∷ Round ∷ AskingHolding 1 4 ∷ [])
      ≡ map Ok (Opened (Some (january 2)) ∷ Registered 4 ∷ Placed 50000 ∷ Instructed 1 ∷ Status fate.Matched None
      ∷ RoundMade 1 ∷ holds 30000 20000 0 0 ∷ [])
  -- a round tries in rising serials, each once, at what those before it left
  pub in_order : each rich (stocked ++ gift 1 2 20000 ++ gift 2 0 20000) (Round ∷ Closing ∷ [])
      ≡ map Ok (RoundMade 2 ∷ Closed (ending 2 0) ∷ [])
  pub against_order : each rich (stocked ++ gift 2 0 20000 ++ gift 1 2 20000) (Round ∷ Closing ∷ [])
      ≡ map Ok (RoundMade 1 ∷ Closed (ending 1 1) ∷ [])
  pub not_twice_given : reply rich (stocked ++ gift 1 2 30000 ++ gift 1 0 30000) Round ≡ Ok (RoundMade 1)
  -- short of nominal and money, it waits with 19, and nothing is paid
  pub both_short : each (three (0 ∷ 49500 ∷ 19899 ∷ [])) (stocked ++ sold ++ pledge 30001 ∷ Round ∷ [])
      (AskingStatus 1 ∷ AskingStatus 2 ∷ [])
      ≡ map Ok (Status fate.Matched (Some NominalShort) ∷ Status (fate.Joined 1) None ∷ [])
  pub nothing_paid : balances rich (stocked ++ sold ++ pledge 30001 ∷ Round ∷ []) ≡ 49500 ∷ 950500 ∷ 500000 ∷ []
  -- without a price nothing is paid
  pub gift_unpaid : balances rich (stocked ++ gift 1 2 20000 ++ Round ∷ []) ≡ 49500 ∷ 950500 ∷ 500000 ∷ []
  -- the latest try's cause stands: 20 after 19
  pub latest_cause :
      reply (three (0 ∷ 49500 ∷ 19899 ∷ [])) (stocked ++ sold ++ pledge 30001 ∷ Round ∷ Releasing 1 1 ∷ Round ∷ []) (AskingStatus 1)
      ≡ Ok (Status fate.Matched (Some MoneyShort))
  -- a settled leg that had waited keeps its cause; a repo that goes out does not
  pub settled_cause : reply rich (stocked ++ sold ++ pledge 30001 ∷ Round ∷ Releasing 1 1 ∷ Round ∷ []) (AskingStatus 1)
      ≡ Ok (Status fate.Settled (Some NominalShort))
  pub out_cause : reply rich (stocked ++ repo ++ pledge 30001 ∷ Round ∷ Releasing 1 1 ∷ Round ∷ []) (AskingStatus 1)
      ≡ Ok (Status fate.RepoOut None)
  pub back_cause :
      reply rich (stocked ++ repo ++ days_on 3 ++ blocking 2 Own 4 100 ∷ Round ∷ Releasing 2 1 ∷ Round ∷ []) (AskingStatus 1)
      ≡ Ok (Status fate.RepoBack (Some NominalShort))
  -- a repo goes out, comes back on its date and not before, turned round at the return price
  pub repo_runs : answers rich (stocked ++ repo ++ Round ∷ AskingHolding 2 4 ∷ Round ∷ Closing ∷ Opening ∷ Closing ∷ Opening ∷ Round
      ∷ AskingStatus 1 ∷ Closing ∷ Opening ∷ Round ∷ AskingStatus 1 ∷ AskingStatus 2 ∷ AskingHolding 1 4 ∷ AskingHolding 2 4 ∷ Closing ∷ [])
      ≡ map Ok (Opened (Some (january 2)) ∷ Registered 4 ∷ Placed 50000 ∷ Instructed 1 ∷ Instructed 2 ∷ RoundMade 1
      ∷ holds 20000 0 0 0 ∷ RoundMade 0 ∷ Closed (ending 0 0) ∷ Opened (Some (january 3)) ∷ Closed (ending 0 0)
      ∷ Opened (Some (january 6)) ∷ RoundMade 0 ∷ Status fate.RepoOut None ∷ Closed (ending 0 0)
      ∷ Opened (Some (january 7)) ∷ RoundMade 1 ∷ Status fate.RepoBack None ∷ Status (fate.Joined 1) None
      ∷ holds 50000 0 0 0 ∷ holds 0 0 0 0 ∷ Closed (ending 0 0) ∷ [])
  pub repo_out_pays : balances rich (stocked ++ repo ++ Round ∷ []) ≡ 49500 ∷ 970400 ∷ 480100 ∷ []
  pub repo_back_pays : balances rich (stocked ++ repo ++ days_on 3 ++ Round ∷ []) ≡ 49500 ∷ 950450 ∷ 500050 ∷ []
  -- closing: one last round, and then the unmatched are refused with 21, matched and returns due with their cause; a pair counts once
  pub last_round : each rich (stocked ++ sold) (Closing ∷ []) ≡ Ok (Closed (ending 1 0)) ∷ []
  pub closing_refuses : answers rich
      (stocked ++ sale Acquirer ∷ gift 1 2 50001 ++ repo ++ transfer Transferor 100 None 3 None None ∷ Closing ∷ AskingStatus 1
      ∷ AskingStatus 2 ∷ AskingStatus 3 ∷ AskingStatus 4 ∷ AskingStatus 6 ∷ [])
      ≡ map Ok (Opened (Some (january 2)) ∷ Registered 4 ∷ Placed 50000 ∷ Instructed 1 ∷ Instructed 2 ∷ Instructed 3
      ∷ Instructed 4 ∷ Instructed 5 ∷ Instructed 6 ∷ Closed (ending 1 2) ∷ Status fate.Refused (Some NoPartner)
      ∷ Status fate.Refused (Some NominalShort) ∷ Status (fate.Joined 2) None ∷ Status fate.RepoOut None
      ∷ Status fate.Kept None ∷ [])
  pub return_refused : each rich (stocked ++ repo ++ days_on 3 ++ blocking 2 Own 4 100 ∷ Closing ∷ [])
      (AskingStatus 1 ∷ AskingStatus 2 ∷ [])
      ≡ map Ok (Status fate.ReturnRefused (Some NominalShort) ∷ Status (fate.Joined 1) None ∷ [])
  pub return_counted : reply rich (stocked ++ repo ++ days_on 3 ++ blocking 2 Own 4 100 ∷ []) Closing ≡ Ok (Closed (ending 0 1))
  -- with its partner a joined one leaves the list, and a repo that is out stays
  pub left : each rich (stocked ++ repo ++ days_on 4) (AskingStatus 1 ∷ AskingStatus 2 ∷ []) ≡ refused 2 NotFound
  pub stayed : each rich (stocked ++ repo ++ days_on 1) (AskingStatus 1 ∷ AskingStatus 2 ∷ [])
      ≡ map Ok (Status fate.RepoOut None ∷ Status (fate.Joined 1) None ∷ [])
  -- how answers are shown: letters of fates, letter and values of the answers to lines
  pub letters : map fate_letter
      (fate.Kept ∷ fate.Unmatched ∷ fate.Matched ∷ fate.Joined 1 ∷ fate.Settled ∷ fate.RepoOut ∷ fate.RepoBack ∷ fate.Refused
      ∷ fate.ReturnRefused ∷ fate.Cancelled ∷ [])
      ≡ 107 ∷ 117 ∷ 109 ∷ 106 ∷ 115 ∷ 111 ∷ 98 ∷ 114 ∷ 108 ∷ 120 ∷ []
  pub accepted_letter : map reply_letter (Ok (Closed (ending 1 2)) ∷ Err (of_no_field NotFound) ∷ []) ≡ 65 ∷ 78 ∷ []
  pub values : map reply_values
      (Ok (Closed (ending 1 2)) ∷ Ok (holds 1 2 3 4) ∷ Ok (Status (fate.Joined 7) None) ∷ Ok (Status fate.Settled (Some NominalShort))
      ∷ Ok (Status fate.Refused (Some NoPartner)) ∷ Ok (Status fate.Kept None) ∷ Err (of_no_field NotFound)
      ∷ Err record { refusal = FieldForm; field = Some 3 } ∷ [])
      ≡ (num 1 ∷ num 2 ∷ []) ∷ (num 1 ∷ num 2 ∷ num 3 ∷ num 4 ∷ []) ∷ (letter 106 ∷ num 7 ∷ []) ∷ (letter 115 ∷ num 19 ∷ [])
      ∷ (letter 114 ∷ num 21 ∷ []) ∷ (letter 107 ∷ num 0 ∷ []) ∷ (num 17 ∷ num 0 ∷ []) ∷ (num 9 ∷ num 3 ∷ []) ∷ []
