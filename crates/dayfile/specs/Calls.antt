-- The call that a line makes.
use Rattle.std.specs.Prelude.{ℕ, cond, List, [], ◌∷◌, Some, None, Ok, Err, Option, Result}
use Rattle.std.specs.Option.{unwrap_or}
use Rattle.calendar.specs.declared.Date.{Date}
use Rattle.refusals.specs.declared.Refusal.{Refusal}
use Rattle.refusals.specs.declared.Refusal.TheVariants.{FieldForm}
use Rattle.rulebook.specs.declared.Side.{Side}
use Rattle.rulebook.specs.declared.Side.TheVariants.{Own}
use Rattle.rulebook.specs.declared.Sender.{Sender}
use Rattle.rulebook.specs.declared.Sender.TheVariants.{Transferor}
use Rattle.rulebook.specs.declared.Placement.{Placement}
use Rattle.rulebook.specs.declared.Order.{Order}
use Rattle.rulebook.specs.declared.Pledge.{Pledge}
use Rattle.rulebook.specs.declared.Call.{Call}
use Rattle.rulebook.specs.declared.Call.TheVariants.{Opening, NewIssue, Placing, Instructing, Cancelling, Blocking, Releasing, Round, Closing, Redeeming, AskingStatus, AskingHolding}
use Rattle.dayfile.specs.declared.kinds.Kind.{Kind}
use Rattle.dayfile.specs.declared.kinds.Kind.TheVariants as kind
use Rattle.rulebook.specs.declared.Fault.{Fault}
use Rattle.rulebook.specs.Answers as answers
use Rattle.dayfile.specs.Text.{rest_of, if_ok}
use Rattle.dayfile.specs.Looks.{Look, field_at}
use Rattle.dayfile.specs.Readers.{line_fields}
use Rattle.dayfile.specs.Kinds.{Form, forms, fields_kind}
use Rattle.dayfile.specs.Values.{number_of, date_of, side_of, sender_of, fits}

-- the values of the fields with these numbers
abbrev pub number_at : ℕ → List (ℕ × Look) → ℕ
number_at n fs = unwrap_or (number_of (field_at n fs)) 0

abbrev pub date_at : ℕ → List (ℕ × Look) → Date
date_at n fs = unwrap_or (date_of (field_at n fs)) (record { number = 0 })

abbrev pub side_at : ℕ → List (ℕ × Look) → Side
side_at n fs = unwrap_or (side_of (field_at n fs)) Own

abbrev pub sender_at : ℕ → List (ℕ × Look) → Sender
sender_at n fs = unwrap_or (sender_of (field_at n fs)) Transferor

-- issue, participant, side, nominal, price
abbrev pub placement_of : List (ℕ × Look) → Placement
placement_of fs = record { issue = number_at 2 fs; participant = number_at 3 fs; side = side_at 4 fs; nominal = number_at 5 fs; price = number_at 6 fs }

-- sender, transferor, side, acquirer, side, issue, nominal, price, value date, return date, return price
abbrev pub order_of : List (ℕ × Look) → Order
order_of fs = record {
  sender = sender_at 2 fs;
  transferor = number_at 3 fs;
  transferor_side = side_at 4 fs;
  acquirer = number_at 5 fs;
  acquirer_side = side_at 6 fs;
  issue = number_at 7 fs;
  nominal = number_at 8 fs;
  price = number_of (field_at 9 fs);
  value_date = date_at 10 fs;
  return_date = date_of (field_at 11 fs);
  return_price = number_of (field_at 12 fs);
}

-- participant, side, issue, nominal
abbrev pub pledge_of : List (ℕ × Look) → Pledge
pledge_of fs = record { participant = number_at 2 fs; side = side_at 3 fs; issue = number_at 4 fs; nominal = number_at 5 fs }

-- the call of each kind by the values of its fields
abbrev pub call_of : Kind → List (ℕ × Look) → Call
call_of kind.Opening fs = Opening
call_of kind.NewIssue fs = NewIssue (number_at 2 fs) (date_at 3 fs)
call_of kind.Placing fs = Placing (placement_of fs)
call_of kind.Instructing fs = Instructing (order_of fs)
call_of kind.Cancelling fs = Cancelling (number_at 2 fs) (number_at 3 fs)
call_of kind.Blocking fs = Blocking (pledge_of fs)
call_of kind.Releasing fs = Releasing (number_at 2 fs) (number_at 3 fs)
call_of kind.Round fs = Round
call_of kind.Closing fs = Closing
call_of kind.Redeeming fs = Redeeming (number_at 2 fs) (number_at 3 fs)
call_of kind.AskingStatus fs = AskingStatus (number_at 2 fs)
call_of kind.AskingHolding fs = AskingHolding (number_at 2 fs) (number_at 3 fs)

-- the number of the first field that is not of its form
abbrev pub first_fault : List Form → List (ℕ × Look) → Option ℕ
first_fault [] fs = None
first_fault (f ∷ fm) [] = None
first_fault (f ∷ fm) (x ∷ xs) = cond (fits f x.1) (first_fault fm xs) (Some x.0)

-- a refusal that is of no field
abbrev pub of_no_field : {X : Type 0} → Result X Refusal → Result X Fault
of_no_field (Ok x) = Ok x
of_no_field (Err r) = Err (answers.of_no_field r)

-- a call, or its first faulty field
abbrev pub faultless : {X : Type 0} → Option ℕ → X → Result X Fault
faultless None c = Ok c
faultless (Some n) c = Err (record { refusal = FieldForm; field = Some n })

abbrev pub kind_call : List (ℕ × Look) → Kind → Result Call Fault
kind_call fs k = faultless (first_fault (forms k) (rest_of fs)) (call_of k fs)

abbrev pub fields_call : List (ℕ × Look) → Result Call Fault
fields_call fs = if_ok (of_no_field (fields_kind fs)) (kind_call fs)

-- the call that a line makes; the first refusal of its length, kind, number of fields, and forms is answered
abbrev pub read_call : List ℕ → Result Call Fault
read_call line = if_ok (of_no_field (line_fields line)) fields_call
