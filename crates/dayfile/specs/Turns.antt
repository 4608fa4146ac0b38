-- Fields read in turn, each by its form, up to the first that is not of it.
use Rattle.std.specs.Prelude.{ℕ, List, [], ◌∷◌, Some, None, Ok, Err, Option, Result, ok_or}
use Rattle.refusals.specs.declared.Refusal.TheVariants.{FieldForm, FieldCount}
use Rattle.rulebook.specs.declared.Placement.{Placement}
use Rattle.rulebook.specs.declared.Order.{Order}
use Rattle.rulebook.specs.declared.Pledge.{Pledge}
use Rattle.rulebook.specs.declared.Call.{Call}
use Rattle.rulebook.specs.declared.Call.TheVariants.{Opening, NewIssue, Placing, Instructing, Cancelling, Blocking, Releasing, Round, Closing, Redeeming, AskingStatus, AskingHolding}
use Rattle.dayfile.specs.declared.kinds.Kind.{Kind}
use Rattle.dayfile.specs.declared.kinds.Kind.TheVariants as kind
use Rattle.rulebook.specs.declared.Fault.{Fault}
use Rattle.dayfile.specs.Text.{rest_of, if_ok}
use Rattle.dayfile.specs.Looks.{Look}
use Rattle.dayfile.specs.Values.{number_of, date_of, side_of, sender_of, or_blank}

-- what the next field says, or its number where it is not of the form
abbrev pub next_value : {X : Type 0} → (Look → Option X) → List (ℕ × Look) → Result X Fault
next_value said [] = Err (record { refusal = FieldCount; field = None })
next_value said (f ∷ fs) = ok_or (said f.1) (record { refusal = FieldForm; field = Some f.0 })

-- a field, and what is made of its value and the fields behind it
abbrev pub then : {X Y : Type 0} → (Look → Option X) → List (ℕ × Look) → (X → List (ℕ × Look) → Result Y Fault) → Result Y Fault
then said fs f = if_ok (next_value said fs) (λ x. f x (rest_of fs))

abbrev pub placement_in_turn : List (ℕ × Look) → Result Placement Fault
placement_in_turn fs =
    then number_of fs (λ i fs.
    then number_of fs (λ p fs.
    then side_of fs (λ s fs.
    then number_of fs (λ n fs.
    then number_of fs (λ y fs.
    Ok (record { issue = i; participant = p; side = s; nominal = n; price = y }))))))

abbrev pub order_in_turn : List (ℕ × Look) → Result Order Fault
order_in_turn fs =
    then sender_of fs (λ who fs.
    then number_of fs (λ t fs.
    then side_of fs (λ from fs.
    then number_of fs (λ a fs.
    then side_of fs (λ to fs.
    then number_of fs (λ i fs.
    then number_of fs (λ n fs.
    then (or_blank number_of) fs (λ y fs.
    then date_of fs (λ v fs.
    then (or_blank date_of) fs (λ r fs.
    then (or_blank number_of) fs (λ ry fs.
    Ok (record {
      sender = who;
      transferor = t;
      transferor_side = from;
      acquirer = a;
      acquirer_side = to;
      issue = i;
      nominal = n;
      price = y;
      value_date = v;
      return_date = r;
      return_price = ry;
    }))))))))))))

abbrev pub pledge_in_turn : List (ℕ × Look) → Result Pledge Fault
pledge_in_turn fs =
    then number_of fs (λ p fs.
    then side_of fs (λ s fs.
    then number_of fs (λ i fs.
    then number_of fs (λ n fs.
    Ok (record { participant = p; side = s; issue = i; nominal = n })))))

-- two numbers, and the call of them
abbrev pub of_two : (ℕ → ℕ → Call) → List (ℕ × Look) → Result Call Fault
of_two f fs = then number_of fs (λ m fs. then number_of fs (λ n fs. Ok (f m n)))

-- the call of a kind by the fields behind it
abbrev pub call_in_turn : Kind → List (ℕ × Look) → Result Call Fault
call_in_turn kind.Opening fs = Ok Opening
call_in_turn kind.NewIssue fs = then number_of fs (λ i fs. then date_of fs (λ d fs. Ok (NewIssue i d)))
call_in_turn kind.Placing fs = if_ok (placement_in_turn fs) (λ p. Ok (Placing p))
call_in_turn kind.Instructing fs = if_ok (order_in_turn fs) (λ o. Ok (Instructing o))
call_in_turn kind.Cancelling fs = of_two Cancelling fs
call_in_turn kind.Blocking fs = if_ok (pledge_in_turn fs) (λ p. Ok (Blocking p))
call_in_turn kind.Releasing fs = of_two Releasing fs
call_in_turn kind.Round fs = Ok Round
call_in_turn kind.Closing fs = Ok Closing
call_in_turn kind.Redeeming fs = of_two Redeeming fs
call_in_turn kind.AskingStatus fs = then number_of fs (λ n fs. Ok (AskingStatus n))
call_in_turn kind.AskingHolding fs = of_two AskingHolding fs
