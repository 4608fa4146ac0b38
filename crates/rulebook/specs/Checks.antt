-- The checks of each call, in order: the first that fails is answered.
use Rattle.std.specs.Prelude.{ℕ, ◌+◌, Bool, true, false, cond, not, ◌&&◌, ◌||◌, List, [], ◌∷◌, length, is_some, Some, None, Ok, Err, Option, Result, ◌==◌, nat_le, nat_lt, slice_index_or}
use Rattle.refusals.specs.declared.Refusal.{Refusal}
use Rattle.refusals.specs.declared.Refusal.TheVariants.{WrongState, UnknownParticipant, WrongIssue, AmountLimits, WrongDate, InstructionShape, NoPlaceLeft, NotFound, OutstandingLimit, NominalShort, MoneyShort}
use Rattle.calendar.specs.declared.Date.{Date}
use Rattle.calendar.specs.Days.{is_date, is_business, first_from, count_between}
use Rattle.rulebook.specs.declared.Side.{Side}
use Rattle.rulebook.specs.declared.Side.TheVariants.{Own, Customer}
use Rattle.rulebook.specs.declared.Sender.{Sender}
use Rattle.rulebook.specs.declared.Sender.TheVariants.{Transferor, Acquirer}
use Rattle.rulebook.specs.declared.Order.{Order}
use Rattle.rulebook.specs.declared.Fate.TheVariants as fate
use Rattle.rulebook.specs.declared.Placement.{Placement}
use Rattle.rulebook.specs.declared.Pledge.{Pledge}
use Rattle.rulebook.specs.States.{date_of, shut, on_a_day, on_no_day}
use Rattle.rulebook.specs.Words.{some_passes, same_side, Place, place, Payment, Amounts, Blocking, Instruction, alike, Numbered, Setting, Book, blocked, free, payment, outstanding}

-- a test, and the refusal where it fails
abbrev pub Check : Type 0
Check = Bool × Refusal

abbrev pub verdict : List Check → Result Unit Refusal
verdict [] = Ok tt
verdict (c ∷ cs) = cond c.0 (verdict cs) (Err c.1)

-- the last business day on which the register was opened: today, while it is open on a day
abbrev pub today : Book → ℕ
today k = k.standing.day

abbrev pub is_shut : Book → Bool
is_shut k = k.standing.state == shut

abbrev pub is_on_a_day : Book → Bool
is_on_a_day k = k.standing.state == on_a_day

-- a participant is known if it is one of the register's, and has an account
abbrev pub knows : Setting → ℕ → Bool
knows st p = nat_lt p st.participants && nat_lt p (length st.accounts)

-- a registered issue has a maturity
abbrev pub maturity : Book → ℕ → Option Date
maturity k i = slice_index_or k.issues i None

abbrev pub is_registered : Book → ℕ → Bool
is_registered k i = is_some (maturity k i)

-- the date on which a registered issue matures
abbrev pub matures : Book → ℕ → ℕ
matures k i = date_of (maturity k i)

abbrev pub within : ℕ → ℕ → ℕ → Bool
within low high n = nat_le low n && nat_le n high

-- a nominal is 100 to 10^13, a price 1 to 10^13; a blank price is no price
abbrev pub nominal_fits : ℕ → Bool
nominal_fits n = within 100 10000000000000 n

abbrev pub price_fits : ℕ → Bool
price_fits n = within 1 10000000000000 n

abbrev pub blank_or : (ℕ → Bool) → Option ℕ → Bool
blank_or t None = true
blank_or t (Some n) = t n

-- there is room for one more, and a number for it
abbrev pub has_room : {X : Type 0} → ℕ → Numbered X → Bool
has_room most x = nat_lt (length x.standing) most && nat_le x.next 999999

-- the payer's balance is enough; between equal accounts nothing is needed
abbrev pub affords : Amounts → Option Payment → Bool
affords a None = true
affords a (Some y) = nat_le y.amount (a.balance y.payer)

-- opening
abbrev pub open_checks : Book → List Check
open_checks k = (is_shut k, WrongState) ∷ []

-- new issue: its maturity is a calendar date later than today, with a business day on or after it
abbrev pub maturity_fits : Setting → Book → ℕ → Bool
maturity_fits st k d = is_date d && (nat_lt (today k) d && is_some (first_from d st.days))

abbrev pub issue_checks : Setting → Book → ℕ → Date → List Check
issue_checks st k i d =
    (is_on_a_day k, WrongState)
    ∷ (nat_lt i 32 && not (is_registered k i), WrongIssue)
    ∷ (maturity_fits st k d.number, WrongDate)
    ∷ []

-- placement: the issue matures later than today
abbrev pub place_checks : Setting → Amounts → Book → Placement → List Check
place_checks st a k o =
    (is_on_a_day k, WrongState)
    ∷ (knows st o.participant, UnknownParticipant)
    ∷ (is_registered k o.issue, WrongIssue)
    ∷ (nominal_fits o.nominal && price_fits o.price, AmountLimits)
    ∷ (nat_lt (today k) (matures k o.issue), WrongDate)
    ∷ (nat_le (outstanding st a o.issue + o.nominal) 1000000000000000, OutstandingLimit)
    ∷ (affords a (payment st o.participant 0 o.price), MoneyShort)
    ∷ []

-- an instruction's dates: a business value date, today or later and before maturity; a return date is a business day after it and before maturity
abbrev pub return_date_fits : Setting → ℕ → ℕ → Option Date → Bool
return_date_fits st value end None = true
return_date_fits st value end (Some d) =
    is_business d.number st.days && (nat_lt value d.number && nat_lt d.number end)

abbrev pub dates_fit : Setting → Book → Order → Bool
dates_fit st k o =
    let value = o.value_date.number in
    let end = matures k o.issue in
    (is_business value st.days && (nat_le (today k) value && nat_lt value end))
    && return_date_fits st value end o.return_date

abbrev pub is_acquirer : Sender → Bool
is_acquirer Transferor = false
is_acquirer Acquirer = true

abbrev pub is_customer : Side → Bool
is_customer Own = false
is_customer Customer = true

-- both ends are one participant
abbrev pub is_inside : Order → Bool
is_inside o = o.transferor == o.acquirer

-- an instruction's shape: it moves nominal between two entries; inside one participant the transferor sends it;
-- a price stands only between own sides of two participants; a return price stands exactly if price and return date do
abbrev pub shape_fits : Order → Bool
shape_fits o =
    not (is_inside o && same_side o.transferor_side o.acquirer_side)
    && (not (is_inside o && is_acquirer o.sender)
    && (not (is_some o.price && (is_inside o || (is_customer o.transferor_side || is_customer o.acquirer_side)))
    && cond
    (is_some o.price && is_some o.return_date)
    (is_some o.return_price)
    (not (is_some o.return_price))))

abbrev pub instruct_checks : Setting → Book → Order → List Check
instruct_checks st k o =
    (is_on_a_day k, WrongState)
    ∷ (knows st o.transferor && knows st o.acquirer, UnknownParticipant)
    ∷ (is_registered k o.issue, WrongIssue)
    ∷ (
      nominal_fits o.nominal && (blank_or price_fits o.price && blank_or price_fits o.return_price),
      AmountLimits,
    )
    ∷ (dates_fit st k o, WrongDate)
    ∷ (shape_fits o, InstructionShape)
    ∷ (has_room 256 k.instructions, NoPlaceLeft)
    ∷ []

-- cancelling: a kept or unmatched instruction, sent by that participant
abbrev pub sender_of : Order → Sender → ℕ
sender_of o Transferor = o.transferor
sender_of o Acquirer = o.acquirer

abbrev pub may_cancel : ℕ → ℕ → Instruction → Bool
may_cancel p n i =
    (i.serial == n && sender_of i.order i.order.sender == p)
    && (alike i.fate fate.Kept || alike i.fate fate.Unmatched)

abbrev pub cancel_checks : Setting → Book → ℕ → ℕ → List Check
cancel_checks st k p n =
    (is_on_a_day k, WrongState)
    ∷ (knows st p, UnknownParticipant)
    ∷ (some_passes (may_cancel p n) k.instructions.standing, NotFound)
    ∷ []

-- blocking: three business days or more lie after today and up to the first on or after maturity
abbrev pub days_up_to : List ℕ → ℕ → Option ℕ → ℕ
days_up_to days d None = 0
days_up_to days d (Some e) = count_between d e days

abbrev pub pledge_place : Pledge → Place
pledge_place o = place o.participant o.issue o.side

abbrev pub block_checks : Setting → Amounts → Book → Pledge → List Check
block_checks st a k o =
    (is_on_a_day k, WrongState)
    ∷ (knows st o.participant, UnknownParticipant)
    ∷ (is_registered k o.issue, WrongIssue)
    ∷ (nominal_fits o.nominal, AmountLimits)
    ∷ (nat_le 3 (days_up_to st.days (today k) (first_from (matures k o.issue) st.days)), WrongDate)
    ∷ (has_room 64 k.blockings, NoPlaceLeft)
    ∷ (nat_le o.nominal (free a k.blockings.standing (pledge_place o)), NominalShort)
    ∷ []

-- release: a standing blocking of that participant
abbrev pub is_blocking : ℕ → ℕ → Blocking → Bool
is_blocking p n b = b.number == n && b.place.participant == p

abbrev pub release_checks : Setting → Book → ℕ → ℕ → List Check
release_checks st k p n =
    (is_on_a_day k, WrongState)
    ∷ (knows st p, UnknownParticipant)
    ∷ (some_passes (is_blocking p n) k.blockings.standing, NotFound)
    ∷ []

-- round, and closing
abbrev pub round_checks : Book → List Check
round_checks k = (is_on_a_day k, WrongState) ∷ []

abbrev pub close_checks : Book → List Check
close_checks k = (is_on_a_day k || (k.standing.state == on_no_day), WrongState) ∷ []

-- what a participant holds of an issue on both sides, and what of it is blocked
abbrev pub held : Amounts → ℕ → ℕ → ℕ
held a p i = a.nominal (place p i Own) + a.nominal (place p i Customer)

abbrev pub held_back : List Blocking → ℕ → ℕ → ℕ
held_back bs p i = blocked bs (place p i Own) + blocked bs (place p i Customer)

-- redemption: the issue has matured, something is held, nothing is blocked
abbrev pub redeem_checks : Setting → Amounts → Book → ℕ → ℕ → List Check
redeem_checks st a k i p =
    (is_on_a_day k, WrongState)
    ∷ (knows st p, UnknownParticipant)
    ∷ (is_registered k i, WrongIssue)
    ∷ (nat_le (matures k i) (today k), WrongDate)
    ∷ (nat_lt 0 (held a p i) && (held_back k.blockings.standing p i == 0), NominalShort)
    ∷ (affords a (payment st 0 p (held a p i)), MoneyShort)
    ∷ []

-- the two questions, answered in every state
abbrev pub has_serial : ℕ → Instruction → Bool
has_serial n i = i.serial == n

abbrev pub status_checks : Book → ℕ → List Check
status_checks k n = (some_passes (has_serial n) k.instructions.standing, NotFound) ∷ []

abbrev pub holding_checks : Setting → Book → ℕ → ℕ → List Check
holding_checks st k p i = (knows st p, UnknownParticipant) ∷ (is_registered k i, WrongIssue) ∷ []
