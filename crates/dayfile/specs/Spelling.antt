-- How a call is spelled.
use Rattle.std.specs.Prelude.{◌≡◌, ℕ, zero, suc, ◌+◌, ◌/◌, ◌%◌, ◌^◌, ◌<◌, ◌≤◌, List, [], ◌∷◌, ◌++◌, map, length, Some, None, Ok, decimal, Option}
use Rattle.std.specs.List.{AllByRecursion}
use Rattle.calendar.specs.declared.Date.{Date}
use Rattle.rulebook.specs.declared.Side.{Side}
use Rattle.rulebook.specs.declared.Side.TheVariants.{Own, Customer}
use Rattle.rulebook.specs.declared.Sender.{Sender}
use Rattle.rulebook.specs.declared.Sender.TheVariants.{Transferor, Acquirer}
use Rattle.rulebook.specs.declared.Call.{Call}
use Rattle.rulebook.specs.declared.Call.TheVariants.{Opening, NewIssue, Placing, Instructing, Cancelling, Blocking, Releasing, Round, Closing, Redeeming, AskingStatus, AskingHolding}
use Rattle.dayfile.specs.declared.kinds.Kind.{Kind}
use Rattle.dayfile.specs.declared.kinds.Kind.TheVariants as kind
use Rattle.dayfile.specs.Text.{commas}
use Rattle.dayfile.specs.Kinds.{kind_letter}
use Rattle.dayfile.specs.Calls.{read_call}

-- k digits of a number, zeros in front included
abbrev pub figures : ℕ → ℕ → List ℕ
figures zero n = []
figures (suc k) n = figures k (n / 10) ++ (48 + n % 10) ∷ []

-- what a field says: a number, a date, a letter, or nothing
pub data Item : Type 0 where
  a_number : ℕ → Item
  a_date : Date → Item
  a_letter : ℕ → Item
  nothing : Item

abbrev pub item_text : Item → List ℕ
item_text (a_number n) = decimal n
item_text (a_date d) = figures 8 d.number
item_text (a_letter c) = c ∷ []
item_text nothing = []

-- a number has at most 16 digits, a date at most eight
abbrev pub Bounded : Item → Type 0
Bounded (a_number n) = n < 10 ^ 16
Bounded (a_date d) = d.number < 10 ^ 8
Bounded (a_letter c) = Unit {0}
Bounded nothing = Unit {0}

abbrev pub side_letter : Side → ℕ
side_letter Own = 79
side_letter Customer = 67

abbrev pub sender_letter : Sender → ℕ
sender_letter Transferor = 84
sender_letter Acquirer = 65

abbrev pub number_or_nothing : Option ℕ → Item
number_or_nothing None = nothing
number_or_nothing (Some n) = a_number n

abbrev pub date_or_nothing : Option Date → Item
date_or_nothing None = nothing
date_or_nothing (Some d) = a_date d

-- the kind of a call, and what the fields behind it say
abbrev pub kind_called : Call → Kind
kind_called Opening = kind.Opening
kind_called (NewIssue i d) = kind.NewIssue
kind_called (Placing p) = kind.Placing
kind_called (Instructing o) = kind.Instructing
kind_called (Cancelling p s) = kind.Cancelling
kind_called (Blocking p) = kind.Blocking
kind_called (Releasing p b) = kind.Releasing
kind_called Round = kind.Round
kind_called Closing = kind.Closing
kind_called (Redeeming i p) = kind.Redeeming
kind_called (AskingStatus s) = kind.AskingStatus
kind_called (AskingHolding p i) = kind.AskingHolding

abbrev pub call_items : Call → List Item
call_items Opening = []
call_items (NewIssue i d) = a_number i ∷ a_date d ∷ []
call_items (Placing p) = a_number p.issue ∷ a_number p.participant ∷ a_letter (side_letter p.side) ∷ a_number p.nominal ∷ a_number p.price ∷ []
call_items (Instructing o) =
    a_letter (sender_letter o.sender)
    ∷ a_number o.transferor
    ∷ a_letter (side_letter o.transferor_side)
    ∷ a_number o.acquirer
    ∷ a_letter (side_letter o.acquirer_side)
    ∷ a_number o.issue
    ∷ a_number o.nominal
    ∷ number_or_nothing o.price
    ∷ a_date o.value_date
    ∷ date_or_nothing o.return_date
    ∷ number_or_nothing o.return_price
    ∷ []
call_items (Cancelling p s) = a_number p ∷ a_number s ∷ []
call_items (Blocking p) = a_number p.participant ∷ a_letter (side_letter p.side) ∷ a_number p.issue ∷ a_number p.nominal ∷ []
call_items (Releasing p b) = a_number p ∷ a_number b ∷ []
call_items Round = []
call_items Closing = []
call_items (Redeeming i p) = a_number i ∷ a_number p ∷ []
call_items (AskingStatus s) = a_number s ∷ []
call_items (AskingHolding p i) = a_number p ∷ a_number i ∷ []

-- the line that makes a call
abbrev pub spelled : Call → List ℕ
spelled c = commas (kind_letter (kind_called c) ∷ []) (map item_text (call_items c))

-- a call that a line can make
pub record Writable (c : Call) : Type 0 where
  pub bounded : AllByRecursion Bounded (call_items c)
  pub short : length (spelled c) ≤ 120

-- the line of a call makes that call
abbrev pub ReadSpelled : Type 0
ReadSpelled = (c : Call) → Writable c → read_call (spelled c) ≡ Ok c
