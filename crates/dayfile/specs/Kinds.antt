-- The kinds of lines: their letters, and the forms of their fields.
use Rattle.std.specs.Prelude.{ℕ, cond, List, [], ◌∷◌, length, Some, None, Ok, Err, Option, Result, ok_or, ◌==◌}
use Rattle.refusals.specs.declared.Refusal.{Refusal}
use Rattle.refusals.specs.declared.Refusal.TheVariants.{UnknownKind, FieldCount}
use Rattle.dayfile.specs.Text.{if_some, if_ok}
use Rattle.dayfile.specs.Looks.{Look, letter_of}
use Rattle.dayfile.specs.Readers.{line_fields}
use Rattle.dayfile.specs.declared.kinds.Kind.{Kind}
use Rattle.dayfile.specs.declared.kinds.Kind.TheVariants.{Opening, NewIssue, Placing, Instructing, Cancelling, Blocking, Releasing, Round, Closing, Redeeming, AskingStatus, AskingHolding}

-- the letter of each kind: D N P T X B F R E M S H
abbrev pub kind_letter : Kind → ℕ
kind_letter Opening = 68
kind_letter NewIssue = 78
kind_letter Placing = 80
kind_letter Instructing = 84
kind_letter Cancelling = 88
kind_letter Blocking = 66
kind_letter Releasing = 70
kind_letter Round = 82
kind_letter Closing = 69
kind_letter Redeeming = 77
kind_letter AskingStatus = 83
kind_letter AskingHolding = 72

abbrev pub kinds : List Kind
kinds = Opening ∷ NewIssue ∷ Placing ∷ Instructing ∷ Cancelling ∷ Blocking ∷ Releasing ∷ Round ∷ Closing ∷ Redeeming ∷ AskingStatus ∷ AskingHolding ∷ []

-- the kind of these that a letter names
abbrev pub kind_among : List Kind → ℕ → Option Kind
kind_among [] c = None
kind_among (k ∷ ks) c = cond (kind_letter k == c) (Some k) (kind_among ks c)

abbrev pub kind_of : ℕ → Option Kind
kind_of c = kind_among kinds c

-- a letter's kind, or a refusal where it names none
abbrev pub named_kind : ℕ → Result Kind Refusal
named_kind c = ok_or (kind_of c) UnknownKind

-- the form that a field has to have
pub data Form : Type 0 where
  Number Date Side Sender NumberOrBlank DateOrBlank : Form

-- the forms of the fields behind the kind
abbrev pub forms : Kind → List Form
forms Opening = []
forms NewIssue = Number ∷ Date ∷ []
forms Placing = Number ∷ Number ∷ Side ∷ Number ∷ Number ∷ []
forms Instructing = Sender ∷ Number ∷ Side ∷ Number ∷ Side ∷ Number ∷ Number ∷ NumberOrBlank ∷ Date ∷ DateOrBlank ∷ NumberOrBlank ∷ []
forms Cancelling = Number ∷ Number ∷ []
forms Blocking = Number ∷ Side ∷ Number ∷ Number ∷ []
forms Releasing = Number ∷ Number ∷ []
forms Round = []
forms Closing = []
forms Redeeming = Number ∷ Number ∷ []
forms AskingStatus = Number ∷ []
forms AskingHolding = Number ∷ Number ∷ []

-- the kind that a field names: it is exactly one of the letters
abbrev pub kind_in : Look → Option Kind
kind_in l = if_some (letter_of l) kind_of

-- a kind with that many fields behind it
abbrev pub counted_kind : Option Kind → ℕ → Result Kind Refusal
counted_kind None n = Err UnknownKind
counted_kind (Some k) n = cond (n == length (forms k)) (Ok k) (Err FieldCount)

-- the kind of a line by its fields, which are as many as its kind has
abbrev pub fields_kind : List (ℕ × Look) → Result Kind Refusal
fields_kind [] = Err UnknownKind
fields_kind (f ∷ fs) = counted_kind (kind_in f.1) (length fs)

-- the kind of a line
abbrev pub read_kind : List ℕ → Result Kind Refusal
read_kind line = if_ok (line_fields line) fields_kind
