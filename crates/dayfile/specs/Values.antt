-- The values of fields.
use Rattle.std.specs.Prelude.{ℕ, ◌+◌, ◌-◌, ◌*◌, Bool, true, false, cond, not, ◌&&◌, ◌||◌, List, [], ◌∷◌, length, is_some, Some, None, Option, option_map, ◌==◌, nat_le, nat_lt, slice_index}
use Rattle.std.specs.Str.{all_ascii_digits}
use Rattle.calendar.specs.declared.Date as calendar
use Rattle.rulebook.specs.declared.Side as sides
use Rattle.rulebook.specs.declared.Sender as senders
use Rattle.rulebook.specs.declared.Side.TheVariants.{Own, Customer}
use Rattle.rulebook.specs.declared.Sender.TheVariants.{Transferor, Acquirer}
use Rattle.dayfile.specs.Text.{if_some}
use Rattle.dayfile.specs.Looks.{Look, blank, date, number, letter, letter_of}
use Rattle.dayfile.specs.Kinds.{Form, Number, Date, Side, Sender, NumberOrBlank, DateOrBlank}

-- the number that digits write behind n
abbrev pub value_from : ℕ → List ℕ → ℕ
value_from n [] = n
value_from n (b ∷ bs) = value_from (n * 10 + (b - 48)) bs

abbrev pub value : List ℕ → ℕ
value bs = value_from 0 bs

-- 1 to 16 digits without a needless leading 0
abbrev pub is_numeral : List ℕ → Bool
is_numeral bs = (nat_le 1 (length bs) && nat_le (length bs) 16) && (not (nat_lt 1 (length bs) && slice_index bs 0 == 48) && all_ascii_digits bs)

-- eight digits
abbrev pub is_eight : List ℕ → Bool
is_eight bs = length bs == 8 && all_ascii_digits bs

-- the number of a field
abbrev pub number_of : Look → Option ℕ
number_of blank = None
number_of (date bs) = cond (is_numeral bs) (Some (value bs)) None
number_of (number bs) = cond (is_numeral bs) (Some (value bs)) None
number_of (letter bs) = None

-- the date of a field
abbrev pub date_of : Look → Option calendar.Date
date_of blank = None
date_of (date bs) = cond (is_eight bs) (Some (record { number = value bs })) None
date_of (number bs) = None
date_of (letter bs) = None

-- O and C name the sides
abbrev pub side_named : ℕ → Option sides.Side
side_named c = cond (c == 79) (Some Own) (cond (c == 67) (Some Customer) None)

abbrev pub side_of : Look → Option sides.Side
side_of l = if_some (letter_of l) side_named

-- T and A name the senders
abbrev pub sender_named : ℕ → Option senders.Sender
sender_named c = cond (c == 84) (Some Transferor) (cond (c == 65) (Some Acquirer) None)

abbrev pub sender_of : Look → Option senders.Sender
sender_of l = if_some (letter_of l) sender_named

abbrev pub is_blank : Look → Bool
is_blank blank = true
is_blank (date bs) = false
is_blank (number bs) = false
is_blank (letter bs) = false

-- what a field says that may be blank: nothing if it is, else what it says otherwise
abbrev pub or_blank : {X : Type 0} → (Look → Option X) → Look → Option (Option X)
or_blank f l = cond (is_blank l) (Some None) (option_map Some (f l))

-- whether a field is of a form
abbrev pub fits : Form → Look → Bool
fits Number l = is_some (number_of l)
fits Date l = is_some (date_of l)
fits Side l = is_some (side_of l)
fits Sender l = is_some (sender_of l)
fits NumberOrBlank l = is_blank l || is_some (number_of l)
fits DateOrBlank l = is_blank l || is_some (date_of l)
