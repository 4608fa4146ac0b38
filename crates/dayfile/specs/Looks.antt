-- What a field looks like.
use Rattle.std.specs.Prelude.{ℕ, ◌+◌, min, cond, List, [], ◌∷◌, length, Some, None, Option, ◌==◌, slice_index}
use Rattle.std.specs.Str.{all_ascii_digits}
use Rattle.dayfile.specs.Text.{fields}

-- no bytes, eight digits, other digits, or anything else
pub data Look : Type 0 where
  blank : Look
  date : List ℕ → Look
  number : List ℕ → Look
  letter : List ℕ → Look

abbrev pub look_of : List ℕ → Look
look_of bs = cond (length bs == 0) blank (cond (all_ascii_digits bs) (cond (length bs == 8) (date bs) (number bs)) (letter bs))

-- the one byte of a letter
abbrev pub letter_of : Look → Option ℕ
letter_of blank = None
letter_of (date bs) = None
letter_of (number bs) = None
letter_of (letter bs) = cond (length bs == 1) (Some (slice_index bs 0)) None

-- the number behind a number; there is none behind the largest that is counted
abbrev pub next_number : ℕ → ℕ
next_number n = min (n + 1) 18446744073709551615

-- fields with their numbers, from n on
abbrev pub numbered : ℕ → List (List ℕ) → List (ℕ × Look)
numbered n [] = []
numbered n (f ∷ fs) = (n, look_of f) ∷ numbered (next_number n) fs

-- the fields of a line: the kind is field 1
abbrev pub line_looks : List ℕ → List (ℕ × Look)
line_looks line = numbered 1 (fields line)

-- the field with a number, blank where there is none
abbrev pub field_at : ℕ → List (ℕ × Look) → Look
field_at n [] = blank
field_at n (f ∷ fs) = cond (f.0 == n) f.1 (field_at n fs)
