-- What readers hand out.
use Rattle.std.specs.Prelude.{ℕ, cond, ◌&&◌, List, length, Ok, Err, Result, nat_le}
use Rattle.refusals.specs.declared.Refusal.{Refusal}
use Rattle.refusals.specs.declared.Refusal.TheVariants.{FileTooLong, LineLength}
use Rattle.dayfile.specs.declared.field.Field.{Field}
use Rattle.dayfile.specs.declared.field.Field.TheVariants.{Blank, Date, Number, Letter}
use Rattle.dayfile.specs.declared.fields.Fields.{Fields}
use Rattle.dayfile.specs.Text.{lines, parts_left}
use Rattle.dayfile.specs.Looks.{Look, blank, date, number, letter, next_number, numbered, line_looks}

-- the lines of a day file, which has at most 65,536 bytes
abbrev pub file_lines : List ℕ → Result (List (List ℕ)) Refusal
file_lines file = cond (nat_le (length file) 65536) (Ok (lines file)) (Err FileTooLong)

-- what a field that was handed out looks like
abbrev pub look : Field → Look
look (Blank b) = blank
look (Date b) = date b.now
look (Number b) = number b.now
look (Letter b) = letter b.now

abbrev pub shown : ℕ × Field → ℕ × Look
shown f = (f.0, look f.1)

-- the fields that a reader has still to hand out, each with its number
abbrev pub fields_left : Fields → List (ℕ × Look)
fields_left r = numbered (next_number r.number) (parts_left r.rest)

-- the fields of a line, which has 1 to 120 bytes
abbrev pub line_fields : List ℕ → Result (List (ℕ × Look)) Refusal
line_fields line = cond (nat_le 1 (length line) && nat_le (length line) 120) (Ok (line_looks line)) (Err LineLength)
