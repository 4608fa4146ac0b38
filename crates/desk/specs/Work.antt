-- What working lines and files makes of a register.
use Rattle.std.specs.Prelude.{◌≡◌, ℕ, ◌+◌, ◌≤◌, List, [], ◌∷◌, ◌++◌, length, Ok, Err, vec_items, Result, Vec, ◌≢◌}
use Rattle.std.specs.declared.alloc.Global.{Global}
use Rattle.refusals.specs.declared.Refusal.{Refusal}
use Rattle.rulebook.specs.declared.Call.{Call}
use Rattle.rulebook.specs.declared.Answer.{Answer}
use Rattle.rulebook.specs.declared.Fault.{Fault}
use Rattle.register.specs.Shows.{View, next}
use Rattle.dayfile.specs.Calls.{of_no_field, read_call}
use Rattle.dayfile.specs.Readers.{file_lines}
use Rattle.rulebook.specs.States.{new_standing}
use Rattle.desk.specs.Year.{business_days_2025}
use Rattle.desk.specs.declared.FileError.{FileError}
use Rattle.desk.specs.declared.FileError.TheVariants.{TooLong, Memory}

-- the answer to a line: an acceptance, or the refusal and the field that it is for, if it is for one
abbrev pub LineReply : Type 0
LineReply = Result Answer Fault

-- a call by the rules, or the refusal that reading the line met first
abbrev pub read_step : View → Result Call Fault → View × LineReply
read_step v (Ok c) = ((next v c).0, of_no_field (next v c).1)
read_step v (Err f) = (v, Err f)

-- one line
abbrev pub line_step : View → List ℕ → View × LineReply
line_step v line = read_step v (read_call line)

-- lines one after the other: what the register shows at the end, and an answer for each line
abbrev pub run_lines : View → List (List ℕ) → View × List LineReply
run_lines v [] = (v, [])
run_lines v (l ∷ ls) =
    let t = line_step v l in
    let rest = run_lines t.0 ls in
    (rest.0, t.1 ∷ rest.1)

abbrev pub by_lines : View → Result (List (List ℕ)) Refusal → View × Result (List LineReply) Refusal
by_lines v (Ok ls) = ((run_lines v ls).0, Ok (run_lines v ls).1)
by_lines v (Err e) = (v, Err e)

-- a whole file: the answers of its lines, or a refusal that changes nothing
abbrev pub worked : View → List ℕ → View × Result (List LineReply) Refusal
worked v file = by_lines v (file_lines file)

-- what working a file says; where memory is short, no line was worked
abbrev pub WorksFile : View → List ℕ → View → Result (Vec LineReply Global) FileError → Type 0
WorksFile v file v' (Ok answers) = (v', Ok (vec_items answers)) ≡ worked v file
WorksFile v file v' (Err (TooLong e)) = (v', Err e) ≡ worked v file
WorksFile v file v' (Err Memory) = v' ≡ v

-- a file counts its last line with or without a line end: both give the same answers and the same register
abbrev pub LastLineCounts : Type 0
LastLineCounts =
    (v : View) (bytes : List ℕ) (b : ℕ) → (b ≢ 10) → length bytes + 2 ≤ 65536
    → worked v (bytes ++ b ∷ 10 ∷ []) ≡ worked v (bytes ++ b ∷ [])

-- what a new register over the calendar of 2025 shows
abbrev pub new_day : View
new_day = record { days = business_days_2025; standing = new_standing }

-- a day's file worked on it
abbrev pub WorksDay : List ℕ → Result (Vec LineReply Global) FileError → Type 0
WorksDay file (Ok answers) = Ok (vec_items answers) ≡ (worked new_day file).1
WorksDay file (Err (TooLong e)) = Err e ≡ (worked new_day file).1
WorksDay file (Err Memory) = Unit {0}
