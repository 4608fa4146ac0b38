-- Which letters each state takes.
use Rattle.std.specs.Prelude.{◌≡◌, ℕ, ◌≤◌, Bool, false, cond, ◌||◌, List, [], ◌∷◌, ◌==◌}
use Rattle.rulebook.specs.declared.Call.{Call}
use Rattle.dayfile.specs.Kinds.{kind_letter}
use Rattle.dayfile.specs.Spelling.{kind_called}
use Rattle.rulebook.specs.States.{shut, on_a_day, on_no_day}
use Rattle.rulebook.specs.Laws.{suits}

-- the letter of a call's kind
abbrev pub call_letter : Call → ℕ
call_letter c = kind_letter (kind_called c)

abbrev pub is_among : ℕ → List ℕ → Bool
is_among c [] = false
is_among c (x ∷ xs) = c == x || is_among c xs

-- shut takes D, S, H; open takes all but D; open on no day takes E, S, H
abbrev pub taken_by : ℕ → List ℕ
taken_by state =
    cond (state == shut) (68 ∷ 83 ∷ 72 ∷ [])
    (cond (state == on_a_day) (78 ∷ 80 ∷ 84 ∷ 88 ∷ 66 ∷ 70 ∷ 82 ∷ 69 ∷ 77 ∷ 83 ∷ 72 ∷ [])
    (cond (state == on_no_day) (69 ∷ 83 ∷ 72 ∷ []) []))

abbrev pub takes : ℕ → ℕ → Bool
takes letter state = is_among letter (taken_by state)

-- the letters that a state takes are those of the calls that suit it by the rules
abbrev pub LettersSuit : Type 0
LettersSuit = (state : ℕ) (c : Call) → state ≤ 2 → takes (call_letter c) state ≡ suits state c
