-- Answer lines as bytes.
use Rattle.std.specs.Prelude.{ℕ, ◌-◌, List, [], ◌∷◌, ◌++◌, length, replicate, decimal, Result}
use Rattle.rulebook.specs.declared.Answer.{Answer}
use Rattle.rulebook.specs.declared.Fault.{Fault}
use Rattle.rulebook.specs.Answers.{Value, num, letter, reply_letter, reply_values}

-- a value as it is written: a number in base ten, or a letter
abbrev pub value_text : Value → List ℕ
value_text (num n) = decimal n
value_text (letter c) = c ∷ []

-- a text with values behind it, each behind a comma
abbrev pub behind : List ℕ → List Value → List ℕ
behind text [] = text
behind text (v ∷ vs) = behind (text ++ 44 ∷ value_text v) vs

-- the answer to the line with that number: the number, a letter, the values, byte 10
abbrev pub answer_line : ℕ → Result Answer Fault → List ℕ
answer_line n a = behind (decimal n ++ 44 ∷ reply_letter a ∷ []) (reply_values a) ++ 10 ∷ []

-- 120 bytes: a text, and zeros behind it
abbrev pub padded : List ℕ → List ℕ
padded text = text ++ replicate (120 - length text) 0
