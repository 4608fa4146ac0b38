-- Bytes cut into lines and fields.
use Rattle.std.specs.Prelude.{◌≡◌, ℕ, cond, ◌⊎◌, List, [], ◌∷◌, ◌++◌, Some, None, Ok, Err, Option, Result, ◌==◌, ◌≢◌}
use Rattle.std.specs.Borrow.{Bor}
use Rattle.std.specs.List.{AllByRecursion}

-- one byte more in front of the first part
abbrev pub prepend : ℕ → List (List ℕ) → List (List ℕ)
prepend b [] = (b ∷ []) ∷ []
prepend b (p ∷ ps) = (b ∷ p) ∷ ps

-- the parts between marks; `none` is what no bytes at the end are
abbrev pub parts : ℕ → List (List ℕ) → List ℕ → List (List ℕ)
parts mark none [] = none
parts mark none (b ∷ bs) = cond (b == mark) ([] ∷ parts mark none bs) (prepend b (parts mark none bs))

-- lines end with byte 10; bytes behind the last one form a line if there are any
abbrev pub lines : List ℕ → List (List ℕ)
lines file = parts 10 [] file

-- fields are parted by commas, and any of them may be blank
abbrev pub fields : List ℕ → List (List ℕ)
fields line = parts 44 ([] ∷ []) line

-- the fields of what is left of a line, if anything is
abbrev pub parts_left : Option (Bor (List ℕ)) → List (List ℕ)
parts_left None = []
parts_left (Some rest) = fields rest.now

-- the bytes before the first mark
abbrev pub before : ℕ → List ℕ → List ℕ
before mark [] = []
before mark (b ∷ bs) = cond (b == mark) [] (b ∷ before mark bs)

-- what stands behind the first of a list
abbrev pub rest_of : {X : Type 0} → List X → List X
rest_of [] = []
rest_of (x ∷ xs) = xs

-- what comes of a value, if there is one
abbrev pub if_some : {X Y : Type 0} → Option X → (X → Option Y) → Option Y
if_some None f = None
if_some (Some x) f = f x

abbrev pub if_ok : {X Y E : Type 0} → Result X E → (X → Result Y E) → Result Y E
if_ok (Ok x) f = f x
if_ok (Err e) f = Err e

-- bytes among which a mark does not stand
abbrev pub Without : ℕ → List ℕ → Type 0
Without mark bs = AllByRecursion (λ b. b ≢ mark) bs

-- lines, each with byte 10 behind it
abbrev pub ended : List (List ℕ) → List ℕ
ended [] = []
ended (l ∷ ls) = l ++ 10 ∷ ended ls

-- a field, and others each behind a comma
abbrev pub commas : List ℕ → List (List ℕ) → List ℕ
commas f [] = f
commas f (g ∷ gs) = f ++ 44 ∷ commas g gs

abbrev pub commas_between : List (List ℕ) → List ℕ
commas_between [] = []
commas_between (f ∷ fs) = commas f fs

-- no line has a byte 10, and the lines with byte 10 behind each are the file, which may lack the last one
abbrev pub LinesParted : Type 0
LinesParted = (file : List ℕ) → AllByRecursion (Without 10) (lines file) × ((ended (lines file) ≡ file) ⊎ (ended (lines file) ≡ file ++ 10 ∷ []))

-- no field has a comma, and the fields with commas between them are the line
abbrev pub FieldsParted : Type 0
FieldsParted = (line : List ℕ) → AllByRecursion (Without 44) (fields line) × (commas_between (fields line) ≡ line)

-- a file whose last byte b is not 10 has the same lines with byte 10 behind it
abbrev pub SameLines : Type 0
SameLines = (bytes : List ℕ) (b : ℕ) → (b ≢ 10) → lines (bytes ++ b ∷ 10 ∷ []) ≡ lines (bytes ++ b ∷ [])
