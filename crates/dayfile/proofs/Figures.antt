-- Digits and the numbers that they write.
use Rattle.std.proofs.Common.{◌≡◌, ℕ, ◌+◌, ◌-◌, ◌*◌, ◌^◌, ◌<◌, ◌≤◌, true, eqb, List, [], ◌∷◌, length, get_or, arith, rules}
use Rattle.std.specs.Int.{IsInRange}
use Rattle.std.specs.Str.{all_ascii_digits}
use Rattle.std.proofs.lemmas.Str.Parse.{IsNumeralModel, numerals_by_fold, digits_value_short, digit_at}
use Rattle.std.proofs.lemmas.Bool.{and_parts, eqb-true}
use Rattle.dayfile.specs.Values.{value, value_from, is_eight}

pub own : IsNumeralModel (λ ds. all_ascii_digits ds ≡ true) value
own = numerals_by_fold (λ ds. all_ascii_digits ds ≡ true) (search rules) value_from (search rules)

pub digits_below : (bs : List ℕ) (k : ℕ) → all_ascii_digits bs ≡ true → length bs ≤ k → value bs < 10 ^ k
digits_below bs k d h = digits_value_short own bs k d h

pub digit : (bs : List ℕ) (i : ℕ) → all_ascii_digits bs ≡ true → i < length bs → IsInRange 48 57 (get_or bs i 0)
digit bs i d h = digit_at bs i (own.to bs d) h

-- a number only grows with more digits
pub value_grows : (n : ℕ) (bs : List ℕ) → n ≤ value_from n bs
value_grows n [] = omega arith
value_grows n (b ∷ bs) = omega (arith, value_grows (n * 10 + (b - 48)) bs)

pub eight_below : (bs : List ℕ) → is_eight bs ≡ true → value bs < 10 ^ 8
eight_below bs e =
    let p = and_parts (eqb (length bs) 8) (all_ascii_digits bs) e in
    digits_below bs 8 p.1 (omega (arith, eqb-true (length bs) 8 p.0))
