-- Steps through days and months: what is left to look at, one day or one month on.
use Rattle.std.proofs.Common.{◌≡◌, ℕ, zero, suc, ◌+◌, ◌-◌, ◌%◌, ◌^◌, ◌≤◌, Bool, true, false, cond, ◌&&◌, eqb, leb, List, [], ◌∷◌, ◌++◌, Some, None, Option, is_some, sym, refl, ap, ◌∙◌, arith}
use native.Mathlib.Nat.{zero-div}
use Rattle.std.specs.List.{find, range_with_len, enumerate_from}
use Rattle.std.specs.Option.{option_map}
use Rattle.std.proofs.lemmas.Bool.Decides.{nat_tests}
use Rattle.calendar.specs.Days.{first_from}
use Rattle.calendar.specs.Masks.{is_set, days_from, days_in, months_from}
use Rattle.calendar.proofs.Searches.{first_answer}

-- a search through a day that may not stand in the list
first_day : (x d : ℕ) (s : Bool) (bs : List ℕ) → first_from x (cond s (d ∷ bs) bs) ≡ cond (s && leb x d) (Some d) (first_from x bs)
first_day x d true bs = refl
first_day x d false bs = refl

-- of n days of a month from d on, the first that is marked and late enough
pub day_found : (month mask x d n : ℕ)
    → option_map (λ k. month + k) (find (λ k. is_set mask k && leb x (month + k)) (range_with_len d n)) ≡ first_from x (days_from month mask d n)
day_found month mask x d zero = refl
day_found month mask x d (suc n) =
    elim (is_set mask d && leb x (month + d)) as (λ t. option_map (λ k. month + k) (cond t (Some d) (find (λ k. is_set mask k && leb x (month + k)) (range_with_len (d + 1) n))) ≡ cond t (Some (month + d)) (first_from x (days_from month mask (d + 1) n)))
    [ true ↦ refl | false ↦ day_found month mask x (d + 1) n ]
    ∙ sym (first_day x (month + d) (is_set mask d) (days_from month mask (d + 1) n))

-- no bit of 0 is set
pub no_mask : (d : ℕ) → is_set 0 d ≡ false
no_mask d = ap (λ n. eqb (n % 2) 1) (zero-div (2 ^ (d - 1)))

-- of the days of a month without business days, none is found
pub month_empty : (month mask x d n : ℕ) → mask ≡ 0 → first_from x (days_from month mask d n) ≡ None
month_empty month mask x d zero e = refl
month_empty month mask x d (suc n) e =
    first_day x (month + d) (is_set mask d) (days_from month mask (d + 1) n)
    ∙ ap (λ s. cond (s && leb x (month + d)) (Some (month + d)) (first_from x (days_from month mask (d + 1) n))) (ap (λ m. is_set m d) e ∙ no_mask d)
    ∙ month_empty month mask x (d + 1) n e

-- of n days of a month from d on, none is late enough if the last is not
pub month_ended : (month mask x d n : ℕ) → month + d + n ≤ x → first_from x (days_from month mask d n) ≡ None
month_ended month mask x d zero h = refl
month_ended month mask x d (suc n) h =
    first_day x (month + d) (is_set mask d) (days_from month mask (d + 1) n)
    ∙ grind (arith, nat_tests, month_ended month mask x (d + 1) n (omega arith))

-- a search through two lists goes on to the second only where the first has nothing
first_found : (x n : ℕ) (xs ys : List ℕ) → first_from x xs ≡ Some n → first_from x (xs ++ ys) ≡ Some n
first_found x n [] ys h = let z : ◌≡◌ {A = ℕ} 0 1 = cc in absurd (omega arith)
first_found x n (b ∷ bs) ys h =
    elim (leb x b) as (λ v. cond v (Some b) (first_from x bs) ≡ Some n → cond v (Some b) (first_from x (bs ++ ys)) ≡ Some n)
    [ true ↦ λ e. e | false ↦ λ e. first_found x n bs ys e ] h

first_passed : (x : ℕ) (xs ys : List ℕ) → first_from x xs ≡ None → first_from x (xs ++ ys) ≡ first_from x ys
first_passed x [] ys h = refl
first_passed x (b ∷ bs) ys h =
    elim (leb x b) as (λ v. cond v (Some b) (first_from x bs) ≡ None → cond v (Some b) (first_from x (bs ++ ys)) ≡ first_from x ys)
    [ true ↦ λ e. let z : ◌≡◌ {A = ℕ} 0 1 = cc in absurd (omega arith) | false ↦ λ e. first_passed x bs ys e ] h

-- the first business day of the months from i on, month by month
pub months_found : (first x i : ℕ) (masks : List ℕ)
    → first_answer (λ p. first_from x (days_in first p.0 p.1)) (enumerate_from i masks) ≡ first_from x (months_from first i masks)
months_found first x i [] = refl
months_found first x i (mask ∷ masks) = go (first_from x (days_in first i mask)) refl (months_found first x (i + 1) masks)
  where
    go : (o : Option ℕ) → first_from x (days_in first i mask) ≡ o
        → first_answer (λ p. first_from x (days_in first p.0 p.1)) (enumerate_from (i + 1) masks) ≡ first_from x (months_from first (i + 1) masks)
        → cond (is_some o) o (first_answer (λ p. first_from x (days_in first p.0 p.1)) (enumerate_from (i + 1) masks)) ≡ first_from x (months_from first i (mask ∷ masks))
    go None h rest = rest ∙ sym (first_passed x (days_in first i mask) (months_from first (i + 1) masks) h)
    go (Some n) h rest = sym (first_found x n (days_in first i mask) (months_from first (i + 1) masks) h)
