-- Business days counted by the bits of the masks.
use Rattle.std.proofs.Common.{◌≡◌, ℕ, zero, suc, ◌+◌, ◌-◌, ◌*◌, ◌/◌, ◌%◌, ◌^◌, ◌<◌, ◌≤◌, Bool, true, false, cond, ◌&&◌, eqb, ltb, leb, List, [], ◌∷◌, ◌++◌, length, sum_by, sym, refl, ap, ◌∙◌, ⊎_elim, mod-eq_of_lt, add-one, arith, pow_mono}
use native.Mathlib.Nat.{zero-mod, mod-one}
use lib.Arith.{lt-one}
use lib.Bits.{bit_and}
use lib.Count.{ones, ones_step, ones-le}
use Rattle.std.proofs.lemmas.Nat.{and_mask, and_le_l, one_shl, mod-pow-add, shr-shr, shr_below, div-mul-add, mod-mul-add, mod_below}
use Rattle.std.specs.List.{enumerate_from}
use Rattle.std.proofs.lemmas.List.Sums.{sum_by-cons}
use Rattle.std.proofs.lemmas.Bool.{cases_lt, and_parts, ltb-true}
use Rattle.std.proofs.lemmas.Bool.Decides.{nat_tests}
use Rattle.calendar.specs.Days.{passing, count_upto, count_between}
use Rattle.calendar.specs.Masks.{is_set, number_of, length_of, days_from, days_in, months_from, within_months}

-- the low bits of a mask, as the code takes them
pub low_ones : (mask days k : ℕ) → days < 32 → days ≡ k → ones (bit_and mask ((1 * 2 ^ days) % 4294967296 - 1)) ≡ ones (mask % 2 ^ k)
low_ones mask days k h e =
    ap (λ v. ones (bit_and mask (v - 1))) (one_shl days 32 h) ∙ ap ones (and_mask mask days) ∙ ap (λ n. ones (mask % 2 ^ n)) e

pub all_ones : (mask k : ℕ) → mask < 2 ^ 32 → 32 ≤ k → ones mask ≡ ones (mask % 2 ^ k)
all_ones mask k h l = let big : mask < 2 ^ k = omega (arith, pow_mono l) in ap ones (sym (mod-eq_of_lt big))

pub low_few : (mask m : ℕ) → mask < 2 ^ 32 → ones (bit_and mask m) ≤ 32
low_few mask m h = ones-le 32 (bit_and mask m) (omega (arith, and_le_l mask m))

ones_zero : ones 0 ≡ 0
unfolding ones
ones_zero = refl

-- the lowest bit, and the bits above it
ones_low : (b k : ℕ) → ones (b % 2 ^ suc k) ≡ b % 2 + ones (b / 2 % 2 ^ k)
ones_low b k =
    let low : b % 2 < 2 = mod_below b 2 (omega arith) in
    ap (λ n. ones (b % 2 ^ n)) (sym (add-one k)) ∙ ap ones (mod-pow-add b k 1) ∙ ones_step (b / 2 % 2 ^ k * 2 + b % 2)
    ∙ ap (λ n. n + ones ((b / 2 % 2 ^ k * 2 + b % 2) / 2)) (mod-mul-add (b / 2 % 2 ^ k) 2 (b % 2) low)
    ∙ ap (λ n. b % 2 + ones n) (div-mul-add (b / 2 % 2 ^ k) 2 (b % 2) low)

-- one more day, which may not stand in the list
count_day : (f : ℕ → Bool) (s : Bool) (d : ℕ) (bs : List ℕ)
    → length (passing f (cond s (d ∷ bs) bs)) ≡ cond (s && f d) 1 0 + length (passing f bs)
count_day f false d bs = omega arith
count_day f true d bs =
    elim (f d) as (λ v. length (cond v (d ∷ passing f bs) (passing f bs)) ≡ cond v 1 0 + length (passing f bs))
    [ true ↦ omega arith | false ↦ omega arith ]

pub count_append : (f : ℕ → Bool) (xs ys : List ℕ) → length (passing f (xs ++ ys)) ≡ length (passing f xs) + length (passing f ys)
count_append f [] ys = omega arith
count_append f (b ∷ bs) ys =
    omega (arith, count_append f bs ys, count_day f true b bs, count_day f true b (bs ++ ys))

-- a day whose bit is the lowest of b, and the days of the bits above
count_bit : (x month b d : ℕ) (s : Bool) (bs : List ℕ) → d ≡ month + 1 → s ≡ eqb (b % 2) 1
    → count_upto x bs ≡ ones (b / 2 % 2 ^ (x - d))
    → count_upto x (cond s (d ∷ bs) bs) ≡ ones (b % 2 ^ (x - month))
count_bit x month b d s bs next e rest =
    ⊎_elim
    (λ h.
    let low : b % 2 < 2 = mod_below b 2 (omega arith) in
    let more : x - month ≡ suc (x - d) = omega arith in
    let here : ◌≡◌ {A = ℕ} (cond (s && leb d x) 1 0) (b % 2) = grind (arith, nat_tests) in
    omega (arith, count_day (λ v. leb v x) s d bs, here, rest, ones_low b (x - d), ap (λ k. ones (b % 2 ^ k)) more))
    (λ h.
    let none : x - d ≡ 0 = omega arith in
    let nil : x - month ≡ 0 = omega arith in
    let here : ◌≡◌ {A = ℕ} (cond (s && leb d x) 1 0) 0 = grind (arith, nat_tests) in
    let empty : (v : ℕ) → ones (v % 1) ≡ 0 = λ v. ap ones (mod-one v) ∙ ones_zero in
    omega (arith, count_day (λ v. leb v x) s d bs, here, rest, ap (λ k. ones (b / 2 % 2 ^ k)) none, ap (λ k. ones (b % 2 ^ k)) nil, empty (b / 2), empty b))
    (cases_lt month x)

-- the days of a month up to x are the low bits of its mask
count_days : (month mask x n j : ℕ) → mask / 2 ^ j < 2 ^ n
    → count_upto x (days_from month mask (j + 1) n) ≡ ones (mask / 2 ^ j % 2 ^ (x - (month + j)))
count_days month mask x zero j h =
    sym (ap (λ b. ones (b % 2 ^ (x - (month + j)))) (lt-one h) ∙ ap ones (zero-mod (2 ^ (x - (month + j)))) ∙ ones_zero)
count_days month mask x (suc n) j h =
    let shifted : mask / 2 ^ j / 2 ≡ mask / 2 ^ (j + 1) = shr-shr mask j 1 in
    let half : mask / 2 ^ j / 2 < 2 ^ n = shr_below (mask / 2 ^ j) n 1 (rw add-one h) in
    let short : mask / 2 ^ (j + 1) < 2 ^ n = rw (← shifted) half in
    let place : j + 1 - 1 ≡ j = omega arith in
    let apart : month + (j + 1) ≡ month + j + 1 = omega arith in
    count_bit x (month + j) (mask / 2 ^ j) (month + (j + 1)) (is_set mask (j + 1)) (days_from month mask (j + 1 + 1) n) apart
    (ap (λ k. eqb (mask / 2 ^ k % 2) 1) place)
    (count_days month mask x n (j + 1) short ∙ ap (λ b. ones (b % 2 ^ (x - (month + (j + 1))))) (sym shifted))

-- the days of a whole month
pub count_month : (month mask x n : ℕ) → mask < 2 ^ n → count_upto x (days_from month mask 1 n) ≡ ones (mask % 2 ^ (x - month))
count_month month mask x n h =
    let whole : mask / 1 ≡ mask = omega arith in
    let short : mask / 2 ^ 0 < 2 ^ n = rw whole h in
    let start : month + 0 ≡ month = omega arith in
    count_days month mask x n 0 short ∙ ap (λ b. ones (b % 2 ^ (x - (month + 0)))) whole ∙ ap (λ m. ones (mask % 2 ^ (x - m))) start

-- the business days of the months from i on are counted month by month
pub months_counted : (first x i : ℕ) (masks : List ℕ) → within_months first i masks ≡ true
    → sum_by (λ p. ones (p.1 % 2 ^ (x - number_of first p.0))) (enumerate_from i masks) ≡ count_upto x (months_from first i masks)
months_counted first x i [] w = refl
months_counted first x i (mask ∷ masks) w =
    let p = and_parts (ltb mask (2 ^ length_of first i)) (within_months first (i + 1) masks) w in
    omega (
      arith,
      sum_by-cons (λ (q : ℕ × ℕ). ones (q.1 % 2 ^ (x - number_of first q.0))) (i, mask) (enumerate_from (i + 1) masks),
      count_month (number_of first i) mask x (length_of first i) (ltb-true mask (2 ^ length_of first i) p.0),
      months_counted first x (i + 1) masks p.1,
      count_append (λ b. leb b x) (days_in first i mask) (months_from first (i + 1) masks),
    )

-- the days after one date and up to another
between_some : (after upto : ℕ) → after ≤ upto → (bs : List ℕ) → count_between after upto bs + count_upto after bs ≡ count_upto upto bs
between_some after upto h [] = refl
between_some after upto h (b ∷ bs) =
    grind (arith, nat_tests, between_some after upto h bs, count_day (λ d. ltb after d && leb d upto) true b bs, count_day (λ d. leb d after) true b bs, count_day (λ d. leb d upto) true b bs)

between_none : (after upto : ℕ) → upto ≤ after → (bs : List ℕ) → (count_between after upto bs ≡ 0) × (count_upto upto bs ≤ count_upto after bs)
between_none after upto h [] = (refl, omega arith)
between_none after upto h (b ∷ bs) =
    let rest = between_none after upto h bs in (
      grind (arith, nat_tests, rest, count_day (λ d. ltb after d && leb d upto) true b bs),
      grind (arith, nat_tests, rest, count_day (λ d. leb d after) true b bs, count_day (λ d. leb d upto) true b bs),
    )

pub between : (after upto : ℕ) (bs : List ℕ) → count_upto upto bs - count_upto after bs ≡ count_between after upto bs
between after upto bs =
    ⊎_elim (λ h. omega (arith, between_none after upto (omega arith) bs)) (λ h. omega (arith, between_some after upto h bs)) (cases_lt upto after)
