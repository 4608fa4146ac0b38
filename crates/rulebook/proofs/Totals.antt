-- Sums over lists.
use Rattle.std.proofs.Common.{◌≡◌, ℕ, zero, suc, ◌+◌, ◌<◌, ◌≤◌, Bool, true, false, cond, not, ◌&&◌, eqb, ltb, ◌⊎◌, List, [], ◌∷◌, ◌++◌, refl, inl, inr, arith}
use Rattle.std.specs.List.{AllByRecursion}
use Rattle.std.proofs.ByRecursion.{All-weaker}
use Rattle.std.proofs.lemmas.Bool.{cond_both, cases_lt}
use Rattle.std.proofs.lemmas.Bool.Decides.{nat_tests}
use Rattle.calendar.specs.Days.{passing}
use Rattle.rulebook.specs.Words.{one_if, total, sum_below}

pub total_append : {X : Type 0} (f : X → ℕ) (xs ys : List X) → total f (xs ++ ys) ≡ total f xs + total f ys
total_append f [] ys = omega arith
total_append f (x ∷ xs) ys = omega (arith, total_append f xs ys)

pub total_push : {X : Type 0} (f : X → ℕ) (xs : List X) (y : X) → total f (xs ++ y ∷ []) ≡ total f xs + f y
total_push f xs y = omega (arith, total_append f xs (y ∷ []))

pub total_le : {X : Type 0} (f g : X → ℕ) (xs : List X) → AllByRecursion (λ x. f x ≤ g x) xs → total f xs ≤ total g xs
total_le f g [] a = omega arith
total_le f g (x ∷ xs) a = omega (arith, a.0, total_le f g xs a.1)

pub total_plus : {X : Type 0} (f g : X → ℕ) (xs : List X) → total (λ x. f x + g x) xs ≡ total f xs + total g xs
total_plus f g [] = refl
total_plus f g (x ∷ xs) = omega (arith, total_plus f g xs)

-- measures that compare on every element compare in the sums
pub total_every : {X : Type 0} (f g : X → ℕ) (xs : List X) → ((x : X) → f x ≤ g x) → total f xs ≤ total g xs
total_every f g [] h = omega arith
total_every f g (x ∷ xs) h = omega (arith, h x, total_every f g xs h)

-- what passes a test and what does not make up the whole
pub total_split : {X : Type 0} (f : X → ℕ) (t : X → Bool) (xs : List X)
    → total f (passing t xs) + total f (passing (λ x. not (t x)) xs) ≡ total f xs
total_split f t [] = refl
total_split f t (x ∷ xs) = go (t x) (total_split f t xs)
  where
    go : (b : Bool)
        → total f (passing t xs) + total f (passing (λ y. not (t y)) xs) ≡ total f xs
        → total f (cond b (x ∷ passing t xs) (passing t xs)) + total f (cond (not b) (x ∷ passing (λ y. not (t y)) xs) (passing (λ y. not (t y)) xs)) ≡ f x + total f xs
    go true h = omega arith
    go false h = omega arith

pub total_passing_le : {X : Type 0} (f : X → ℕ) (t : X → Bool) (xs : List X) → total f (passing t xs) ≤ total f xs
total_passing_le f t xs = omega (arith, total_split f t xs)

-- every element's measure is at most the sum
abbrev pub Member : {X : Type 0} → List X → X → Type 0
Member {X} xs x = (f : X → ℕ) → f x ≤ total f xs

pub member_le : {X : Type 0} (xs : List X) → AllByRecursion (Member xs) xs
member_le [] = tt
member_le {X} (x ∷ xs) = (λ f. omega arith, more xs (member_le xs))
  where
    more : (ys : List X) → AllByRecursion (λ y. (f : X → ℕ) → f y ≤ total f xs) ys → AllByRecursion (λ y. (f : X → ℕ) → f y ≤ f x + total f xs) ys
    more [] a = tt
    more (y ∷ ys) a = (λ f. omega (arith, a.0 f), more ys a.1)

pub all_front : {X : Type 0} (P : X → Type 0) (xs ys : List X) → AllByRecursion P (xs ++ ys) → AllByRecursion P xs
all_front P [] ys a = tt
all_front P (x ∷ xs) ys a = (a.0, all_front P xs ys a.1)

pub all_both : {X : Type 0} (P Q : X → Type 0) (xs : List X) → AllByRecursion P xs → AllByRecursion Q xs → AllByRecursion (λ x. P x × Q x) xs
all_both P Q [] a b = tt
all_both P Q (x ∷ xs) a b = ((a.0, b.0), all_both P Q xs a.1 b.1)

pub all_passes : {X : Type 0} (P : X → Type 0) (t : X → Bool) (xs : List X) → AllByRecursion P xs → AllByRecursion (λ x. P x × (t x ≡ true)) (passing t xs)
all_passes P t [] a = tt
all_passes P t (x ∷ xs) a =
    cond_both (t x) (x ∷ passing t xs) (passing t xs) (λ ys. AllByRecursion (λ y. P y × (t y ≡ true)) ys) (λ e. ((a.0, e), all_passes P t xs a.1)) (λ _. all_passes P t xs a.1)

pub all_passing : {X : Type 0} (P : X → Type 0) (t : X → Bool) (xs : List X) → AllByRecursion P xs → AllByRecursion P (passing t xs)
all_passing P t xs a = All-weaker (λ x. P x × (t x ≡ true)) P (λ _ p. p.0) (passing t xs) (all_passes P t xs a)

pub sum_below_same : (n : ℕ) (f g : ℕ → ℕ) → ((x : ℕ) → x < n → f x ≡ g x) → sum_below n f ≡ sum_below n g
sum_below_same zero f g h = refl
sum_below_same (suc n) f g h = omega (arith, h n (omega arith), sum_below_same n f g (λ x l. h x (omega arith)))

pub sum_below_zero : (n : ℕ) (f : ℕ → ℕ) → ((x : ℕ) → f x ≡ 0) → sum_below n f ≡ 0
sum_below_zero zero f h = refl
sum_below_zero (suc n) f h = omega (arith, h n, sum_below_zero n f h)

pub sum_below_at : (n x : ℕ) (f : ℕ → ℕ) → x < n → f x ≤ sum_below n f
sum_below_at zero x f l = omega arith
sum_below_at (suc n) x f l = go (λ h. sum_below_at n x f h) (cases_lt x n)
  where
    go : (x < n → f x ≤ sum_below n f) → (x < n) ⊎ (n ≤ x) → f x ≤ sum_below n f + f n
    go le (inl h) = omega (arith, le h)
    go le (inr h) = let e : x ≡ n = omega arith in rw e (omega arith)

-- what changes in each place changes in the sum
pub sum_below_shift : (n : ℕ) (f g out in' : ℕ → ℕ) → ((x : ℕ) → g x + out x ≡ f x + in' x)
    → sum_below n g + sum_below n out ≡ sum_below n f + sum_below n in'
sum_below_shift zero f g out in' h = refl
sum_below_shift (suc n) f g out in' h = omega (arith, h n, sum_below_shift n f g out in' h)

-- what stands in one place
pub sum_below_one : (n g m : ℕ) → sum_below n (λ x. cond (eqb g x) m 0) ≡ cond (ltb g n) m 0
sum_below_one zero g m = grind (arith, nat_tests)
sum_below_one (suc n) g m = go (sum_below_one n g m)
  where
    go : sum_below n (λ x. cond (eqb g x) m 0) ≡ cond (ltb g n) m 0
        → sum_below n (λ x. cond (eqb g x) m 0) + cond (eqb g n) m 0 ≡ cond (ltb g (suc n)) m 0
    go h = rw h (grind (arith, nat_tests))

-- a test counts at most one
pub one_if_le : (b : Bool) → one_if b ≤ 1
one_if_le b = grind arith

-- a test and its opposite make up the whole
pub one_if_split : (v t : Bool) → one_if (v && t) + one_if (v && not t) ≡ one_if v
one_if_split v t = grind arith

pub one_if_part : (v t : Bool) → one_if (v && t) ≤ one_if v
one_if_part v t = grind arith

pub one_if_grows : (v t u : Bool) → (t ≡ true → u ≡ true) → one_if (v && t) ≤ one_if (v && u)
one_if_grows v t u h = grind arith

pub one_if_none : (v : Bool) → one_if (v && false) ≡ 0
one_if_none v = grind arith
