-- An amount shifted from one balance of a list to another.
use Rattle.std.proofs.Common.{◌≡◌, ℕ, ◌+◌, ◌-◌, ◌<◌, ◌≤◌, List, length, get_or, set, sum, sym, ◌∙◌, arith}
use Rattle.std.proofs.lemmas.List.{length-set, get_or-set_same, get_or-set_other}
use Rattle.std.proofs.lemmas.List.Sums.{sum_by-set}
use Rattle.money.specs.Funds.{shifted}

-- it keeps the sum
pub sum_shifted : (bs : List ℕ) (x y amount : ℕ) → x < length bs → y < length bs → (x ≡ y → ⊥) → amount ≤ get_or bs x 0 → sum (shifted bs x y amount) ≡ sum bs
sum_shifted bs x y amount hx hy ne le =
    let l = length-set bs x (get_or bs x 0 - amount) in
    let a = sum_by-set (λ k. k) bs x (get_or bs x 0 - amount) 0 hx in
    let b = sum_by-set (λ k. k) (set bs x (get_or bs x 0 - amount)) y (get_or bs y 0 + amount) 0 (omega arith) in
    let c = get_or-set_other bs x y (get_or bs x 0 - amount) 0 (λ e. ne (sym e)) in
    omega arith

pub length_shifted : (bs : List ℕ) (x y amount : ℕ) → length (shifted bs x y amount) ≡ length bs
length_shifted bs x y amount = simp length-set

-- both balances, and any other
module _ (bs : List ℕ) (x y amount : ℕ) (hx : x < length bs) (hy : y < length bs) (ne : x ≡ y → ⊥) where
  pub shifted_from : get_or (shifted bs x y amount) x 0 ≡ get_or bs x 0 - amount
  shifted_from = get_or-set_other (set bs x (get_or bs x 0 - amount)) y x (get_or bs y 0 + amount) 0 ne ∙ get_or-set_same bs x (get_or bs x 0 - amount) 0 hx

  pub shifted_to : get_or (shifted bs x y amount) y 0 ≡ get_or bs y 0 + amount
  shifted_to = let l = length-set bs x (get_or bs x 0 - amount) in get_or-set_same (set bs x (get_or bs x 0 - amount)) y (get_or bs y 0 + amount) 0 (omega arith)

  pub shifted_third : (a : ℕ) → (a ≡ x → ⊥) → (a ≡ y → ⊥) → get_or (shifted bs x y amount) a 0 ≡ get_or bs a 0
  shifted_third a nx ny = get_or-set_other (set bs x (get_or bs x 0 - amount)) y a (get_or bs y 0 + amount) 0 ny ∙ get_or-set_other bs x a (get_or bs x 0 - amount) 0 nx
