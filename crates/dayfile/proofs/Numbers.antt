-- Fields and their numbers.
use Rattle.std.proofs.Common.{◌≡◌, ℕ, suc, List, [], ◌∷◌, length, refl, ap}
use Rattle.dayfile.specs.Looks.{numbered, next_number}

pub numbered_length : (n : ℕ) (fs : List (List ℕ)) → length (numbered n fs) ≡ length fs
numbered_length n [] = refl
numbered_length n (f ∷ fs) = ap suc (numbered_length (next_number n) fs)
