-- Serials and orders never change, and stand in the order in which they came.
use Rattle.std.proofs.Common.{◌≡◌, ℕ, Bool, List, [], ◌∷◌, ◌++◌, map, Some, None, Option, sym, refl, ap, ◌∙◌, arith}
use Rattle.std.specs.List.{AllByRecursion}
use Rattle.std.proofs.lemmas.List.{append-nil, append_assoc, map_push}
use Rattle.std.proofs.lemmas.Bool.{cond_both}
use Rattle.calendar.specs.Days.{passing}
use Rattle.rulebook.specs.declared.Order.{Order}
use Rattle.rulebook.specs.declared.Fate.TheVariants as fate
use Rattle.rulebook.specs.Words.{total, Instruction, turned, alike}
use Rattle.rulebook.specs.Matching.{is_partner, pair_up, met, arrive, wake, wake_all}
use Rattle.rulebook.proofs.Ways.{arrive_both}

-- an instruction's serial and order alone
abbrev pub bare : Instruction → Instruction
bare i = turned i fate.Kept None

abbrev pub bares : List Instruction → List Instruction
bares is = map bare is

abbrev pub serials : List Instruction → List ℕ
serials is = map (λ i. i.serial) is

pub pair_up_bare : (o : Order) (xs : List Instruction) → bares (pair_up o xs).0 ≡ bares xs
pair_up_bare o [] = refl
pair_up_bare o (x ∷ xs) =
    cond_both
    (is_partner o x)
    (turned x fate.Matched None ∷ xs, Some x.serial)
    (x ∷ (pair_up o xs).0, (pair_up o xs).1)
    (λ (r : List Instruction × Option ℕ). bares r.0 ≡ bares (x ∷ xs))
    (λ _. refl)
    (λ _. ap (λ l. bare x ∷ l) (pair_up_bare o xs))

met_bare : (i : Instruction) (r : Option ℕ) → bare (met i r) ≡ bare i
met_bare i None = refl
met_bare i (Some n) = refl

pub arrive_bare : (d : ℕ) (xs : List Instruction) (i : Instruction) → bares (arrive d xs i) ≡ bares xs ++ bare i ∷ []
arrive_bare d xs i =
    arrive_both d xs i (λ l. bares l ≡ bares xs ++ bare i ∷ [])
    (λ _ _. map_push bare xs (turned i fate.Matched None))
    (λ _ _. map_push bare (pair_up i.order xs).0 (met i (pair_up i.order xs).1)
    ∙ ap (λ b. bares (pair_up i.order xs).0 ++ b ∷ []) (met_bare i (pair_up i.order xs).1)
    ∙ ap (λ l. l ++ bare i ∷ []) (pair_up_bare i.order xs))
    (λ _. map_push bare xs (turned i fate.Kept None))

pub wake_bare : (d : ℕ) (xs : List Instruction) (i : Instruction) → bares (wake d xs i) ≡ bares xs ++ bare i ∷ []
wake_bare d xs i =
    cond_both (alike i.fate fate.Kept) (arrive d xs i) (xs ++ i ∷ []) (λ l. bares l ≡ bares xs ++ bare i ∷ []) (λ _. arrive_bare d xs i) (λ _. map_push bare xs i)

pub wake_all_bare : (d : ℕ) (xs is : List Instruction) → bares (wake_all d xs is) ≡ bares xs ++ bares is
wake_all_bare d xs [] = sym (append-nil (bares xs))
wake_all_bare d xs (i ∷ is) =
    wake_all_bare d (wake d xs i) is ∙ ap (λ l. l ++ bares is) (wake_bare d xs i) ∙ append_assoc (bares xs) (bare i ∷ []) (bares is)

pub bare_passing : (P : Instruction → Type 0) (t : Instruction → Bool) (xs : List Instruction) → AllByRecursion P (bares xs) → AllByRecursion P (bares (passing t xs))
bare_passing P t [] h = tt
bare_passing P t (x ∷ xs) h =
    cond_both (t x) (x ∷ passing t xs) (passing t xs) (λ l. AllByRecursion P (bares l)) (λ _. (h.0, bare_passing P t xs h.1)) (λ _. bare_passing P t xs h.1)

-- a measure that reads serial and order alone
pub total_bare : (f : Instruction → ℕ) → ((i : Instruction) → f i ≡ f (bare i)) → (xs : List Instruction) → total f xs ≡ total f (bares xs)
total_bare f h [] = refl
total_bare f h (x ∷ xs) = omega (arith, h x, total_bare f h xs)

-- such a measure has the same sum over the same roll
pub total_roll : (f : Instruction → ℕ) → ((i : Instruction) → f i ≡ f (bare i)) → (xs ys : List Instruction) → bares ys ≡ bares xs
    → total f ys ≡ total f xs
total_roll f h xs ys e = total_bare f h ys ∙ ap (total f) e ∙ sym (total_bare f h xs)

serials_bare : (xs : List Instruction) → serials (bares xs) ≡ serials xs
serials_bare [] = refl
serials_bare (x ∷ xs) = ap (λ l. x.serial ∷ l) (serials_bare xs)

-- and the same serials
pub serials_roll : (xs ys : List Instruction) → bares ys ≡ bares xs → serials ys ≡ serials xs
serials_roll xs ys e = sym (serials_bare ys) ∙ ap serials e ∙ serials_bare xs
