-- Lines and fields leave no byte out.
use Rattle.std.proofs.Common.{◌≡◌, ℕ, ◌<◌, Bool, true, false, cond, eqb, ◌⊎◌, List, [], ◌∷◌, ◌++◌, length, sym, refl, ap, ◌∙◌, inl, inr, ⊎_elim, arith}
use Rattle.std.specs.List.{AllByRecursion}
use Rattle.std.proofs.lemmas.Bool.{eqb-true, eqb-false}
use Rattle.dayfile.specs.Text.{prepend, parts, lines, fields, Without, ended, commas, commas_between, LinesParted, FieldsParted}

-- no part has its mark
module _ (mark : ℕ) where
  prepend_without : (b : ℕ) (ps : List (List ℕ)) → (b ≡ mark → ⊥) → AllByRecursion (Without mark) ps → AllByRecursion (Without mark) (prepend b ps)
  prepend_without b [] ne a = ((ne, tt), tt)
  prepend_without b (p ∷ ps) ne a = ((ne, a.0), a.1)

  parts_without : (none : List (List ℕ)) → AllByRecursion (Without mark) none → (bs : List ℕ) → AllByRecursion (Without mark) (parts mark none bs)
  parts_without none a [] = a
  parts_without none a (b ∷ bs) = go (eqb b mark) refl (parts_without none a bs)
    where
      go : (t : Bool) → eqb b mark ≡ t → AllByRecursion (Without mark) (parts mark none bs) → AllByRecursion (Without mark) (cond t ([] ∷ parts mark none bs) (prepend b (parts mark none bs)))
      go true e w = (tt, w)
      go false e w = prepend_without b (parts mark none bs) (eqb-false b mark e) w

-- one byte more in front of lines that are put together again
abbrev Whole : List (List ℕ) → List ℕ → Type 0
Whole ls file = (ended ls ≡ file) ⊎ (ended ls ≡ file ++ 10 ∷ [])

whole_more : (b : ℕ) (bs : List ℕ) (ls : List (List ℕ)) → Whole ls bs → Whole (prepend b ls) (b ∷ bs)
whole_more b [] [] w = inr refl
whole_more b (c ∷ bs) [] w = absurd (⊎_elim (λ e. omega (arith, ap length e)) (λ e. omega (arith, ap length e)) w)
whole_more b bs (l ∷ ls) w = ⊎_elim (λ e. inl (ap (λ x. b ∷ x) e)) (λ e. inr (ap (λ x. b ∷ x) e)) w

whole_lines : (file : List ℕ) → Whole (lines file) file
whole_lines [] = inl refl
whole_lines (b ∷ bs) = go (eqb b 10) refl (whole_lines bs)
  where
    go : (t : Bool) → eqb b 10 ≡ t → Whole (lines bs) bs → Whole (cond t ([] ∷ lines bs) (prepend b (lines bs))) (b ∷ bs)
    go true e w =
        let x : 10 ≡ b = sym (eqb-true b 10 e) in
        ⊎_elim (λ p. inl (ap (λ l. 10 ∷ l) p ∙ ap (λ c. c ∷ bs) x)) (λ p. inr (ap (λ l. 10 ∷ l) p ∙ ap (λ c. c ∷ (bs ++ 10 ∷ [])) x)) w
    go false e w = whole_more b bs (lines bs) w

pub lines_parted : LinesParted
lines_parted file = (parts_without 10 [] tt file, whole_lines file)

-- fields with commas between them
commas_more : (b : ℕ) (fs : List (List ℕ)) → commas_between (prepend b fs) ≡ b ∷ commas_between fs
commas_more b [] = refl
commas_more b (f ∷ []) = refl
commas_more b (f ∷ g ∷ fs) = refl

-- there is always a first field
field_some : (bs : List ℕ) → 0 < length (fields bs)
field_some [] = omega arith
field_some (b ∷ bs) = go (eqb b 44) (fields bs)
  where
    go : (t : Bool) (fs : List (List ℕ)) → 0 < length (cond t ([] ∷ fs) (prepend b fs))
    go true fs = omega arith
    go false [] = omega arith
    go false (f ∷ fs) = omega arith

commas_first : (fs : List (List ℕ)) → 0 < length fs → commas [] fs ≡ 44 ∷ commas_between fs
commas_first [] h = absurd (omega arith)
commas_first (f ∷ fs) h = refl

whole_fields : (line : List ℕ) → commas_between (fields line) ≡ line
whole_fields [] = refl
whole_fields (b ∷ bs) = go (eqb b 44) refl (whole_fields bs)
  where
    go : (t : Bool) → eqb b 44 ≡ t → commas_between (fields bs) ≡ bs → commas_between (cond t ([] ∷ fields bs) (prepend b (fields bs))) ≡ b ∷ bs
    go true e w = commas_first (fields bs) (field_some bs) ∙ ap (λ l. 44 ∷ l) w ∙ ap (λ c. c ∷ bs) (sym (eqb-true b 44 e))
    go false e w = commas_more b (fields bs) ∙ ap (λ l. b ∷ l) w

pub fields_parted : FieldsParted
fields_parted line = (parts_without 44 ([] ∷ []) (tt, tt) line, whole_fields line)
