-- Where bytes are cut into parts.
use Rattle.std.proofs.Common.{◌≡◌, ℕ, suc, ◌+◌, ◌-◌, ◌<◌, ◌≤◌, Bool, true, false, cond, not, eqb, ltb, List, [], ◌∷◌, length, Some, None, Option, unwrap_or, take, drop, sym, refl, ap, ◌∙◌, subst, ⊎_elim, arith}
use Rattle.std.proofs.str.Laws.{order}
use Rattle.std.specs.Borrow.{Bor}
use Rattle.std.specs.List.{count_by, position, position_or_len, PartBy}
use Rattle.std.proofs.lemmas.List.{drop_all, take_all, take_rest}
use Rattle.std.proofs.lemmas.List.Recursion.{is_count_by, is_position_or_len}
use Rattle.std.proofs.lemmas.List.Sums.{prefix_len-le-length}
use Rattle.std.proofs.lemmas.Bool.{cond_both, ltb-false, ne_eqb}
use Rattle.dayfile.specs.Text.{prepend, parts, parts_left, lines, fields, before, SameLines}

module _ (mark : ℕ) where
  -- what is before the first mark stands in front
  take_before : (bs : List ℕ) → take (length (before mark bs)) bs ≡ before mark bs
  take_before [] = refl
  take_before (b ∷ bs) =
      elim (eqb b mark) as (λ t. take (length (cond t [] (b ∷ before mark bs))) (b ∷ bs) ≡ cond t [] (b ∷ before mark bs))
      [ true ↦ refl | false ↦ ap (λ l. b ∷ l) (take_before bs) ]

  -- a first part that ends with a mark
  parts_cut : (none : List (List ℕ)) (bs : List ℕ) → length (before mark bs) < length bs → parts mark none bs ≡ before mark bs ∷ parts mark none (drop (suc (length (before mark bs))) bs)
  parts_cut none [] h = absurd (omega arith)
  parts_cut none (b ∷ bs) h = go (eqb b mark) (λ l. parts_cut none bs l) h
    where
      go : (t : Bool) → (length (before mark bs) < length bs → parts mark none bs ≡ before mark bs ∷ parts mark none (drop (suc (length (before mark bs))) bs)) → length (cond t [] (b ∷ before mark bs)) < suc (length bs) → cond t ([] ∷ parts mark none bs) (prepend b (parts mark none bs)) ≡ cond t [] (b ∷ before mark bs) ∷ parts mark none (drop (suc (length (cond t [] (b ∷ before mark bs)))) (b ∷ bs))
      go true more h = refl
      go false more h = ap (prepend b) (more (omega arith))

  -- a last part
  parts_last : (none : List (List ℕ)) → ((b : ℕ) → prepend b none ≡ (b ∷ []) ∷ []) → (b : ℕ) (bs : List ℕ) → length (b ∷ bs) ≤ length (before mark (b ∷ bs)) → parts mark none (b ∷ bs) ≡ (b ∷ bs) ∷ []
  parts_last none alone b [] h = go (eqb b mark) h
    where
      go : (t : Bool) → 1 ≤ length (cond t [] (b ∷ [])) → cond t ([] ∷ none) (prepend b none) ≡ (b ∷ []) ∷ []
      go true h = absurd (omega arith)
      go false h = alone b
  parts_last none alone b (c ∷ cs) h = go (eqb b mark) (λ l. parts_last none alone c cs l) h
    where
      go : (t : Bool) → (length (c ∷ cs) ≤ length (before mark (c ∷ cs)) → parts mark none (c ∷ cs) ≡ (c ∷ cs) ∷ []) → suc (length (c ∷ cs)) ≤ length (cond t [] (b ∷ before mark (c ∷ cs))) → cond t ([] ∷ parts mark none (c ∷ cs)) (prepend b (parts mark none (c ∷ cs))) ≡ (b ∷ c ∷ cs) ∷ []
      go true more h = absurd (omega arith)
      go false more h = ap (prepend b) (more (omega arith))

  -- the bytes before the first mark, by the place of the mark
  before_length : (bs : List ℕ) → length (before mark bs) ≡ position_or_len (λ b. eqb b mark) bs
  before_length = is_position_or_len (λ bs. length (before mark bs)) (λ b. eqb b mark) refl (λ b bs. elim (eqb b mark) as (λ t. length (cond t [] (b ∷ before mark bs)) ≡ cond t 0 (1 + length (before mark bs))) [ true ↦ refl | false ↦ omega arith ])

  pub before_place : (bs : List ℕ) → unwrap_or (position (λ b. eqb b mark) bs) (length bs) ≡ length (before mark bs)
  before_place bs =
      let n = position_or_len (λ b. eqb b mark) bs in
      let h : n ≤ length bs = prefix_len-le-length (λ b. not (eqb b mark)) bs in
      cond_both (ltb n (length bs)) (Some n) None (λ o. unwrap_or o (length bs) ≡ n) (λ _. refl) (λ e. omega (arith, ltb-false n (length bs) e)) ∙ sym (before_length bs)

  -- the first part of some bytes that end with a mark, and the parts behind it
  cut_mark : (none : List (List ℕ)) (bs : List ℕ) → length (before mark bs) < length bs
      → parts mark none bs ≡ take (length (before mark bs)) bs ∷ parts mark none (drop (length (before mark bs) + 1) bs)
  cut_mark none bs h =
      let n = length (before mark bs) in
      let e : suc n ≡ n + 1 = omega arith in
      parts_cut none bs h ∙ ap (λ p. p ∷ parts mark none (drop (suc n) bs)) (sym (take_before bs)) ∙ ap (λ k. take n bs ∷ parts mark none (drop k bs)) e

  -- the only part of some bytes without a mark
  cut_last : (none : List (List ℕ)) → ((b : ℕ) → prepend b none ≡ (b ∷ []) ∷ []) → (bs : List ℕ) → 0 < length bs
      → length bs ≤ length (before mark bs) → parts mark none bs ≡ take (length (before mark bs)) bs ∷ []
  cut_last none alone [] h l = absurd (omega arith)
  cut_last none alone (b ∷ bs) h l = parts_last none alone b bs l ∙ ap (λ p. p ∷ []) (sym (take_all (length (before mark (b ∷ bs))) (b ∷ bs) l))

-- the first line of some bytes, and the lines behind it
pub lines_cut : (bs : List ℕ) → 0 < length bs → lines bs ≡ take (length (before 10 bs)) bs ∷ lines (drop (length (before 10 bs) + 1) bs)
lines_cut bs h =
    let n = length (before 10 bs) in
    ⊎_elim
    (λ l. cut_mark 10 [] bs l)
    (λ l. cut_last 10 [] (λ b. refl) bs h l ∙ ap (λ r. take n bs ∷ lines r) (sym (drop_all (n + 1) bs (omega arith))))
    (order n (length bs))

-- the first field of some bytes, and the fields behind it, if any are
first_cut : (bs : List ℕ) (behind : Option (Bor (List ℕ))) → PartBy (λ x. x.now) bs (length (before 44 bs) + 1) (length bs) behind
    → fields bs ≡ take (length (before 44 bs)) bs ∷ parts_left behind
first_cut [] None p = refl
first_cut (b ∷ bs) None p = cut_last 44 ([] ∷ []) (λ b. refl) (b ∷ bs) (omega arith) (⊎_elim (λ l. omega (arith, l)) (λ l. absurd (omega (arith, l))) p.0)
first_cut bs (Some x) p =
    let n = length (before 44 bs) in
    cut_mark 44 ([] ∷ []) bs (omega (arith, p.0.0)) ∙ ap (λ l. take n bs ∷ fields l) (sym (p.0.2 ∙ take_rest bs (n + 1)))

pub fields_cut : (bs : List ℕ) (end : ℕ) (behind : Option (Bor (List ℕ))) → end ≡ length (before 44 bs)
    → PartBy (λ x. x.now) bs (end + 1) (length bs) behind → fields bs ≡ take end bs ∷ parts_left behind
fields_cut bs end behind e p =
    subst (λ n. fields bs ≡ take n bs ∷ parts_left behind) (sym e) (first_cut bs behind (subst (λ n. PartBy (λ x. x.now) bs (n + 1) (length bs) behind) e p))

-- some bytes have at most one field more than bytes
pub prepend_length : (b : ℕ) (ps : List (List ℕ)) → length (prepend b ps) ≤ length ps + 1
prepend_length b [] = omega arith
prepend_length b (p ∷ ps) = omega arith

pub fields_few : (bs : List ℕ) → length (fields bs) ≤ length bs + 1
fields_few [] = omega arith
fields_few (b ∷ bs) =
    cond_both (eqb b 44) ([] ∷ fields bs) (prepend b (fields bs)) (λ ps. length ps ≤ length (b ∷ bs) + 1) (λ _. omega (arith, fields_few bs)) (λ _. omega (arith, fields_few bs, prepend_length b (fields bs)))

-- some bytes have a field more than commas
fields_more : (b : ℕ) (bs : List ℕ) → length (fields bs) ≡ 1 + (length (fields bs) - 1)
    → length (fields (b ∷ bs)) ≡ cond (eqb b 44) (2 + (length (fields bs) - 1)) (1 + (length (fields bs) - 1))
fields_more b bs h =
    elim (eqb b 44) as (λ t. length (cond t ([] ∷ fields bs) (prepend b (fields bs))) ≡ cond t (2 + (length (fields bs) - 1)) (1 + (length (fields bs) - 1)))
    [ true ↦ omega (arith, h) | false ↦ go (fields bs) h ]
  where
    go : (ps : List (List ℕ)) → length ps ≡ 1 + (length ps - 1) → length (prepend b ps) ≡ 1 + (length ps - 1)
    go [] e = absurd (omega (arith, e))
    go (p ∷ ps) e = e

fields_some : (bs : List ℕ) → length (fields bs) ≡ 1 + (length (fields bs) - 1)
fields_some [] = refl
fields_some (b ∷ bs) =
    let n = length (fields bs) - 1 in
    let h : length (fields (b ∷ bs)) ≡ cond (eqb b 44) (2 + n) (1 + n) = fields_more b bs (fields_some bs) in
    cond_both (eqb b 44) (2 + n) (1 + n) (λ m. length (fields (b ∷ bs)) ≡ m → length (fields (b ∷ bs)) ≡ 1 + (length (fields (b ∷ bs)) - 1)) (λ _ e. omega (arith, e)) (λ _ e. omega (arith, e)) h

pub fields_count : (bs : List ℕ) → length (fields bs) ≡ 1 + count_by (λ b. eqb b 44) bs
fields_count bs =
    fields_some bs
    ∙ ap (λ n. 1 + n) (is_count_by (λ cs. length (fields cs) - 1) (λ b. eqb b 44) refl (λ c cs. more c cs) bs)
  where
    more : (c : ℕ) (cs : List ℕ) → length (fields (c ∷ cs)) - 1 ≡ cond (eqb c 44) (1 + (length (fields cs) - 1)) (length (fields cs) - 1)
    more c cs =
        let n = length (fields cs) - 1 in
        cond_both (eqb c 44) (2 + n) (1 + n) (λ m. length (fields (c ∷ cs)) ≡ m → length (fields (c ∷ cs)) - 1 ≡ m - 1) (λ _ e. omega (arith, e)) (λ _ e. omega (arith, e)) (fields_more c cs (fields_some cs))
        ∙ elim (eqb c 44) as (λ t. cond t (2 + n) (1 + n) - 1 ≡ cond t (1 + n) n) [ true ↦ omega arith | false ↦ omega arith ]

-- byte 10 behind a last byte that is not 10 ends the same line
pub same_lines : SameLines
same_lines [] b ne = ap (λ t. cond t ([] ∷ lines (10 ∷ [])) (prepend b (lines (10 ∷ [])))) (ne_eqb b 10 ne) ∙ sym (ap (λ t. cond t ([] ∷ []) (prepend b [])) (ne_eqb b 10 ne))
same_lines (x ∷ xs) b ne = ap (λ ls. cond (eqb x 10) ([] ∷ ls) (prepend x ls)) (same_lines xs b ne)
