-- A search by `find_map`: the first answer that is there.
use Rattle.std.proofs.Common.{◌≡◌, ℕ, ◌+◌, ◌<◌, suc, true, cond, is_some, List, [], ◌∷◌, map, Some, None, Option, IfSome, MatchOption, IsTrue, slice_get, sym, refl, ap, ◌∙◌, subst, arith}
use Rattle.std.specs.Fn.{Called}
use Rattle.std.specs.Iterator.{AlwaysYields, YieldsThen, FindsMapped, DrainsIf}
use Rattle.std.specs.Iterator.Runs.{SomeRun, YieldsRun, AllItemsGive, IsFirstToGive}
use Rattle.std.specs.List.{FoldsTo}
use Rattle.std.proofs.lemmas.Iterator.{YieldsList, items_from_drains}
use denote.Param.Members.{Mut}

-- of the answers that h gives for the elements, the first that is there
abbrev pub first_answer : {X Y : Type 0} → (X → Option Y) → List X → Option Y
first_answer h [] = None
first_answer h (x ∷ xs) = cond (is_some (h x)) (h x) (first_answer h xs)

none_found : {A B Y : Type 0} (v : A → B) (h : B → Option Y) (xs : List A) → ((k : ℕ) → IfSome (slice_get xs k) (λ x. h (v x) ≡ None)) → first_answer h (map v xs) ≡ None
none_found v h [] k = refl
none_found v h (x ∷ xs) k =
    subst (λ z. cond (is_some z) z (first_answer h (map v xs)) ≡ None) (sym (k 0)) (none_found v h xs (λ n. k (suc n)))

module _ {S A B Y F : Type 0} (steps : S → Option A → S → Type 0) (v : A → B) (g : Mut F (A × Unit {0}) (Option Y)) (h : B → Option Y) (f : F)
    (same : (x : A) (o : Option Y) (q : F) → Called g f (x, tt) o q → (q ≡ f) × (o ≡ h (v x))) where
  some_found : (y : Y) (xs : List A) (o : Option A) (all : List B) (s u : S) (p q : F) → p ≡ f → AlwaysYields steps v s all → YieldsThen steps s xs o u
      → FoldsTo (λ a x b. Called g a (x, tt) None b) p xs q → MatchOption o (Some y ≡ None) (λ x. (e : F) × Called g q (x, tt) (Some y) e) → Some y ≡ first_answer h all
  some_found y [] None all s u p q e a t c m = let z : ◌≡◌ {A = ℕ} 0 1 = cc in absurd (omega arith)
  some_found y [] (Some x) [] s u p q e a t c m = absurd (a x u (subst (λ w. steps w (Some x) u) (sym t.1) t.2))
  some_found y [] (Some x) (b ∷ bs) s u p q e a t c m =
      let place = a.1 x u (subst (λ w. steps w (Some x) u) (sym t.1) t.2) in
      let call = same x (Some y) m.0 (subst (λ w. Called g w (x, tt) (Some y) m.0) (sym c ∙ e) m.1) in
      subst (λ z. Some y ≡ cond (is_some z) z (first_answer h bs)) (call.1 ∙ ap h place.0) refl
  some_found y (x ∷ xs) o [] s u p q e a t c m = absurd (a x t.1.0 t.1.1)
  some_found y (x ∷ xs) o (b ∷ bs) s u p q e a t c m =
      let place = a.1 x t.1.0 t.1.1 in
      let call = same x None c.0 (subst (λ w. Called g w (x, tt) None c.0) e c.1) in
      subst (λ z. Some y ≡ cond (is_some z) z (first_answer h bs)) (call.1 ∙ ap h place.0)
      (some_found y xs o bs t.1.0 u c.0 q call.0 place.1 (t.0, t.1.2, t.2) c.2 m)

  -- what `find_map` answers over a chain that gives a list
  pub found_first : (s u : S) (all : List B) (r : Option Y) → YieldsList steps v s all → FindsMapped steps g s f r u
      → SomeRun steps s (λ p. MatchOption r (IsTrue p.whole × AllItemsGive p g f None) (λ y. (i : ℕ) × (i < p.len) × (p.len ≡ i + 1) × IsFirstToGive p g f (Some y) None i))
      → r ≡ first_answer h all
  unfolding YieldsRun
  found_first s u all (Some y) e ran runs = some_found y ran.0 ran.1 all s u f ran.2 refl e.runs ran.3 ran.4 ran.5
  found_first s u all None e ran runs =
      let p = runs.0 in
      let d : DrainsIf steps (p.whole ≡ true) s p.items = subst (λ w. DrainsIf steps (p.whole ≡ true) w p.items) runs.1 p.gave.0 in
      let items = items_from_drains p.items (d.0, d.1, λ _. d.2 runs.2.0) e in
      let none : (k : ℕ) → IfSome (p.at k) (λ x. Called g f (x, tt) None f) = runs.2.1 (λ a o q k. (same a.0 o q k).0) in
      let none_at : (k : ℕ) → IfSome (slice_get p.items k) (λ x. h (v x) ≡ None) = λ k. answered (slice_get p.items k) (subst (λ o. IfSome o (λ x. Called g f (x, tt) None f)) (p.gave.1 k) (none k)) in
      sym (none_found v h p.items none_at) ∙ ap (first_answer h) items
    where
      answered : (o : Option A) → IfSome o (λ x. Called g f (x, tt) None f) → IfSome o (λ x. h (v x) ≡ None)
      answered None k = k
      answered (Some x) k = sym (same x None f k).1
