-- What a call moves: each movement is covered by the amounts that those before it left.
use Rattle.std.proofs.Common.{◌≡◌, ℕ, ◌+◌, ◌≤◌, true, ◌&&◌, eqb, ltb, List, [], ◌∷◌, ◌++◌, Option, sym, refl, ap, ◌∙◌, arith}
use Rattle.std.specs.List.{AllByRecursion}
use Rattle.std.proofs.lemmas.Bool.{cond_both, and_parts, eqb-true}
use Rattle.std.proofs.lemmas.Bool.Decides.{nat_tests}
use Rattle.rulebook.specs.declared.Side.{Side}
use Rattle.rulebook.specs.declared.Side.TheVariants.{Own, Customer}
use Rattle.rulebook.specs.declared.Placement.{Placement}
use Rattle.rulebook.specs.declared.Call.{Call}
use Rattle.rulebook.specs.declared.Call.TheVariants as call
use Rattle.rulebook.specs.States.{on_no_day}
use Rattle.rulebook.specs.Words.{same_side, Place, place, same, at, Payment, Leg, Movement, takes, money, out_of, Amounts, after, afters, Blocking, Instruction, Setting, Book, free}
use Rattle.rulebook.specs.Checks.{today, affords, place_checks, held, held_back, redeem_checks}
use Rattle.rulebook.specs.Rounds.{giver, leg_payment, leg, try, try_moves, rounds}
use Rattle.rulebook.specs.Rules.{checks, work, rule, moves_by, placing, redeeming, rounded}
use Rattle.rulebook.proofs.Answering.{Passes, rule_both, asked}
use Rattle.rulebook.proofs.Ways.{try_both}

pub side_true : (s t : Side) → same_side s t ≡ true → s ≡ t
side_true Own Own e = refl
side_true Own Customer e = cc
side_true Customer Own e = cc
side_true Customer Customer e = refl

pub same_true : (p q : Place) → same p q ≡ true → p ≡ q
same_true p q e =
    let h = and_parts (eqb p.participant q.participant) (eqb p.issue q.issue && same_side p.side q.side) e in
    let g = and_parts (eqb p.issue q.issue) (same_side p.side q.side) h.1 in
    λ i. record {
      participant = eqb-true p.participant q.participant h.0 i;
      issue = eqb-true p.issue q.issue g.0 i;
      side = side_true p.side q.side g.1 i;
    }

-- what is at a place is within f, if it is there
pub at_le : (f : Place → ℕ) (p q : Place) (n : ℕ) → n ≤ f p → at p n q ≤ f q
at_le f p q n h = cond_both (same p q) n 0 (λ x. x ≤ f q) (λ e. rw (← same_true p q e) h) (λ _. omega arith)

-- own and customer nominal stand at two places
pub two_at : (f : Place → ℕ) (p i u c : ℕ) (q : Place) → u ≤ f (place p i Own) → c ≤ f (place p i Customer)
    → at (place p i Own) u q + at (place p i Customer) c q ≤ f q
two_at f p i u c q hu hc =
    cond_both
    (same (place p i Own) q)
    u
    0
    (λ n. n + at (place p i Customer) c q ≤ f q)
    (λ e. cond_both
    (same (place p i Customer) q)
    c
    0
    (λ n. u + n ≤ f q)
    (λ d.
    let z : Own ≡ Customer = ap (λ (w : Place). w.side) (same_true (place p i Own) q e ∙ sym (same_true (place p i Customer) q d)) in
    let w : ◌≡◌ {A = ℕ} 0 1 = cc in
    omega arith)
    (λ _. let h : u ≤ f q = rw (← same_true (place p i Own) q e) hu in omega arith))
    (λ _. omega (arith, at_le f (place p i Customer) q c hc))

pub affords_le : (a : Amounts) (y : Option Payment) (x : ℕ) → affords a y ≡ true → out_of y x ≤ a.balance x
affords_le a y x h = grind (arith, nat_tests)

-- P holds of each movement at the amounts that those before it left
abbrev pub Along : (Amounts → Movement → Type 0) → List Movement → Amounts → Type 0
Along P [] a = Unit {0}
Along P (v ∷ vs) a = P a v × Along P vs (after v a)

pub along_append : (P : Amounts → Movement → Type 0) (vs ws : List Movement) (a : Amounts)
    → Along P vs a → Along P ws (afters vs a) → Along P (vs ++ ws) a
along_append P [] ws a h g = g
along_append P (v ∷ vs) ws a h g = (h.0, along_append P vs ws (after v a) h.1 g)

-- P of an instruction's legs, at whatever amounts they settle
abbrev pub LegsKeep : (Amounts → Movement → Type 0) → Setting → ℕ → List Blocking → Instruction → Type 0
LegsKeep P st d bs i =
    (a : Amounts) (e : Leg) → i.order.nominal ≤ free a bs (giver i.order e) → affords a (leg_payment st i.order e) ≡ true
    → P a (leg st d i e)

pub rounds_along : (P : Amounts → Movement → Type 0) (st : Setting) (d : ℕ) (bs : List Blocking) (is : List Instruction) (a : Amounts)
    → AllByRecursion (LegsKeep P st d bs) is → Along P (rounds st d bs is a).1 a
rounds_along P st d bs [] a h = tt
rounds_along P st d bs (i ∷ is) a h =
    let t = try st d bs a i in
    let b = afters (try_moves st d i t) a in
    along_append P (try_moves st d i t) (rounds st d bs is b).1 a
    (try_both st d bs a i (λ u. Along P (try_moves st d i u) a) (λ _ _. tt) (λ _ _ _. tt) (λ _ _ _ _. tt) (λ e _ n m. (h.0 a e n m, tt)))
    (rounds_along P st d bs is b h.1)

-- P of what each kind of call moves is P along all that it moves
pub moves_along : (P : Amounts → Movement → Type 0) (st : Setting) (a : Amounts) (k : Book) (c : Call)
    → ((o : Placement) → Passes (place_checks st a k o) → P a (placing st k o))
    → AllByRecursion (LegsKeep P st (today k) k.blockings.standing) k.instructions.standing
    → ((i p : ℕ) → Passes (redeem_checks st a k i p) → P a (redeeming st a k i p))
    → Along P (moves_by (rule st a k c)) a
moves_along P st a k c placed settled redeemed = rule_both (λ o. Along P (moves_by o) a) st a k c (λ _. tt) (each c)
  where
    round : Along P (rounded st a k).1 a
    round = rounds_along P st (today k) k.blockings.standing k.instructions.standing a settled

    each : (c : Call) → Passes (checks st a k c) → Along P (moves_by (work st a k c)) a
    each call.Opening h = tt
    each (call.NewIssue i d) h = tt
    each (call.Placing o) h = (placed o h, tt)
    each (call.Instructing o) h = tt
    each (call.Cancelling p n) h = tt
    each (call.Blocking o) h = tt
    each (call.Releasing p n) h = tt
    each call.Round h = round
    each call.Closing h = cond_both (eqb k.standing.state on_no_day) _ _ (λ o. Along P (moves_by o) a) (λ _. tt) (λ _. round)
    each (call.Redeeming i p) h = (redeemed i p h, tt)
    each (call.AskingStatus n) h = asked (λ o. Along P (moves_by o) a) st a k n tt (λ _. tt)
    each (call.AskingHolding p i) h = tt

-- what a movement takes is free, and what it pays is there
pub record Covered (bs : List Blocking) (a : Amounts) (v : Movement) : Type 0 where
  pub nominal : (p : Place) → takes v p ≤ free a bs p
  pub balance : (x : ℕ) → out_of (money v) x ≤ a.balance x

pub leg_covered : (st : Setting) (d : ℕ) (bs : List Blocking) (i : Instruction) → LegsKeep (Covered bs) st d bs i
leg_covered st d bs i a e n m =
    record {
      nominal = λ p. at_le (free a bs) (giver i.order e) p i.order.nominal n;
      balance = λ x. affords_le a (leg_payment st i.order e) x m;
    }

all_legs : (st : Setting) (d : ℕ) (bs : List Blocking) (is : List Instruction) → AllByRecursion (LegsKeep (Covered bs) st d bs) is
all_legs st d bs [] = tt
all_legs st d bs (i ∷ is) = (leg_covered st d bs i, all_legs st d bs is)

redeem_covered : (st : Setting) (a : Amounts) (k : Book) (i p : ℕ) → Passes (redeem_checks st a k i p)
    → Covered k.blockings.standing a (redeeming st a k i p)
redeem_covered st a k i p h =
    let bs = k.blockings.standing in
    let none : held_back bs p i ≡ 0 = eqb-true (held_back bs p i) 0 (and_parts (ltb 0 (held a p i)) (eqb (held_back bs p i) 0) h.1.1.1.1.0).1 in
    record {
      nominal = λ q. two_at (free a bs) p i (a.nominal (place p i Own)) (a.nominal (place p i Customer)) q (omega arith) (omega arith);
      balance = λ x. affords_le a (money (redeeming st a k i p)) x h.1.1.1.1.1.0;
    }

-- whatever a call moves is covered
pub covers : (st : Setting) (a : Amounts) (k : Book) (c : Call) → Along (Covered k.blockings.standing) (moves_by (rule st a k c)) a
covers st a k c =
    moves_along (Covered k.blockings.standing) st a k c
    (λ o h. record { nominal = λ p. omega arith; balance = λ x. affords_le a (money (placing st k o)) x h.1.1.1.1.1.1.0 })
    (all_legs st (today k) k.blockings.standing k.instructions.standing)
    (redeem_covered st a k)
