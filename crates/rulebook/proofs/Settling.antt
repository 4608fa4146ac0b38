-- A round: every leg that settles is its instruction's, on its date, and a return has its first leg before it.
use Rattle.std.proofs.Common.{◌≡◌, ℕ, ◌+◌, ◌<◌, ◌≤◌, Bool, true, false, ◌&&◌, eqb, ltb, List, [], ◌∷◌, ◌++◌, Some, None, Option, sym, refl, ap, subst, arith}
use Rattle.std.specs.List.{AllByRecursion}
use Rattle.std.proofs.ByRecursion.{All-weaker}
use Rattle.std.proofs.lemmas.Bool.{and_from, eq-eqb, eqb-true}
use Rattle.std.proofs.lemmas.Bool.Decides.{nat_tests}
use Rattle.calendar.specs.declared.Date.{Date}
use Rattle.rulebook.specs.declared.Side.{Side}
use Rattle.rulebook.specs.declared.Side.TheVariants.{Own, Customer}
use Rattle.rulebook.specs.declared.Fate.TheVariants as fate
use Rattle.rulebook.specs.Words.{one_if, total, same_side, Place, same, Payment, Leg, first, return, Movement, placed, settled, redeemed, is_leg, Amounts, after, afters, Blocking, Instruction, Setting}
use Rattle.rulebook.specs.States.{date_of}
use Rattle.rulebook.specs.Checks.{has_serial}
use Rattle.rulebook.specs.Matching.{same_option}
use Rattle.rulebook.specs.Rounds.{giver, receiver, leg_payment, leg, is_day, try_moves, rounds}
use Rattle.rulebook.specs.Journal.{Journal, times}
use Rattle.rulebook.specs.Laws.{leg_date, same_payment, moves_as, carries_out, is_settlement, ReturnsBehind}
use Rattle.rulebook.proofs.Totals.{one_if_le, one_if_part, total_append, Member}
use Rattle.rulebook.proofs.Roll.{bare}
use Rattle.rulebook.proofs.Punctual.{value}
use Rattle.rulebook.proofs.Ways.{Ready, try_both}

-- legs have known serials
abbrev pub Within : ℕ → Movement → Type 0
Within next (placed d p n y) = Unit {0}
Within next (settled d n e g r m y) = n < next
Within next (redeemed d p i u c y) = Unit {0}

abbrev pub carriers : Setting → List Instruction → Movement → ℕ
carriers st ns v = total (λ i. one_if (carries_out st v i)) ns

abbrev pub Proper : Setting → List Instruction → ℕ → Movement → Type 0
Proper st ns next v = Within next v × (carriers st ns v ≡ one_if (is_settlement v))

-- a leg is carried out by serial and order alone
pub carries_bare : (st : Setting) (v : Movement) (i : Instruction) → one_if (carries_out st v i) ≡ one_if (carries_out st v (bare i))
carries_bare st (placed d p n y) i = refl
carries_bare st (settled d n e g r m y) i = refl
carries_bare st (redeemed d p k u c y) i = refl

same_here : (p : Place) → same p p ≡ true
same_here p = and_from _ _ (eq-eqb p.participant p.participant refl) (and_from _ _ (eq-eqb p.issue p.issue refl) (side p.side))
  where
    side : (s : Side) → same_side s s ≡ true
    side Own = refl
    side Customer = refl

payment_here : (y : Option Payment) → same_option same_payment y y ≡ true
payment_here None = refl
payment_here (Some y) = grind (arith, nat_tests)

leg_here : (st : Setting) (d : ℕ) (i : Instruction) (e : Leg) → leg_date i.order e ≡ d → carries_out st (leg st d i e) i ≡ true
leg_here st d i e h =
    and_from
    _
    _
    (eq-eqb i.serial i.serial refl)
    (and_from _ _ (eq-eqb d (leg_date i.order e) (sym h)) (go e))
  where
    go : (l : Leg) → moves_as st i.order l (giver i.order l) (receiver i.order l) i.order.nominal (leg_payment st i.order l) ≡ true
    go first =
        and_from _ _ (same_here (giver i.order first)) (and_from _ _ (same_here (giver i.order return)) (and_from _ _ (eq-eqb i.order.nominal i.order.nominal refl) (payment_here (leg_payment st i.order first))))
    go return =
        and_from _ _ (same_here (giver i.order return)) (and_from _ _ (same_here (giver i.order first)) (and_from _ _ (eq-eqb i.order.nominal i.order.nominal refl) (payment_here (leg_payment st i.order return))))

one_below : (n m : ℕ) → 1 ≤ one_if (ltb n m) → n < m
one_below n m h = grind (arith, nat_tests)

-- a leg on its date is proper, if serials stand once
leg_proper : (st : Setting) (ns : List Instruction) (next d : ℕ) (i : Instruction) (e : Leg)
    → ((n : ℕ) → total (λ x. one_if (has_serial n x)) ns ≤ one_if (ltb n next))
    → Member ns i → leg_date i.order e ≡ d → Proper st ns next (leg st d i e)
leg_proper st ns next d i e u m h = (one_below i.serial next (omega (arith, u i.serial, here)), carried)
  where
    here : 1 ≤ total (λ x. one_if (has_serial i.serial x)) ns
    here =
        let l : one_if (has_serial i.serial i) ≤ total (λ x. one_if (has_serial i.serial x)) ns = m (λ x. one_if (has_serial i.serial x)) in
        let o : one_if (has_serial i.serial i) ≡ 1 = ap one_if (eq-eqb i.serial i.serial refl) in
        omega arith

    most : (xs : List Instruction) → carriers st xs (leg st d i e) ≤ total (λ x. one_if (has_serial i.serial x)) xs
    most [] = omega arith
    most (x ∷ xs) = omega (arith, one_if_part (has_serial i.serial x) (eqb d (leg_date x.order e) && moves_as st x.order e (giver i.order e) (receiver i.order e) i.order.nominal (leg_payment st i.order e)), most xs)

    carried : carriers st ns (leg st d i e) ≡ 1
    carried =
        let l : one_if (carries_out st (leg st d i e) i) ≤ carriers st ns (leg st d i e) = m (λ x. one_if (carries_out st (leg st d i e) x)) in
        let o : one_if (carries_out st (leg st d i e) i) ≡ 1 = ap one_if (leg_here st d i e h) in
        omega (arith, most ns, u i.serial, one_if_le (ltb i.serial next))

day_true : (d : ℕ) (r : Option Date) → is_day d r ≡ true → date_of r ≡ d
day_true d None e = let z : ◌≡◌ {A = ℕ} 0 1 = cc in absurd (omega arith)
day_true d (Some r) e = eqb-true r.number d e

-- a matched one's value date is that day, and a repo that is out has its first leg in the journal
abbrev pub Apt : ℕ → Journal → Instruction → Type 0
Apt d j i = (i.fate ≡ fate.Matched → value i.order ≡ d) × (i.fate ≡ fate.RepoOut → 1 ≤ times j i.serial first)

apt_more : (d : ℕ) (j vs : Journal) (i : Instruction) → Apt d j i → Apt d (j ++ vs) i
apt_more d j vs i h = (h.0, λ e. omega (arith, h.1 e, total_append (is_leg i.serial first) j vs))

-- the leg that a fate waits for is due on its date
ready_date : (d : ℕ) (j : Journal) (i : Instruction) (e : Leg) → Apt d j i → Ready d i e → leg_date i.order e ≡ d
ready_date d j i first h r = h.0 r
ready_date d j i return h r = day_true d i.order.return_date r.1

-- what a round moves after the journal j
pub record Rounded (st : Setting) (ns : List Instruction) (next : ℕ) (j : Journal) (vs : List Movement) : Type 0 where
  pub proper : AllByRecursion (Proper st ns next) vs
  pub returns : ReturnsBehind j vs

module _ (st : Setting) (d : ℕ) (bs : List Blocking) (ns : List Instruction) (next : ℕ)
    (u : (n : ℕ) → total (λ x. one_if (has_serial n x)) ns ≤ one_if (ltb n next)) where
  -- a return has its first leg before it
  ready_behind : (j : Journal) (i : Instruction) (e : Leg) → Apt d j i → Ready d i e
      → (n : ℕ) → times (leg st d i e ∷ []) n return ≤ times j n first
  ready_behind j i first h r n = grind arith
  ready_behind j i return h r n = go (eqb i.serial n) refl (h.1 r.0)
    where
      go : (t : Bool) → eqb i.serial n ≡ t → 1 ≤ times j i.serial first → one_if (t && true) + 0 ≤ times j n first
      go true q o = let w : 1 ≤ times j n first = subst (λ (m : ℕ). 1 ≤ times j m first) (eqb-true i.serial n q) o in omega arith
      go false q o = omega arith

  module _ (i : Instruction) (is : List Instruction) (j : Journal) (a : Amounts) (w : AllByRecursion (Apt d j) (i ∷ is)) (m : Member ns i)
      (ih : (j : Journal) (a : Amounts) → AllByRecursion (Apt d j) is → Rounded st ns next j (rounds st d bs is a).1) where
    went : (e : Leg) → Ready d i e → Rounded st ns next j (leg st d i e ∷ (rounds st d bs is (after (leg st d i e) a)).1)
    went e r =
        let v : Movement = leg st d i e in
        let y = ih (j ++ v ∷ []) (after v a) (All-weaker (Apt d j) (Apt d (j ++ v ∷ [])) (apt_more d j (v ∷ [])) is w.1) in
        record {
          proper = (leg_proper st ns next d i e u m (ready_date d j i e w.0 r), y.proper);
          returns = (ready_behind j i e w.0 r, y.returns);
        }

    one_more : Rounded st ns next j (rounds st d bs (i ∷ is) a).1
    one_more =
        try_both st d bs a i
        (λ t. Rounded st ns next j (try_moves st d i t ++ (rounds st d bs is (afters (try_moves st d i t) a)).1))
        (λ _ _. ih j a w.1)
        (λ _ _ _. ih j a w.1)
        (λ _ _ _ _. ih j a w.1)
        (λ e r _ _. went e r)

  pub rounded : (is : List Instruction) (j : Journal) (a : Amounts) → AllByRecursion (Apt d j) is → AllByRecursion (Member ns) is
      → Rounded st ns next j (rounds st d bs is a).1
  rounded [] j a w m = record { proper = tt; returns = tt }
  rounded (i ∷ is) j a w m = one_more i is j a w m.0 (λ j' a' w'. rounded is j' a' w' m.1)
