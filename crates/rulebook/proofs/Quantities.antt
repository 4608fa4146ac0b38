-- Quantities over every list of calls: nothing is short, limits hold, money is conserved.
use Rattle.std.proofs.Common.{◌≡◌, ℕ, ◌+◌, ◌-◌, ◌<◌, ◌≤◌, Bool, true, false, cond, not, ◌&&◌, eqb, ltb, ◌⊎◌, List, [], ◌∷◌, length, Some, None, Option, sym, refl, ap, ◌∙◌, subst, inl, inr, arith}
use Rattle.std.proofs.lemmas.Bool.{cond_both, cond-true, cond-false, and_parts, eqb-true, leb-true, ltb-true, cases_lt, cases_Bool}
use Rattle.std.proofs.ByRecursion.{All-weaker}
use Rattle.std.proofs.lemmas.Bool.Decides.{nat_tests}
use Rattle.rulebook.specs.declared.Side.{Side}
use Rattle.rulebook.specs.declared.Side.TheVariants.{Own, Customer}
use Rattle.rulebook.specs.declared.Order.{Order}
use Rattle.rulebook.specs.declared.Placement.{Placement}
use Rattle.rulebook.specs.declared.Pledge.{Pledge}
use Rattle.rulebook.specs.declared.Call.{Call}
use Rattle.rulebook.specs.declared.Call.TheVariants as call
use Rattle.rulebook.specs.States.{on_no_day}
use Rattle.rulebook.specs.Words.{total, sum_below, same_side, Place, place, at, Payment, first, return, Movement, placed, settled, redeemed, takes, brings, money, out_of, into, Amounts, after, afters, Blocking, Instruction, Setting, Book, Start, blocked, free, account, payment, priced, outstanding}
use Rattle.rulebook.specs.Checks.{knows, today, held, place_checks, pledge_place, block_checks, is_blocking, redeem_checks}
use Rattle.rulebook.specs.Rules.{Outcome, checks, work, rule, book_by, moves_by, placing, granted, redeeming}
use Rattle.rulebook.specs.Journal.{taken, brought, paid, received, had, reads, setting_of, Past, new_past, outcome, step, history}
use Rattle.rulebook.specs.Laws.{Sensible, places, redeems}
use Rattle.rulebook.proofs.Totals.{total_push, total_passing_le, sum_below_same, sum_below_zero, sum_below_at, sum_below_shift, sum_below_one, total_append}
use Rattle.rulebook.proofs.Answering.{Passes, rule_both, asked}
use Rattle.rulebook.proofs.Covered.{at_le, Along, LegsKeep, moves_along, Covered, covers}
use Rattle.rulebook.proofs.Agreement.{Backed, none_backed, entered}
use Rattle.rulebook.proofs.Ordered.{Orders, orders_hold, orders_plain}
use Rattle.rulebook.proofs.Steps.{each_history}

-- nominal at a place is one participant's, of one issue, on one side
both_sides : (x y : Bool) (s : Side) (m : ℕ)
    → cond (x && (y && same_side s Own)) m 0 + cond (x && (y && same_side s Customer)) m 0 ≡ cond x (cond y m 0) 0
both_sides x y s m = grind arith

pub at_sum : (n i m : ℕ) (g : Place) → g.participant < n
    → sum_below n (λ p. at g m (place p i Own) + at g m (place p i Customer)) ≡ cond (eqb g.issue i) m 0
at_sum n i m g l =
    sum_below_same n (λ p. at g m (place p i Own) + at g m (place p i Customer)) (λ p. cond (eqb g.participant p) (cond (eqb g.issue i) m 0) 0)
    (λ p _. both_sides (eqb g.participant p) (eqb g.issue i) g.side m)
    ∙ sum_below_one n g.participant (cond (eqb g.issue i) m 0)
    ∙ inside (cond (eqb g.issue i) m 0)
  where
    inside : (k : ℕ) → cond (ltb g.participant n) k 0 ≡ k
    inside k = grind (arith, nat_tests)

-- nothing stands at a place of another participant
at_elsewhere : (p q : Place) (m : ℕ) → p.participant < q.participant → at p m q ≡ 0
at_elsewhere p q m l = grind (arith, nat_tests)

-- the accounts of a payment are below b
abbrev pub PaidWithin : ℕ → Option Payment → Type 0
PaidWithin b None = Unit {0}
PaidWithin b (Some y) = (y.payer < b) × (y.payee < b)

-- a movement stays among the participants and accounts, and a placement below the limit
abbrev pub Allowed : Setting → ℕ → Amounts → Movement → Type 0
Allowed st b a (placed d p m y) =
    (p.participant < st.participants) × (outstanding st a p.issue + m ≤ 1000000000000000) × PaidWithin b y
Allowed st b a (settled d t e g r m y) =
    (g.participant < st.participants) × (r.participant < st.participants) × (g.issue ≡ r.issue) × PaidWithin b y
Allowed st b a (redeemed d p i u c y) = (p < st.participants) × PaidWithin b y

-- what holds of the amounts after every call, on b accounts that hold so much money together
pub record Sound (st : Setting) (b fund : ℕ) (bs : List Blocking) (a : Amounts) : Type 0 where
  pub covered : (p : Place) → blocked bs p ≤ a.nominal p
  pub outside : (p : Place) → st.participants ≤ p.participant → a.nominal p ≡ 0
  pub bounded : (i : ℕ) → outstanding st a i ≤ 1000000000000000
  pub conserved : sum_below b (λ x. a.balance x) ≡ fund

-- one movement that is covered and allowed
module _ (st : Setting) (b : ℕ) (bs : List Blocking) where
  -- the nominal of an issue that a movement takes and brings
  abbrev outgoing : Movement → ℕ → ℕ
  outgoing v i = sum_below st.participants (λ p. takes v (place p i Own) + takes v (place p i Customer))

  abbrev incoming : Movement → ℕ → ℕ
  incoming v i = sum_below st.participants (λ p. brings v (place p i Own) + brings v (place p i Customer))

  pub outstanding_after : (a : Amounts) (v : Movement) (i : ℕ) → Covered bs a v
      → outstanding st (after v a) i + outgoing v i ≡ outstanding st a i + incoming v i
  outstanding_after a v i c =
      sum_below_shift st.participants
      (λ p. a.nominal (place p i Own) + a.nominal (place p i Customer))
      (λ p. (after v a).nominal (place p i Own) + (after v a).nominal (place p i Customer))
      (λ p. takes v (place p i Own) + takes v (place p i Customer))
      (λ p. brings v (place p i Own) + brings v (place p i Customer))
      (λ p. omega (arith, c.nominal (place p i Own), c.nominal (place p i Customer)))

  cond_plus : (t : Bool) (u c : ℕ) → cond t u 0 + cond t c 0 ≡ cond t (u + c) 0
  cond_plus t u c = grind arith

  -- what a redemption takes of an issue
  redeemed_sum : (p k u c i : ℕ) → p < st.participants
      → sum_below st.participants (λ x.
      (at (place p k Own) u (place x i Own) + at (place p k Customer) c (place x i Own))
      + (at (place p k Own) u (place x i Customer) + at (place p k Customer) c (place x i Customer)))
      ≡ cond (eqb k i) (u + c) 0
  redeemed_sum p k u c i l =
      omega (
        arith,
        sum_below_shift st.participants own
            (λ x.
            (at (place p k Own) u (place x i Own) + at (place p k Customer) c (place x i Own))
            + (at (place p k Own) u (place x i Customer) + at (place p k Customer) c (place x i Customer)))
            (λ _. 0)
            customer
            (λ x. omega arith),
        sum_below_zero st.participants (λ _. 0) (λ _. refl),
        at_sum st.participants i u (place p k Own) l,
        at_sum st.participants i c (place p k Customer) l,
        cond_plus (eqb k i) u c,
      )
    where
      own : ℕ → ℕ
      own x = at (place p k Own) u (place x i Own) + at (place p k Own) u (place x i Customer)

      customer : ℕ → ℕ
      customer x = at (place p k Customer) c (place x i Own) + at (place p k Customer) c (place x i Customer)

  -- what a movement brings to an issue it takes from it, unless it places or redeems
  flow : (a : Amounts) (v : Movement) (i : ℕ) → Covered bs a v → Allowed st b a v
      → outstanding st (after v a) i + redeems i v ≡ outstanding st a i + places i v
  flow a (placed d p m y) i c w =
      omega (
        arith,
        outstanding_after a (placed d p m y) i c,
        at_sum st.participants i m p w.0,
        sum_below_zero st.participants (λ _. 0 + 0) (λ _. refl),
      )
  flow a (settled d t e g r m y) i c w =
      omega (
        arith,
        outstanding_after a (settled d t e g r m y) i c,
        at_sum st.participants i m g w.0,
        at_sum st.participants i m r w.1,
        ap {B = ℕ} (λ k. cond (eqb k i) m 0) w.2,
      )
  flow a (redeemed d p k u q y) i c w =
      omega (
        arith,
        outstanding_after a (redeemed d p k u q y) i c,
        redeemed_sum p k u q i w.0,
        sum_below_zero st.participants (λ _. 0 + 0) (λ _. refl),
      )

  pub flows : (a : Amounts) (vs : List Movement) (i : ℕ) → Along (Covered bs) vs a → Along (Allowed st b) vs a
      → outstanding st (afters vs a) i + total (redeems i) vs ≡ outstanding st a i + total (places i) vs
  flows a [] i c w = refl
  flows a (v ∷ vs) i c w = omega (arith, flow a v i c.0 w.0, flows (after v a) vs i c.1 w.1)

  bounds : (a : Amounts) (v : Movement) (i : ℕ) → Covered bs a v → Allowed st b a v → outstanding st a i ≤ 1000000000000000
      → outstanding st (after v a) i ≤ 1000000000000000
  bounds a (placed d p m y) i c w h = go (cases_Bool (eqb p.issue i))
    where
      go : (eqb p.issue i ≡ true) ⊎ (eqb p.issue i ≡ false) → outstanding st (after (placed d p m y) a) i ≤ 1000000000000000
      go (inl t) =
          let l : outstanding st a i + m ≤ 1000000000000000 = rw (← eqb-true p.issue i t) w.1 in
          omega (arith, flow a (placed d p m y) i c w, cond-true (eqb p.issue i) m 0 t)
      go (inr t) = omega (arith, flow a (placed d p m y) i c w, cond-false (eqb p.issue i) m 0 t)
  bounds a (settled d t e g r m y) i c w h = omega (arith, flow a (settled d t e g r m y) i c w)
  bounds a (redeemed d p k u q y) i c w h = omega (arith, flow a (redeemed d p k u q y) i c w)

  stays_outside : (a : Amounts) (v : Movement) (q : Place) → Allowed st b a v → st.participants ≤ q.participant → brings v q ≡ 0
  stays_outside a (placed d p m y) q w l = at_elsewhere p q m (omega (arith, w.0))
  stays_outside a (settled d t e g r m y) q w l = at_elsewhere r q m (omega (arith, w.1))
  stays_outside a (redeemed d p i u c y) q w l = refl

  -- a payment brings what it takes
  paid_on : (y : Option Payment) → PaidWithin b y → sum_below b (out_of y) ≡ sum_below b (into y)
  paid_on None w = refl
  paid_on (Some y) w =
      sum_below_one b y.payer y.amount ∙ inside ∙ sym (sum_below_one b y.payee y.amount)
    where
      inside : cond (ltb y.payer b) y.amount 0 ≡ cond (ltb y.payee b) y.amount 0
      inside = grind (arith, nat_tests, w.0, w.1)

  pays_within : (a : Amounts) (v : Movement) → Allowed st b a v → PaidWithin b (money v)
  pays_within a (placed d p m y) w = w.2
  pays_within a (settled d t e g r m y) w = w.3
  pays_within a (redeemed d p i u c y) w = w.1

  sound_after : (fund : ℕ) (a : Amounts) (v : Movement) → Sound st b fund bs a → Covered bs a v → Allowed st b a v
      → Sound st b fund bs (after v a)
  sound_after fund a v h c w =
      record {
        covered = λ p. omega (arith, h.covered p, c.nominal p);
        outside = λ p l. omega (arith, h.outside p l, stays_outside a v p w l);
        bounded = λ i. bounds a v i c w (h.bounded i);
        conserved = omega (
          arith,
          h.conserved,
          paid_on (money v) (pays_within a v w),
          sum_below_shift b (λ x. a.balance x) (λ x. (after v a).balance x) (out_of (money v)) (into (money v)) (λ x. omega (arith, c.balance x)),
        );
      }

  pub sound_afters : (fund : ℕ) (a : Amounts) (vs : List Movement) → Sound st b fund bs a → Along (Covered bs) vs a → Along (Allowed st b) vs a
      → Sound st b fund bs (afters vs a)
  sound_afters fund a [] h c w = h
  sound_afters fund a (v ∷ vs) h c w =
      sound_afters fund (after v a) vs (sound_after fund a v h c.0 w.0) c.1 w.1

-- blockings stay covered: one that is granted takes what is free
module _ (st : Setting) (a : Amounts) (k : Book) where
  abbrev BlocksCovered : Outcome → Type 0
  BlocksCovered o =
      ((p : Place) → blocked k.blockings.standing p ≤ (afters (moves_by o) a).nominal p)
      → (p : Place) → blocked (book_by k o).blockings.standing p ≤ (afters (moves_by o) a).nominal p

  blocks : (o : Pledge) → Passes (block_checks st a k o) → BlocksCovered (work st a k (call.Blocking o))
  blocks o g h p =
      let bs = k.blockings.standing in
      let l = at_le (free a bs) (pledge_place o) p o.nominal (leb-true o.nominal (free a bs (pledge_place o)) g.1.1.1.1.1.1.0) in
      omega (arith, l, h p, total_push (λ (b : Blocking). at b.place b.nominal p) bs (granted k o))

  pub blocks_covered : (c : Call) → BlocksCovered (rule st a k c)
  blocks_covered c = rule_both BlocksCovered st a k c (λ _ h. h) (each c)
    where
      each : (c : Call) → Passes (checks st a k c) → BlocksCovered (work st a k c)
      each call.Opening g = λ h. h
      each (call.NewIssue i d) g = λ h. h
      each (call.Placing o) g = λ h. h
      each (call.Instructing o) g = λ h. h
      each (call.Cancelling p n) g = λ h. h
      each (call.Blocking o) g = blocks o g
      each (call.Releasing p n) g =
          λ h q. omega (
            arith,
            h q,
            total_passing_le (λ (b : Blocking). at b.place b.nominal q) (λ b. not (is_blocking p n b)) k.blockings.standing,
          )
      each call.Round g = λ h. h
      each call.Closing g =
          cond_both (eqb k.standing.state on_no_day) _ _ BlocksCovered (λ _ h. h) (λ _ h. h)
      each (call.Redeeming i p) g = λ h. h
      each (call.AskingStatus n) g = asked BlocksCovered st a k n (λ h. h) (λ _ h. h)
      each (call.AskingHolding p i) g = λ h. h

-- both ends of an order are participants
abbrev pub Among : ℕ → Order → Type 0
Among n o = (o.transferor < n) × (o.acquirer < n)

-- a start that can be made
module _ (s : Start) (w : Sensible s) where
  abbrev st : Setting
  st = setting_of s

  abbrev accounts : ℕ
  accounts = length s.funds.balances

  known : (p : ℕ) → knows st p ≡ true → p < s.participants
  known p e = ltb-true p s.participants (and_parts (ltb p s.participants) (ltb p (length s.funds.accounts)) e).0

  account_within : (p : ℕ) → p < s.participants → account st p < accounts
  account_within p l = w.funds.within p (omega (arith, w.known))

  payment_within : (x y n : ℕ) → x < s.participants → y < s.participants → PaidWithin accounts (payment st x y n)
  payment_within x y n l m =
      cond_both (eqb (account st x) (account st y)) _ _ (PaidWithin accounts) (λ _. tt) (λ _. (account_within x l, account_within y m))

  priced_within : (x y : ℕ) (n : Option ℕ) → x < s.participants → y < s.participants → PaidWithin accounts (priced st x y n)
  priced_within x y None l m = tt
  priced_within x y (Some n) l m = payment_within x y n l m

  leg_allowed : (d : ℕ) (bs : List Blocking) (i : Instruction) → Among s.participants i.order → LegsKeep (Allowed st accounts) st d bs i
  leg_allowed d bs i m a first n y = (m.0, m.1, refl, priced_within i.order.acquirer i.order.transferor i.order.price m.1 m.0)
  leg_allowed d bs i m a return n y = (m.1, m.0, refl, priced_within i.order.transferor i.order.acquirer i.order.return_price m.0 m.1)

  place_allowed : (a : Amounts) (k : Book) (o : Placement) → Passes (place_checks st a k o) → Allowed st accounts a (placing st k o)
  place_allowed a k o h =
      let l = known o.participant h.1.0 in (
        l,
        leb-true (outstanding st a o.issue + o.nominal) 1000000000000000 h.1.1.1.1.1.0,
        payment_within o.participant 0 o.price l (omega (arith, w.some)),
      )

  redeem_allowed : (a : Amounts) (k : Book) (i p : ℕ) → Passes (redeem_checks st a k i p) → Allowed st accounts a (redeeming st a k i p)
  redeem_allowed a k i p h =
      let l = known p h.1.0 in
      (l, payment_within 0 p (held a p i) (omega (arith, w.some)) l)

  -- whatever a call moves is allowed
  pub allows : (a : Amounts) (k : Book) (c : Call) → Orders (Among s.participants) k.instructions.standing
      → Along (Allowed st accounts) (moves_by (rule st a k c)) a
  allows a k c h =
      moves_along (Allowed st accounts) st a k c
      (place_allowed a k)
      (All-weaker (λ i. Among s.participants i.order) (LegsKeep (Allowed st accounts) st (today k) k.blockings.standing)
      (leg_allowed (today k) k.blockings.standing)
      k.instructions.standing
      (orders_plain (Among s.participants) k.instructions.standing h))
      (redeem_allowed a k)

  abbrev fund : ℕ
  fund = sum_below accounts (λ x. had s.funds x)

  -- what holds after every call
  pub record Kept (h : Past) : Type 0 where
    pub backed : Backed s.funds h.journal
    pub sound : Sound st accounts fund h.book.blockings.standing (reads s.funds h.journal)
    pub issued : (i : ℕ)
        → outstanding st (reads s.funds h.journal) i + total (redeems i) h.journal ≡ total (places i) h.journal

  first_kept : Kept new_past
  first_kept =
      record {
        backed = none_backed s.funds;
        sound = record {
          covered = λ p. omega arith;
          outside = λ p l. refl;
          bounded = λ i. omega (arith, sum_below_zero s.participants (λ _. 0 - 0 + (0 - 0)) (λ _. refl));
          conserved = sum_below_same accounts (λ x. had s.funds x + 0 - 0) (λ x. had s.funds x) (λ x _. omega arith);
        };
        issued = λ i. omega (arith, sum_below_zero s.participants (λ _. 0 - 0 + (0 - 0)) (λ _. refl));
      }

  among : (cs : List Call) → Orders (Among s.participants) (history s cs).book.instructions.standing
  among =
      orders_hold (Among s.participants) s
      (λ k o q.
      let m = and_parts (knows st o.transferor) (knows st o.acquirer) q.1.0 in
      (known o.transferor m.0, known o.acquirer m.1))

  step_kept : (h : Past) (c : Call) → Orders (Among s.participants) h.book.instructions.standing → Kept h → Kept (step s h c)
  step_kept h c orders g =
      let a = reads s.funds h.journal in
      let k = h.book in
      let bs = k.blockings.standing in
      let vs = moves_by (outcome s h c) in
      let cov = covers st a k c in
      let e = entered s.funds h.journal bs vs g.backed cov in
      let ok = allows a k c orders in
      let f = sound_afters st accounts bs fund a vs g.sound cov ok in
      let b : Sound st accounts fund (step s h c).book.blockings.standing (afters vs a) = record {
        covered = blocks_covered st a k c f.covered;
        outside = f.outside;
        bounded = f.bounded;
        conserved = f.conserved;
      } in
      record {
        backed = e.1;
        sound = subst (Sound st accounts fund (step s h c).book.blockings.standing) e.0 b;
        issued = λ i.
            omega (
              arith,
              g.issued i,
              flows st accounts bs a vs i cov ok,
              ap (λ (x : Amounts). outstanding st x i) e.0,
              total_append (redeems i) h.journal vs,
              total_append (places i) h.journal vs,
            );
      }

  pub kept : (cs : List Call) → Kept (history s cs)
  kept = each_history s Kept first_kept (λ cs c. step_kept (history s cs) c (among cs))

-- the quantities of a past
pub record Quantities (s : Start) (h : Past) : Type 0 where
  pub nominal : (p : Place) → (reads s.funds h.journal).nominal p + taken h.journal p ≡ brought h.journal p
  pub covered : (p : Place) → blocked h.book.blockings.standing p ≤ (reads s.funds h.journal).nominal p
  pub limited : (p : Place) → (reads s.funds h.journal).nominal p ≤ 1000000000000000
  pub bounded : (i : ℕ) → outstanding (setting_of s) (reads s.funds h.journal) i ≤ 1000000000000000
  pub balance : (x : ℕ)
      → (reads s.funds h.journal).balance x + paid h.journal x ≡ had s.funds x + received h.journal x
  pub conserved : sum_below (length s.funds.balances) (λ x. (reads s.funds h.journal).balance x)
      ≡ sum_below (length s.funds.balances) (λ x. had s.funds x)

-- what one participant holds is part of what is outstanding
pub held_within : (st : Setting) (a : Amounts) (p : Place) → p.participant < st.participants → a.nominal p ≤ outstanding st a p.issue
held_within st a p l =
    let h = sum_below_at st.participants p.participant (λ q. a.nominal (place q p.issue Own) + a.nominal (place q p.issue Customer)) l in
    go p.side refl h
  where
    go : (x : Side) → p.side ≡ x
        → a.nominal (place p.participant p.issue Own) + a.nominal (place p.participant p.issue Customer) ≤ outstanding st a p.issue
        → a.nominal p ≤ outstanding st a p.issue
    go Own e h =
        let same : a.nominal p ≡ a.nominal (place p.participant p.issue Own) = ap (λ (y : Side). a.nominal (place p.participant p.issue y)) e in
        omega arith
    go Customer e h =
        let same : a.nominal p ≡ a.nominal (place p.participant p.issue Customer) = ap (λ (y : Side). a.nominal (place p.participant p.issue y)) e in
        omega arith

pub quantities : (s : Start) → Sensible s → (cs : List Call) → Quantities s (history s cs)
quantities s w cs =
    let h = history s cs in
    let k = kept s w cs in
    record {
      nominal = k.backed.nominal;
      covered = k.sound.covered;
      limited = λ p. limits h k p (cases_lt p.participant s.participants);
      bounded = k.sound.bounded;
      balance = k.backed.balance;
      conserved = k.sound.conserved;
    }
  where
    limits : (h : Past) → Kept s w h → (p : Place) → (p.participant < s.participants) ⊎ (s.participants ≤ p.participant)
        → (reads s.funds h.journal).nominal p ≤ 1000000000000000
    limits h k p (inl l) = omega (arith, k.sound.bounded p.issue, held_within (setting_of s) (reads s.funds h.journal) p l)
    limits h k p (inr l) = omega (arith, k.sound.outside p l)
