-- No instruction waits past its value date, no repo is out past its return date.
use Rattle.std.proofs.Common.{◌≡◌, ℕ, ◌+◌, ◌<◌, ◌≤◌, Bool, true, false, cond, not, ◌&&◌, ◌||◌, eqb, leb, List, [], ◌∷◌, ◌++◌, Some, None, Option, refl, ap, ⊎_elim, arith}
use Rattle.std.specs.List.{AllByRecursion}
use Rattle.std.proofs.ByRecursion.{All-push, All-weaker, All-map}
use Rattle.std.proofs.lemmas.Bool.{or_left, or_parts, cond_both, and_parts, and_right, or_cases, or_from, or_right, not-true, eqb-true, leb-false, le-ltb, lt-leb, both_ways}
use Rattle.std.proofs.lemmas.Bool.Decides.{nat_tests}
use Rattle.calendar.specs.declared.Date.{Date}
use Rattle.calendar.specs.Days.{passing, is_business, first_from, next_after, RisingAbove}
use Rattle.rulebook.specs.declared.Order.{Order}
use Rattle.rulebook.specs.declared.Fate.{Fate}
use Rattle.rulebook.specs.declared.Fate.TheVariants as fate
use Rattle.rulebook.specs.States.{shut, on_a_day, on_no_day, Standing, opened_on, opened, closed}
use Rattle.rulebook.specs.Words.{some_passes, Leg, first, return, Amounts, afters, Blocking, Instruction, turned, alike, Setting}
use Rattle.rulebook.specs.Checks.{may_cancel}
use Rattle.rulebook.specs.Matching.{same_order, counter, is_partner, pair_up, met, arrive, wake, wake_all, has_ended, joins, leaves, cancelled_in}
use Rattle.rulebook.specs.Rounds.{is_leg_refused, is_day, try, settled_one, tried, try_moves, rounds, ended, ended_all}
use Rattle.rulebook.specs.Laws.{day_closed}
use Rattle.rulebook.proofs.Ways.{Ready, try_both, ended_both, cancel_both, arrive_both, is_waiting}
use Rattle.rulebook.proofs.Totals.{all_passes}

abbrev pub value : Order → ℕ
value o = o.value_date.number

-- no date that an instruction waits for has been closed; one that settled whole has no return date
pub record Punctual (sd : Standing) (o : Order) (f : Fate) : Type 0 where
  pub waiting : is_waiting f ≡ true → day_closed sd (value o) ≡ false
  pub out : alike f fate.RepoOut ≡ true → (d : Date) → o.return_date ≡ Some d → day_closed sd d.number ≡ false
  pub plain : alike f fate.Settled ≡ true → (d : Date) → o.return_date ≡ Some d → ⊥

-- an order's dates are business days, the return date after the value date
pub record Fit (days : List ℕ) (o : Order) : Type 0 where
  pub value_date : is_business (value o) days ≡ true
  pub return_date : (d : Date) → o.return_date ≡ Some d → (is_business d.number days ≡ true) × (value o < d.number)

-- what holds of each instruction on the list
pub record Stands (days : List ℕ) (sd : Standing) (o : Order) (f : Fate) : Type 0 where
  pub fit : Fit days o
  pub punctual : Punctual sd o f
  pub patient : alike f fate.Kept ≡ true → sd.day < value o
  pub arrived : alike f fate.Unmatched || alike f fate.Matched ≡ true → value o ≤ sd.day
  pub refused : is_leg_refused f ≡ true → sd.state ≡ shut

abbrev pub Well : List ℕ → Standing → Instruction → Type 0
Well days sd i = Stands days sd i.order i.fate

-- what holds of each that has left it, whatever day it is
abbrev pub Over : Instruction → Type 0
Over i = (sd : Standing) → Punctual sd i.order i.fate

-- what holds of one that comes to the list: it has not arrived, and closing has not refused it
abbrev pub Comes : List ℕ → Standing → Instruction → Type 0
Comes days sd i =
    Fit days i.order
    × Punctual sd i.order i.fate
    × (alike i.fate fate.Unmatched || alike i.fate fate.Matched ≡ true → ⊥)
    × (is_leg_refused i.fate ≡ true → ⊥)

pub never : {X : Type 0} → false ≡ true → X
never e = absurd (both_ways false refl e)

-- a fate that waits for nothing more than the one before
record Quieter (f g : Fate) : Type 0 where
  waiting : is_waiting g ≡ true → is_waiting f ≡ true
  out : alike g fate.RepoOut ≡ true → alike f fate.RepoOut ≡ true
  plain : alike g fate.Settled ≡ true → alike f fate.Settled ≡ true

quieter : (sd : Standing) (o : Order) (f g : Fate) → Quieter f g → Punctual sd o f → Punctual sd o g
quieter sd o f g q h =
    record {
      waiting = λ e. h.waiting (q.waiting e);
      out = λ e. h.out (q.out e);
      plain = λ e. h.plain (q.plain e);
    }

-- final fates wait for nothing
done_with : (sd : Standing) (o : Order) (g : Fate) → is_waiting g ≡ false → alike g fate.RepoOut ≡ false → alike g fate.Settled ≡ false → Punctual sd o g
done_with sd o g a b c =
    record {
      waiting = λ e. absurd (both_ways (is_waiting g) a e);
      out = λ e. absurd (both_ways (alike g fate.RepoOut) b e);
      plain = λ e. absurd (both_ways (alike g fate.Settled) c e);
    }

-- a later date is open where an earlier one is
later_open : (sd : Standing) (v w : ℕ) → v ≤ w → day_closed sd v ≡ false → day_closed sd w ≡ false
later_open sd v w l h = grind (arith, nat_tests)

-- business days rise, so the next one is the first of all later ones
rises_above : (n : ℕ) (bs : List ℕ) (v : ℕ) → RisingAbove n bs → is_business v bs ≡ true → n < v
rises_above n [] v r h = never h
rises_above n (b ∷ bs) v r h =
    ⊎_elim
    (λ e. omega (arith, r.0, eqb-true b v e))
    (λ e. omega (arith, r.0, rises_above b bs v r.1 e))
    (or_cases (eqb b v) (is_business v bs) h)

first_least : (m n : ℕ) (bs : List ℕ) (d v : ℕ) → RisingAbove m bs → first_from n bs ≡ Some d → is_business v bs ≡ true → n ≤ v → d ≤ v
first_least m n [] d v r e h l = never h
first_least m n (b ∷ bs) d v r e h l = go (leb n b) refl e (λ y w. first_least b n bs d v r.1 y w l)
  where
    go : (t : Bool) → leb n b ≡ t → cond t (Some b) (first_from n bs) ≡ Some d
        → (first_from n bs ≡ Some d → is_business v bs ≡ true → d ≤ v) → d ≤ v
    go true x y more =
        let z : b ≡ d = cc in
        ⊎_elim (λ w. omega (arith, eqb-true b v w)) (λ w. omega (arith, rises_above b bs v r.1 w)) (or_cases (eqb b v) (is_business v bs) h)
    go false x y more =
        ⊎_elim
        (λ w. let p : n ≤ b = omega (arith, eqb-true b v w) in absurd (omega (arith, leb-false n b x)))
        (λ w. more y w)
        (or_cases (eqb b v) (is_business v bs) h)

-- a shut register waits for later dates only, and an open one for none before today
shut_later : (sd : Standing) (v : ℕ) → eqb sd.state shut ≡ true → day_closed sd v ≡ false → sd.day < v
shut_later sd v s h = grind (arith, nat_tests)

open_from : (sd : Standing) (v : ℕ) → day_closed sd v ≡ false → sd.day ≤ v
open_from sd v h = grind (arith, nat_tests)

-- a matched one's value date is today
pub due_day : (days : List ℕ) (sd : Standing) (i : Instruction) → Well days sd i → i.fate ≡ fate.Matched → value i.order ≡ sd.day
due_day days sd i h e =
    omega (
      arith,
      h.arrived (ap (λ f. alike f fate.Unmatched || alike f fate.Matched) e),
      open_from sd (value i.order) (h.punctual.waiting (ap is_waiting e)),
    )

-- opening closes no business day
opening_open : (days : List ℕ) (sd : Standing) (v : ℕ) → RisingAbove 0 days → eqb sd.state shut ≡ true → is_business v days ≡ true
    → day_closed sd v ≡ false → day_closed (opened days sd) v ≡ false
opening_open days sd v r s b h = go (next_after sd.day days) refl
  where
    go : (o : Option ℕ) → next_after sd.day days ≡ o → day_closed (opened_on o sd) v ≡ false
    go None e = lt-leb v sd.day (shut_later sd v s h)
    go (Some d) e = le-ltb v d (first_least 0 (sd.day + 1) days d v r e b (omega (arith, shut_later sd v s h)))

refused_ended : (f : Fate) → is_leg_refused f ≡ true → has_ended f ≡ true
refused_ended f e = grind arith

pub opening_punctual : (days : List ℕ) (sd : Standing) → RisingAbove 0 days → eqb sd.state shut ≡ true
    → (i : Instruction) → Well days sd i → has_ended i.fate ≡ false → Comes days (opened days sd) i
opening_punctual days sd r s i h stays = (
  h.fit,
  record {
    waiting = λ e. opening_open days sd (value i.order) r s h.fit.value_date (h.punctual.waiting e);
    out = λ e d x. opening_open days sd d.number r s (h.fit.return_date d x).0 (h.punctual.out e d x);
    plain = h.punctual.plain;
  },
  λ e. omega (
    arith,
    h.arrived e,
    shut_later sd (value i.order) s (h.punctual.waiting (or_right (alike i.fate fate.Kept) (alike i.fate fate.Unmatched || alike i.fate fate.Matched) e)),
  ),
  λ e. both_ways (has_ended i.fate) stays (refused_ended i.fate e),
)

-- an unmatched one that is matched still waits; so does a kept one that arrives
matched_quieter : (f : Fate) → alike f fate.Unmatched ≡ true → Quieter f fate.Matched
matched_quieter f h = record { waiting = λ e. grind arith; out = λ e. never e; plain = λ e. never e }

arrived_quieter : (f g : Fate) → alike f fate.Kept ≡ true → (alike g fate.Kept || (alike g fate.Unmatched || alike g fate.Matched)) ≡ true → Quieter f g
arrived_quieter f g h k = record { waiting = λ e. grind arith; out = λ e. grind arith; plain = λ e. grind arith }

waiting_open : (g : Fate) → is_waiting g ≡ true → is_leg_refused g ≡ false
waiting_open g w = grind arith

pair_well : (days : List ℕ) (sd : Standing) (o : Order) (xs : List Instruction) → AllByRecursion (Well days sd) xs → AllByRecursion (Well days sd) (pair_up o xs).0
pair_well days sd o [] a = tt
pair_well days sd o (x ∷ xs) a =
    cond_both
    {A = List Instruction × Option ℕ}
    (is_partner o x)
    (turned x fate.Matched None ∷ xs, Some x.serial)
    (x ∷ (pair_up o xs).0, (pair_up o xs).1)
    (λ r. AllByRecursion (Well days sd) r.0)
    (λ e. let p = and_parts (alike x.fate fate.Unmatched) (same_order x.order (counter o)) e in (
      record {
        fit = a.0.fit;
        punctual = quieter sd x.order x.fate fate.Matched (matched_quieter x.fate p.0) a.0.punctual;
        patient = λ e. never e;
        arrived = λ _. a.0.arrived (or_left (alike x.fate fate.Unmatched) (alike x.fate fate.Matched) p.0);
        refused = λ e. never e;
      },
      a.1,
    ))
    (λ _. (a.0, pair_well days sd o xs a.1))

pub arrive_well : (days : List ℕ) (sd : Standing) (xs : List Instruction) (i : Instruction) → alike i.fate fate.Kept ≡ true
    → AllByRecursion (Well days sd) xs → Comes days sd i → AllByRecursion (Well days sd) (arrive sd.day xs i)
arrive_well days sd xs i k a h =
    arrive_both sd.day xs i (AllByRecursion (Well days sd))
    (λ l _. All-push (Well days sd) xs (turned i fate.Matched None) a (as_one fate.Matched refl (λ e. never e) (λ _. l)))
    (λ l _. by_found (pair_up i.order xs).0 (pair_up i.order xs).1 (pair_well days sd i.order xs a) l)
    (λ l. All-push (Well days sd) xs (turned i fate.Kept None) a (as_one fate.Kept refl (λ _. l) (λ e. never e)))
  where
    as_one : (g : Fate) → is_waiting g ≡ true → (alike g fate.Kept ≡ true → sd.day < value i.order)
        → (alike g fate.Unmatched || alike g fate.Matched ≡ true → value i.order ≤ sd.day) → Stands days sd i.order g
    as_one g w p q =
        record {
          fit = h.0;
          punctual = quieter sd i.order i.fate g (arrived_quieter i.fate g k w) h.1;
          patient = p;
          arrived = q;
          refused = λ e. absurd (both_ways (is_leg_refused g) (waiting_open g w) e);
        }

    by_found : (ys : List Instruction) (r : Option ℕ) → AllByRecursion (Well days sd) ys → value i.order ≤ sd.day → AllByRecursion (Well days sd) (ys ++ met i r ∷ [])
    by_found ys None b l = All-push (Well days sd) ys (turned i fate.Unmatched None) b (as_one fate.Unmatched refl (λ e. never e) (λ _. l))
    by_found ys (Some s) b l =
        All-push (Well days sd) ys (turned i (fate.Joined s) None) b
        record {
          fit = h.0;
          punctual = done_with sd i.order (fate.Joined s) refl refl refl;
          patient = λ e. never e;
          arrived = λ e. never e;
          refused = λ e. never e;
        }

wake_well : (days : List ℕ) (sd : Standing) (xs : List Instruction) (i : Instruction)
    → AllByRecursion (Well days sd) xs → Comes days sd i → AllByRecursion (Well days sd) (wake sd.day xs i)
wake_well days sd xs i a h =
    cond_both
    (alike i.fate fate.Kept)
    (arrive sd.day xs i)
    (xs ++ i ∷ [])
    (AllByRecursion (Well days sd))
    (λ e. arrive_well days sd xs i e a h)
    (λ e. All-push (Well days sd) xs i a record {
      fit = h.0;
      punctual = h.1;
      patient = λ k. absurd (both_ways (alike i.fate fate.Kept) e k);
      arrived = λ k. absurd (h.2 k);
      refused = λ k. absurd (h.3 k);
    })

pub wake_all_well : (days : List ℕ) (sd : Standing) (xs is : List Instruction)
    → AllByRecursion (Well days sd) xs → AllByRecursion (Comes days sd) is → AllByRecursion (Well days sd) (wake_all sd.day xs is)
wake_all_well days sd xs [] a b = a
wake_all_well days sd xs (i ∷ is) a b =
    wake_all_well days sd (wake sd.day xs i) is (wake_well days sd xs i a b.0) b.1

-- cancelled ones wait no more
pub cancel_well : (days : List ℕ) (sd : Standing) (p n : ℕ) (xs : List Instruction) → AllByRecursion (Well days sd) xs → AllByRecursion (Well days sd) (cancelled_in p n xs)
cancel_well days sd p n xs a =
    All-map (Well days sd) (λ i. cond (may_cancel p n i) (turned i fate.Cancelled i.cause) i) xs (All-weaker (Well days sd) (λ i. Well days sd (cond (may_cancel p n i) (turned i fate.Cancelled i.cause) i)) one xs a)
  where
    one : (i : Instruction) → Well days sd i → Well days sd (cond (may_cancel p n i) (turned i fate.Cancelled i.cause) i)
    one i h =
        cancel_both p n i (Well days sd)
        (λ _. record { fit = h.fit; punctual = done_with sd i.order fate.Cancelled refl refl refl; patient = λ e. never e; arrived = λ e. never e; refused = λ e. never e })
        h

-- a first leg that settles leaves a repo out until a later date, or settles whole
settled_well : (days : List ℕ) (sd : Standing) (i : Instruction) (l : Leg) (r : Option Date) → i.order.return_date ≡ r
    → Ready sd.day i l → Well days sd i → Well days sd (settled_one i l r)
settled_well days sd i first None q e h =
    record {
      fit = h.fit;
      punctual =
          record {
            waiting = λ x. never x;
            out = λ x. never x;
            plain = λ x d y. let z : ◌≡◌ {A = ℕ} 0 1 = cc in omega arith;
          };
      patient = λ x. never x;
      arrived = λ x. never x;
      refused = λ x. never x;
    }
settled_well days sd i first (Some d) q e h =
    record {
      fit = h.fit;
      punctual =
          record {
            waiting = λ x. never x;
            out = λ x c y.
                later_open sd (value i.order) c.number (omega (arith, (h.fit.return_date c y).1))
                (h.punctual.waiting (or_right (alike i.fate fate.Kept) (alike i.fate fate.Unmatched || alike i.fate fate.Matched) (or_right (alike i.fate fate.Unmatched) (alike i.fate fate.Matched) (ap (λ f. alike f fate.Matched) e))));
            plain = λ x. never x;
          };
      patient = λ x. never x;
      arrived = λ x. never x;
      refused = λ x. never x;
    }
settled_well days sd i return r q e h =
    record { fit = h.fit; punctual = done_with sd i.order fate.RepoBack refl refl refl; patient = λ x. never x; arrived = λ x. never x; refused = λ x. never x }

pub round_well : (days : List ℕ) (sd : Standing) (st : Setting) (bs : List Blocking) (is : List Instruction) (a : Amounts)
    → AllByRecursion (Well days sd) is → AllByRecursion (Well days sd) (rounds st sd.day bs is a).0
round_well days sd st bs [] a w = tt
round_well days sd st bs (i ∷ is) a w = (
  try_both st sd.day bs a i (λ t. Well days sd (tried i t))
      (λ _ _. w.0)
      (λ _ _ _. w.0)
      (λ _ _ _ _. w.0)
      (λ l e _ _. settled_well days sd i l i.order.return_date refl e w.0),
  round_well days sd st bs is (afters (try_moves st sd.day i (try st sd.day bs a i)) a) w.1,
)

-- after closing on a day nothing waits for it
end_one : (days : List ℕ) (sd : Standing) → eqb sd.state on_a_day ≡ true → (i : Instruction) → Well days sd i → Well days (closed sd) (ended sd.day i)
end_one days sd s i h =
    ended_both sd.day i (Well days (closed sd))
    (λ _. refused fate.Refused refl refl refl refl)
    (λ _. refused fate.Refused refl refl refl refl)
    (λ _. refused fate.ReturnRefused refl refl refl refl)
    (λ u m r.
    record {
      fit = h.fit;
      punctual =
          record {
            waiting = λ e. lt-leb (value i.order) sd.day (h.patient (only_kept (alike i.fate fate.Kept) (alike i.fate fate.Unmatched) (alike i.fate fate.Matched) e u m));
            out = λ e d x. after_day d.number (h.punctual.out e d x) (not_day (alike i.fate fate.RepoOut) d i.order.return_date e x r);
            plain = h.punctual.plain;
          };
      patient = h.patient;
      arrived = λ e. absurd (both_ways _ (or_from (alike i.fate fate.Unmatched) (alike i.fate fate.Matched) u m) e);
      refused = λ _. refl;
    })
  where
    refused : (g : Fate) → is_waiting g ≡ false → alike g fate.RepoOut ≡ false → alike g fate.Settled ≡ false → alike g fate.Kept ≡ false → Stands days (closed sd) i.order g
    refused g a b c k =
        record {
          fit = h.fit;
          punctual = done_with (closed sd) i.order g a b c;
          patient = λ e. absurd (both_ways (alike g fate.Kept) k e);
          arrived = λ e. absurd (both_ways _ (or_parts (alike g fate.Kept) (alike g fate.Unmatched || alike g fate.Matched) a).1 e);
          refused = λ _. refl;
        }

    only_kept : (k u m : Bool) → (k || (u || m)) ≡ true → u ≡ false → m ≡ false → k ≡ true
    only_kept k u m e x y = grind arith

    not_day : (t : Bool) (d : Date) (r : Option Date) → t ≡ true → r ≡ Some d → (t && is_day sd.day r) ≡ false → eqb d.number sd.day ≡ false
    not_day t d r e x y = grind arith

    after_day : (v : ℕ) → day_closed sd v ≡ false → eqb v sd.day ≡ false → leb v sd.day ≡ false
    after_day v x y = grind (arith, nat_tests)

pub end_well : (days : List ℕ) (sd : Standing) → eqb sd.state on_a_day ≡ true → (is : List Instruction) → AllByRecursion (Well days sd) is
    → AllByRecursion (Well days (closed sd)) (ended_all sd.day is)
end_well days sd s is a =
    All-map (Well days (closed sd)) (ended sd.day) is (All-weaker (Well days sd) (λ i. Well days (closed sd) (ended sd.day i)) (end_one days sd s) is a)

-- closing on no day closes no day
pub rest_well : (days : List ℕ) (sd : Standing) → eqb sd.state on_no_day ≡ true → (i : Instruction) → Well days sd i → Well days (closed sd) i
rest_well days sd s i h =
    record {
      fit = h.fit;
      punctual =
          record {
            waiting = λ e. same (value i.order) (h.punctual.waiting e);
            out = λ e d x. same d.number (h.punctual.out e d x);
            plain = h.punctual.plain;
          };
      patient = h.patient;
      arrived = h.arrived;
      refused = λ _. refl;
    }
  where
    same : (v : ℕ) → day_closed sd v ≡ false → leb v sd.day ≡ false
    same v x = grind (arith, nat_tests)

-- what leaves the list waits for nothing
none_passes : {X : Type 0} (t : X → Bool) (xs : List X) → ((x : X) → t x ≡ false) → some_passes t xs ≡ false
none_passes t [] h = refl
none_passes t (x ∷ xs) h = or_from (t x) (some_passes t xs) (h x) (none_passes t xs h)

-- whether nothing is left to wait for: it has ended, or is joined
abbrev is_past : Fate → Bool
is_past f = not (is_waiting f) && not (alike f fate.RepoOut)

leaver_past : (xs : List Instruction) (i : Instruction) → leaves xs i ≡ true → is_past i.fate ≡ true
leaver_past xs i h = go i.fate h
  where
    seen : Fate → Bool
    seen f = some_passes (λ x. has_ended x.fate && joins x.serial f) xs

    none : (f : Fate) → ((n : ℕ) → joins n f ≡ false) → seen f ≡ false
    none f j = none_passes (λ (x : Instruction). has_ended x.fate && joins x.serial f) xs (λ x. and_right (has_ended x.fate) (joins x.serial f) (j x.serial))

    go : (f : Fate) → has_ended f || some_passes (λ x. has_ended x.fate && joins x.serial f) xs ≡ true → is_past f ≡ true
    go fate.Kept e = absurd (both_ways (seen fate.Kept) (none fate.Kept (λ n. refl)) e)
    go fate.Unmatched e = absurd (both_ways (seen fate.Unmatched) (none fate.Unmatched (λ n. refl)) e)
    go fate.Matched e = absurd (both_ways (seen fate.Matched) (none fate.Matched (λ n. refl)) e)
    go (fate.Joined n) e = refl
    go fate.Settled e = refl
    go fate.RepoOut e = absurd (both_ways (seen fate.RepoOut) (none fate.RepoOut (λ n. refl)) e)
    go fate.RepoBack e = refl
    go fate.Refused e = refl
    go fate.ReturnRefused e = refl
    go fate.Cancelled e = refl

pub leavers_over : (days : List ℕ) (sd : Standing) (xs ys : List Instruction) → AllByRecursion (Well days sd) ys → AllByRecursion Over (passing (leaves xs) ys)
leavers_over days sd xs ys a =
    All-weaker (λ i. Well days sd i × (leaves xs i ≡ true)) Over
    (λ i h se.
    let p = and_parts (not (is_waiting i.fate)) (not (alike i.fate fate.RepoOut)) (leaver_past xs i h.1) in
    record {
      waiting = λ x. absurd (both_ways (is_waiting i.fate) (not-true (is_waiting i.fate) p.0) x);
      out = λ x. absurd (both_ways (alike i.fate fate.RepoOut) (not-true (alike i.fate fate.RepoOut) p.1) x);
      plain = h.0.punctual.plain;
    })
    (passing (leaves xs) ys)
    (all_passes (Well days sd) (leaves xs) ys a)
