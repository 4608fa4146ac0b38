-- Each instruction ends once, in time, and what has ended stays so.
use Rattle.std.proofs.Common.{◌≡◌, ℕ, ◌+◌, ◌<◌, ◌≤◌, Bool, true, false, not, ◌&&◌, eqb, ltb, leb, ◌⊎◌, List, [], ◌∷◌, ◌++◌, Some, None, Option, refl, ap, ◌∙◌, subst, inl, inr, arith}
use Rattle.std.specs.List.{AllByRecursion}
use Rattle.std.proofs.lemmas.List.{append-nil}
use Rattle.std.proofs.ByRecursion.{All-append, All-weaker}
use Rattle.std.proofs.lemmas.Bool.{or_parts, not-true, cases_Bool, not_from_false, and_parts, both_ways, eqb-true, eq-eqb, ltb-true}
use Rattle.std.proofs.lemmas.Bool.Decides.{nat_tests}
use Rattle.calendar.specs.declared.Date.{Date}
use Rattle.calendar.specs.Days.{is_business}
use Rattle.rulebook.specs.declared.Order.{Order}
use Rattle.rulebook.specs.declared.Fate.{Fate}
use Rattle.rulebook.specs.declared.Fate.TheVariants as fate
use Rattle.rulebook.specs.declared.Call.{Call}
use Rattle.rulebook.specs.States.{on_a_day, Standing, opened, closed}
use Rattle.rulebook.specs.Answers.{behind_fate}
use Rattle.rulebook.specs.Words.{one_if, total, same_side, Leg, first, return, Movement, is_leg, Instruction, alike, principal, Book, Start}
use Rattle.rulebook.specs.Checks.{instruct_checks, today, is_shut, is_on_a_day, matures, return_date_fits, dates_fit, has_serial}
use Rattle.rulebook.specs.Matching.{has_ended, arrive, wake_all, leaves, leavers, stayers, other, same_sender, same_date, same_option, same_order, counter, joins, cancelled_in}
use Rattle.rulebook.specs.Rounds.{is_day, ended_all}
use Rattle.rulebook.specs.Rules.{incoming, rounded}
use Rattle.rulebook.specs.Journal.{Journal, times, reads, setting_of, Past, accepted, step, history}
use Rattle.rulebook.specs.Laws.{was_matched, Sensible, day_closed, with_serial, with_fate, endings, return_endings, Stays}
use Rattle.rulebook.proofs.Totals.{total_append, total_le, total_split, member_le, all_both, total_plus, total_every, one_if_part, one_if_grows, all_passes, all_front, Member}
use Rattle.rulebook.proofs.Effects.{is_final, has, numbered, such, Effect, effect_none, effect_then, effect_append, cancel_effect, end_effect, arrive_effect, wake_all_effect, round_effect}
use Rattle.rulebook.proofs.Punctual.{value, Punctual, Well, Over, Comes, opening_punctual, arrive_well, wake_all_well, cancel_well, round_well, end_well, rest_well, leavers_over, never}
use Rattle.rulebook.proofs.Answering.{Passes}
use Rattle.rulebook.proofs.Steps.{each_call, each_history, plain_times}
use Rattle.rulebook.proofs.Turns.{weigh, answering, joined_to, leads, leading, Fits}
use Rattle.rulebook.proofs.Partners.{remembered, once, Akin, answered, kin}
use Rattle.rulebook.proofs.Ways.{is_waiting}

-- fates say what the journal has
abbrev Legs : Journal → List Instruction → Type 0
Legs j zs = (n : ℕ) (e : Leg) → times j n e ≡ total (such n (has e)) zs

legs_on : (j : Journal) (zs zs' : List Instruction) (vs : List Movement) → Legs j zs → Effect zs zs' vs → Legs (j ++ vs) zs'
legs_on j zs zs' vs c e n l = omega (arith, c n l, e.legs n l, total_append (is_leg n l) j vs)

-- the invariant: of the standing, the list, the journal and those that left
record Ends (s : Start) (sd : Standing) (xs : List Instruction) (j : Journal) (gone : List Instruction) : Type 0 where
  legs : Legs j (xs ++ gone)
  well : AllByRecursion (Well s.days sd) xs
  over : AllByRecursion Over gone

abbrev EndsOf : Start → Past → Type 0
EndsOf s h = Ends s h.book.standing h.book.instructions.standing h.journal h.departed

-- what had ended in a past stays so in the journal j and among the instructions zs
record Lasts (h : Past) (j : Journal) (zs : List Instruction) : Type 0 where
  settled : (n : ℕ) (e : Leg) → times h.journal n e ≤ times j n e
  final : (n : ℕ) (f : Fate) → is_final f ≡ true → with_fate h n f ≤ total (such n (λ g. alike g f)) zs

-- one call keeps both
abbrev Goes : Start → Past → Standing → List Instruction → Journal → List Instruction → Type 0
Goes s h sd xs j gone = Ends s sd xs j gone × Lasts h j (xs ++ gone)

lasts_on : (h : Past) (vs : List Movement) (zs zs' : List Instruction)
    → ((n : ℕ) (f : Fate) → with_fate h n f ≤ total (such n (λ g. alike g f)) zs) → Effect zs zs' vs → Lasts h (h.journal ++ vs) zs'
lasts_on h vs zs zs' l e =
    record {
      settled = λ n d. omega (arith, total_append (is_leg n d) h.journal vs);
      final = λ n f k. omega (arith, l n f, e.stays n f k);
    }

-- effects beside those that left the list
beside : (xs ys gone : List Instruction) (vs : List Movement) → Effect xs ys vs → Effect (xs ++ gone) (ys ++ gone) vs
beside xs ys gone vs e = rw (append-nil vs) at (effect_append xs ys gone gone vs [] e (effect_none gone))

still : (zs : List Instruction) (vs : List Movement) → ((n : ℕ) (e : Leg) → times vs n e ≡ 0) → Effect zs zs vs
still zs vs h =
    record {
      legs = λ n e. omega (arith, h n e);
      stays = λ n f _. omega arith;
    }

-- one more instruction, kept
legs_new : (j : Journal) (xs gone : List Instruction) (i : Instruction) → i.fate ≡ fate.Kept
    → Legs j (xs ++ gone) → Legs j ((xs ++ i ∷ []) ++ gone)
legs_new j xs gone i k c n e =
    omega (
      arith,
      c n e,
      total_append (such n (has e)) (xs ++ i ∷ []) gone,
      total_append (such n (has e)) xs (i ∷ []),
      total_append (such n (has e)) xs gone,
      ap {B = ℕ} (λ (f : Fate). one_if (has_serial n i && has e f)) k,
      none (has_serial n i) e,
    )
  where
    none : (v : Bool) (e : Leg) → one_if (v && has e fate.Kept) ≡ 0
    none v e = grind arith

-- an order whose dates pass comes to the list
order_comes : (s : Start) (k : Book) (o : Order) → is_on_a_day k ≡ true → dates_fit (setting_of s) k o ≡ true
    → Comes s.days k.standing (incoming k o)
order_comes s k o op h =
    let end = matures k o.issue in
    let p = and_parts (is_business (value o) s.days && (leb (today k) (value o) && ltb (value o) end)) (return_date_fits (setting_of s) (value o) end o.return_date) h in
    let v = and_parts (is_business (value o) s.days) (leb (today k) (value o) && ltb (value o) end) p.0 in
    let l = and_parts (leb (today k) (value o)) (ltb (value o) end) v.1 in (
      record { value_date = v.0; return_date = λ d q. back end d o.return_date q p.1 },
      record { waiting = λ _. open_yet l.0; out = λ e. never e; plain = λ e. never e },
      λ e. never e,
      λ e. never e,
    )
  where
    open_yet : leb (today k) (value o) ≡ true → day_closed k.standing (value o) ≡ false
    open_yet l = grind (arith, nat_tests)

    back : (end : ℕ) (d : Date) (r : Option Date) → r ≡ Some d → return_date_fits (setting_of s) (value o) end r ≡ true
        → (is_business d.number s.days ≡ true) × (value o < d.number)
    back end d r q e =
        let z : return_date_fits (setting_of s) (value o) end (Some d) ≡ true = subst (λ (x : Option Date). return_date_fits (setting_of s) (value o) end x ≡ true) q e in
        let p = and_parts (is_business d.number s.days) (ltb (value o) d.number && ltb d.number end) z in
        (p.0, ltb-true (value o) d.number (and_parts (ltb (value o) d.number) (ltb d.number end) p.1).0)

module _ (s : Start) (sense : Sensible s) (h : Past) (i : EndsOf s h) where
  abbrev xs : List Instruction
  xs = h.book.instructions.standing

  abbrev gone : List Instruction
  gone = h.departed

  abbrev sd : Standing
  sd = h.book.standing

  carried : (se : Standing) (ys : List Instruction) (vs : List Movement) (left : List Instruction)
      → Effect (accepted h) (ys ++ left) vs → AllByRecursion (Well s.days se) ys → AllByRecursion Over left → Goes s h se ys (h.journal ++ vs) left
  carried se ys vs left e w o = (
    record { legs = legs_on h.journal (accepted h) (ys ++ left) vs i.legs e; well = w; over = o },
    lasts_on h vs (accepted h) (ys ++ left) (λ n f. omega arith) e,
  )

  -- an order comes to the list
  instruct_goes : (o : Order) → Passes (instruct_checks (setting_of s) h.book o)
      → Goes s h sd (arrive (today h.book) xs (incoming h.book o)) (h.journal ++ []) gone
  instruct_goes o p = (
    record {
      legs = legs_on h.journal ((xs ++ new ∷ []) ++ gone) (ys ++ gone) [] (legs_new h.journal xs gone new refl i.legs) e;
      well = arrive_well s.days sd xs new refl i.well (order_comes s h.book o p.0 p.1.1.1.1.0);
      over = i.over;
    },
    lasts_on h [] ((xs ++ new ∷ []) ++ gone) (ys ++ gone) (λ n f. grows (such n (λ g. alike g f))) e,
  )
    where
      new : Instruction
      new = incoming h.book o

      ys : List Instruction
      ys = arrive (today h.book) xs new

      e : Effect ((xs ++ new ∷ []) ++ gone) (ys ++ gone) []
      e = beside (xs ++ new ∷ []) ys gone [] (arrive_effect (today h.book) xs new refl)

      grows : (f : Instruction → ℕ) → total f (xs ++ gone) ≤ total f ((xs ++ new ∷ []) ++ gone)
      grows f = omega (arith, total_append f (xs ++ new ∷ []) gone, total_append f xs (new ∷ []), total_append f xs gone)

  -- a round and closing change the list in place
  abbrev made : List Instruction × List Movement
  made = rounded (setting_of s) (reads s.funds h.journal) h.book

  made_effect : Effect xs made.0 made.1
  made_effect =
      round_effect (setting_of s) (today h.book) h.book.blockings.standing xs (reads s.funds h.journal)

  made_well : AllByRecursion (Well s.days sd) made.0
  made_well = round_well s.days sd (setting_of s) h.book.blockings.standing xs (reads s.funds h.journal) i.well

  close_goes : eqb sd.state on_a_day ≡ true → Goes s h (closed sd) (ended_all sd.day made.0) (h.journal ++ made.1) gone
  close_goes op =
      let ys = ended_all sd.day made.0 in
      carried (closed sd) ys made.1 gone
      (beside xs ys gone made.1
      (rw (append-nil made.1) at (effect_then xs made.0 ys made.1 [] made_effect (end_effect sd.day made.0))))
      (end_well s.days sd op made.0 made_well)
      i.over

  -- opening
  open_effect : (ys : List Instruction) → Effect (stayers xs) ys [] → Effect (accepted h) (ys ++ (leavers xs ++ gone)) []
  open_effect ys e =
      record {
        legs = λ n l. omega (arith, e.legs n l, before (such n (has l)), behind (such n (has l)));
        stays = λ n f k. omega (arith, e.stays n f k, before (such n (λ g. alike g f)), behind (such n (λ g. alike g f)));
      }
    where
      before : (f : Instruction → ℕ) → total f (accepted h) ≡ total f (leavers xs) + total f (stayers xs) + total f gone
      before f = omega (arith, total_append f xs gone, total_split f (leaves xs) xs)

      behind : (f : Instruction → ℕ) → total f (ys ++ (leavers xs ++ gone)) ≡ total f ys + (total f (leavers xs) + total f gone)
      behind f = omega (arith, total_append f ys (leavers xs ++ gone), total_append f (leavers xs) gone)

  open_goes : is_shut h.book ≡ true
      → Goes s h (opened s.days sd) (wake_all (opened s.days sd).day [] (stayers xs)) (h.journal ++ []) (leavers xs ++ gone)
  open_goes op =
      let se = opened s.days sd in
      carried se (wake_all se.day [] (stayers xs)) [] (leavers xs ++ gone)
      (open_effect (wake_all se.day [] (stayers xs)) (wake_all_effect se.day [] (stayers xs)))
      (wake_all_well s.days se [] (stayers xs) tt
      (All-weaker (λ x. Well s.days sd x × (not (leaves xs x) ≡ true)) (Comes s.days se)
      (λ x p. opening_punctual s.days sd sense.days op x p.0 (or_parts (has_ended x.fate) _ (not-true (leaves xs x) p.1)).0)
      (stayers xs)
      (all_passes (Well s.days sd) (λ x. not (leaves xs x)) xs i.well)))
      (All-append Over (leavers xs) gone (leavers_over s.days sd xs xs i.well) i.over)

  each_goes : (c : Call)
      → Goes s h (step s h c).book.standing (step s h c).book.instructions.standing (step s h c).journal (step s h c).departed
  each_goes =
      each_call s h (λ se is j left. Goes s h se is.standing j left)
      record {
        plain = λ vs e. carried sd xs vs gone (still (accepted h) vs (plain_times vs e)) i.well i.over;
        opening = open_goes;
        instructing = instruct_goes;
        cancelling = λ p n.
            carried sd (cancelled_in p n xs) [] gone
            (beside xs (cancelled_in p n xs) gone [] (cancel_effect p n xs))
            (cancel_well s.days sd p n xs i.well)
            i.over;
        round = carried sd made.0 made.1 gone (beside xs made.0 gone made.1 made_effect) made_well i.over;
        closing = close_goes;
        resting = λ op.
            carried (closed sd) xs [] gone
            (effect_none (accepted h))
            (All-weaker (Well s.days sd) (Well s.days (closed sd)) (rest_well s.days sd op) xs i.well)
            i.over;
      }

ends : (s : Start) → Sensible s → (cs : List Call) → EndsOf s (history s cs)
ends s sense =
    each_history s (EndsOf s)
    record { legs = λ n e. refl; well = tt; over = tt }
    (λ cs c i. (each_goes s sense (history s cs) i c).0)

one_here : (a n : ℕ) (v : Bool) → n ≡ a → v ≡ true → one_if (eqb a n && v) ≡ 1
one_here a n v e k = grind (arith, nat_tests)

-- what stands on the list is well, and a repo that is out has its first leg in the journal
pub well_holds : (s : Start) → Sensible s → (cs : List Call)
    → AllByRecursion (Well s.days (history s cs).book.standing) (history s cs).book.instructions.standing
well_holds s sense cs = (ends s sense cs).well

pub out_holds : (s : Start) → Sensible s → (cs : List Call)
    → AllByRecursion (λ x. x.fate ≡ fate.RepoOut → 1 ≤ times (history s cs).journal x.serial first) (history s cs).book.instructions.standing
out_holds s sense cs =
    All-weaker (Member (accepted h)) (λ x. x.fate ≡ fate.RepoOut → 1 ≤ times h.journal x.serial first)
    (λ x m e. omega (
      arith,
      m (such x.serial (has first)),
      (ends s sense cs).legs x.serial first,
      one_here x.serial x.serial (has first x.fate) refl (ap (has first) e),
    ))
    h.book.instructions.standing
    (all_front (Member (accepted h)) h.book.instructions.standing h.departed (member_le (accepted h)))
  where
    h : Past
    h = history s cs

-- how a past has ended its instructions
pub record EndedPast (s : Start) (h : Past) : Type 0 where
  pub once : (n : ℕ) (e : Leg) → times h.journal n e ≤ 1
  pub remembered : (n : ℕ) → with_serial h n ≡ one_if (ltb 0 n && ltb n h.book.instructions.next)
  pub never_two : (n : ℕ) → endings h n ≤ 1
  pub decided : AllByRecursion
      (λ i. day_closed h.book.standing i.order.value_date.number ≡ true → endings h (principal i) ≡ 1)
      (accepted h)
  pub return_never_two : (n : ℕ) → return_endings h n ≤ 1
  pub return_decided : AllByRecursion
      (λ i. (d : Date) → i.order.return_date ≡ Some d → day_closed h.book.standing d.number ≡ true
      → times h.journal (principal i) first ≡ 1 → return_endings h (principal i) ≡ 1)
      (accepted h)
  pub stays : (c : Call) → Stays h (step s h c)

-- settled, refused or cancelled; its return settled or refused
abbrev ending : ℕ → Instruction → ℕ
ending n i = such n (has first) i + (such n (λ g. alike g fate.Refused) i + such n (λ g. alike g fate.Cancelled) i)

abbrev return_ending : ℕ → Instruction → ℕ
return_ending n i = such n (has return) i + such n (λ g. alike g fate.ReturnRefused) i

such_le : (n : ℕ) (t : Fate → Bool) (i : Instruction) → such n t i ≤ numbered n i
such_le n t i = one_if_part (has_serial n i) (t i.fate)

ending_le : (n : ℕ) (i : Instruction) → ending n i ≤ numbered n i
ending_le n i = go (has_serial n i) i.fate
  where
    go : (v : Bool) (f : Fate) → one_if (v && has first f) + (one_if (v && alike f fate.Refused) + one_if (v && alike f fate.Cancelled)) ≤ one_if v
    go v f = grind arith

return_ending_le : (n : ℕ) (i : Instruction) → return_ending n i ≤ numbered n i
return_ending_le n i = go (has_serial n i) i.fate
  where
    go : (v : Bool) (f : Fate) → one_if (v && has return f) + one_if (v && alike f fate.ReturnRefused) ≤ one_if v
    go v f = grind arith

-- a value date, and a return date, as tests that partners agree on
abbrev on_value : ℕ → Order → Bool
on_value d o = eqb (value o) d

abbrev on_return : ℕ → Order → Bool
on_return d o = is_day d o.return_date

-- joined to another
abbrev is_joined : Fate → Bool
is_joined f = alike f (fate.Joined 0)

own_principal : (f : Fate) (s : ℕ) → is_joined f ≡ false → behind_fate f s ≡ s
own_principal f s e = grind arith

joins_principal : (f : Fate) (s : ℕ) → is_joined f ≡ true → joins (behind_fate f s) f ≡ true
joins_principal f s e = grind (arith, nat_tests)

matched_alone : (y : Instruction) → was_matched y ≡ true → not (is_joined y.fate) ≡ true
matched_alone y e = grind arith

-- one that is not joined and whose value date is closed has ended
ends_there : (sd : Standing) (d n : ℕ) (i : Instruction) → day_closed sd d ≡ true → Punctual sd i.order i.fate
    → one_if (has_serial n i && on_value d i.order) + one_if (has_serial n i && not (is_joined i.fate)) ≤ numbered n i + ending n i
ends_there sd d n i c p = go (has_serial n i) i.fate (eqb (value i.order) d) (λ w e. both_ways (day_closed sd (value i.order)) (p.waiting w) (rw (eqb-true (value i.order) d e) c))
  where
    go : (v : Bool) (f : Fate) (t : Bool) → (is_waiting f ≡ true → t ≡ true → ⊥)
        → one_if (v && t) + one_if (v && not (is_joined f)) ≤ one_if v + (one_if (v && has first f) + (one_if (v && alike f fate.Refused) + one_if (v && alike f fate.Cancelled)))
    go v f t h = grind arith

-- one whose first leg settled and whose return date is closed has ended its return
return_ends : (sd : Standing) (d : Date) (n : ℕ) (i : Instruction) → day_closed sd d.number ≡ true → Punctual sd i.order i.fate
    → one_if (has_serial n i && on_return d.number i.order) + such n (has first) i ≤ numbered n i + return_ending n i
return_ends sd d n i c p =
    by_date i.order.return_date refl
  where
    go : (v : Bool) (f : Fate) (t : Bool) → (alike f fate.RepoOut ≡ true → t ≡ true → ⊥) → (alike f fate.Settled ≡ true → t ≡ true → ⊥)
        → one_if (v && t) + one_if (v && has first f) ≤ one_if v + (one_if (v && has return f) + one_if (v && alike f fate.ReturnRefused))
    go v f t a b = grind arith

    by_date : (r : Option Date) → i.order.return_date ≡ r
        → one_if (has_serial n i && is_day d.number r) + such n (has first) i ≤ numbered n i + return_ending n i
    by_date None q = go (has_serial n i) i.fate false (λ _ e. both_ways false refl e) (λ _ e. both_ways false refl e)
    by_date (Some e) q =
        go (has_serial n i) i.fate (eqb e.number d.number)
        (λ x z. both_ways (day_closed sd e.number) (p.out x e q) (rw (eqb-true e.number d.number z) c))
        (λ x _. p.plain x e q)

-- a test of orders that partners agree on
abbrev Shared : (Order → Bool) → Type 0
Shared t = (o q : Order) → same_order o (counter q) ≡ true → t o ≡ t q

-- partners agree on both dates
dates_agree : (o q : Order) → same_order o (counter q) ≡ true
    → (same_date o.value_date q.value_date ≡ true) × (same_option same_date o.return_date q.return_date ≡ true)
dates_agree o q h =
    go
    (same_sender o.sender (other q.sender))
    (eqb o.transferor q.transferor)
    (same_side o.transferor_side q.transferor_side)
    (eqb o.acquirer q.acquirer)
    (same_side o.acquirer_side q.acquirer_side)
    (eqb o.issue q.issue)
    (eqb o.nominal q.nominal)
    (same_option eqb o.price q.price)
    (same_date o.value_date q.value_date)
    (same_option same_date o.return_date q.return_date)
    (same_option eqb o.return_price q.return_price)
    h
  where
    go : (a b c d e f g h i j k : Bool) → (a && (b && (c && (d && (e && (f && (g && (h && (i && (j && k)))))))))) ≡ true → (i ≡ true) × (j ≡ true)
    go a b c d e f g h i j k x = (grind arith, grind arith)

value_shared : (d : ℕ) → Shared (on_value d)
value_shared d o q h = ap (λ n. eqb n d) (eqb-true (value o) (value q) (dates_agree o q h).0)

return_shared : (d : ℕ) → Shared (on_return d)
return_shared d o q h = go o.return_date q.return_date (dates_agree o q h).1
  where
    go : (a b : Option Date) → same_option same_date a b ≡ true → is_day d a ≡ is_day d b
    go None None e = refl
    go None (Some y) e = absurd (both_ways false refl e)
    go (Some x) None e = absurd (both_ways false refl e)
    go (Some x) (Some y) e = ap (λ n. eqb n d) (eqb-true x.number y.number e)

module _ (s : Start) (h : Past) (i : EndsOf s h) (a : Akin h) where
  abbrev zs : List Instruction
  zs = accepted h

  all_punctual : AllByRecursion (λ x. Punctual h.book.standing x.order x.fate) zs
  all_punctual =
      All-append (λ (x : Instruction). Punctual h.book.standing x.order x.fate) h.book.instructions.standing h.departed
      (All-weaker (Well s.days h.book.standing) (λ x. Punctual h.book.standing x.order x.fate) (λ x w. w.punctual) h.book.instructions.standing i.well)
      (All-weaker Over (λ x. Punctual h.book.standing x.order x.fate) (λ x o. o h.book.standing) h.departed i.over)

  -- an accepted instruction, and its partner
  abbrev Here : Instruction → Type 0
  Here x = Member zs x × Fits (answered h.book.instructions.standing h.departed) x

  -- the principal passes the tests that partners share
  principal_has : (x : Instruction) → Here x → (t : Order → Bool) → Shared t → t x.order ≡ true
      → 1 ≤ total (λ y. one_if (has_serial (principal x) y && t y.order)) zs
  principal_has x m t sh e = go (cases_Bool (is_joined x.fate))
    where
      g : Instruction → ℕ
      g y = one_if (has_serial (principal x) y && t y.order)

      go : (is_joined x.fate ≡ true) ⊎ (is_joined x.fate ≡ false) → 1 ≤ total g zs
      go (inl j) =
          omega (
            arith,
            (m.1 (principal x) (joins_principal x.fate x.serial j)).1,
            total_append (weigh (answering (principal x) x.order)) h.book.instructions.standing h.departed,
            total_every (weigh (answering (principal x) x.order)) g zs
                (λ y. one_if_grows (has_serial (principal x) y) (same_order y.order (counter x.order)) (t y.order) (λ q. sh y.order x.order q ∙ e)),
          )
      go (inr j) = omega (arith, m.0 g, one_here x.serial (principal x) (t x.order) (own_principal x.fate x.serial j) e)

  -- the principal is not joined to another
  principal_alone : (x : Instruction) → Here x → 1 ≤ total (λ y. one_if (has_serial (principal x) y && not (is_joined y.fate))) zs
  principal_alone x m = go (cases_Bool (is_joined x.fate))
    where
      g : Instruction → ℕ
      g y = one_if (has_serial (principal x) y && not (is_joined y.fate))

      go : (is_joined x.fate ≡ true) ⊎ (is_joined x.fate ≡ false) → 1 ≤ total g zs
      go (inl j) =
          omega (
            arith,
            m.0 (joined_to (principal x)),
            ap one_if (joins_principal x.fate x.serial j),
            a.led (principal x),
            total_append (joined_to (principal x)) h.book.instructions.standing h.departed,
            total_append (leading (principal x)) h.book.instructions.standing h.departed,
            total_every (leading (principal x)) g zs
                (λ y. one_if_grows (has_serial (principal x) y) (leads y) (not (is_joined y.fate)) (λ q. matched_alone y (and_parts (was_matched y) _ q).0)),
          )
      go (inr j) =
          omega (
            arith,
            m.0 g,
            one_here x.serial (principal x) (not (is_joined x.fate)) (own_principal x.fate x.serial j) (not_from_false (is_joined x.fate) j),
          )

  endings_are : (n : ℕ) → endings h n ≡ total (ending n) zs
  endings_are n =
      omega (
        arith,
        i.legs n first,
        total_plus (such n (has first)) (λ x. such n (λ g. alike g fate.Refused) x + such n (λ g. alike g fate.Cancelled) x) zs,
        total_plus (such n (λ g. alike g fate.Refused)) (such n (λ g. alike g fate.Cancelled)) zs,
      )

  return_endings_are : (n : ℕ) → return_endings h n ≡ total (return_ending n) zs
  return_endings_are n =
      omega (
        arith,
        i.legs n return,
        total_plus (such n (has return)) (such n (λ g. alike g fate.ReturnRefused)) zs,
      )

  once_of : (n : ℕ) (e : Leg) → times h.journal n e ≤ 1
  once_of n e = omega (arith, i.legs n e, total_every (such n (has e)) (numbered n) zs (such_le n (has e)), once h a n)

  never_two_of : (n : ℕ) → endings h n ≤ 1
  never_two_of n = omega (arith, endings_are n, total_every (ending n) (numbered n) zs (ending_le n), once h a n)

  return_never_two_of : (n : ℕ) → return_endings h n ≤ 1
  return_never_two_of n =
      omega (arith, return_endings_are n, total_every (return_ending n) (numbered n) zs (return_ending_le n), once h a n)

  decided_one : (x : Instruction) → Here x → day_closed h.book.standing x.order.value_date.number ≡ true → endings h (principal x) ≡ 1
  decided_one x m c =
      let n = principal x in
      let d = value x.order in
      let on : Instruction → ℕ = λ y. one_if (has_serial n y && on_value d y.order) in
      let alone : Instruction → ℕ = λ y. one_if (has_serial n y && not (is_joined y.fate)) in
      omega (
        arith,
        never_two_of n,
        endings_are n,
        once h a n,
        principal_has x m (on_value d) (value_shared d) (eq-eqb d d refl),
        principal_alone x m,
        total_le (λ y. on y + alone y) (λ y. numbered n y + ending n y) zs
            (All-weaker (λ y. Punctual h.book.standing y.order y.fate) (λ y. on y + alone y ≤ numbered n y + ending n y) (λ y p. ends_there h.book.standing d n y c p) zs all_punctual),
        total_plus on alone zs,
        total_plus (numbered n) (ending n) zs,
      )

  return_decided_one : (x : Instruction) → Here x
      → (d : Date) → x.order.return_date ≡ Some d → day_closed h.book.standing d.number ≡ true
      → times h.journal (principal x) first ≡ 1 → return_endings h (principal x) ≡ 1
  return_decided_one x m d q c one =
      let n = principal x in
      let on : Instruction → ℕ = λ y. one_if (has_serial n y && on_return d.number y.order) in
      omega (
        arith,
        return_never_two_of n,
        return_endings_are n,
        i.legs n first,
        once h a n,
        principal_has x m (on_return d.number) (return_shared d.number) (ap (is_day d.number) q ∙ eq-eqb d.number d.number refl),
        total_le (λ y. on y + such n (has first) y) (λ y. numbered n y + return_ending n y) zs
            (All-weaker (λ y. Punctual h.book.standing y.order y.fate) (λ y. on y + such n (has first) y ≤ numbered n y + return_ending n y) (λ y p. return_ends h.book.standing d n y c p) zs all_punctual),
        total_plus on (such n (has first)) zs,
        total_plus (numbered n) (return_ending n) zs,
      )

  members : AllByRecursion Here zs
  members =
      all_both (Member zs) (Fits (answered h.book.instructions.standing h.departed)) zs
      (member_le zs)
      (All-append (Fits (answered h.book.instructions.standing h.departed)) h.book.instructions.standing h.departed a.fits a.fits_gone)

  ended_of : Sensible s → EndedPast s h
  ended_of sense =
      record {
        once = once_of;
        remembered = remembered h a;
        never_two = never_two_of;
        decided = All-weaker _ _ decided_one zs members;
        return_never_two = return_never_two_of;
        return_decided = All-weaker _ _ return_decided_one zs members;
        stays = λ c. let w = (each_goes s sense h i c).1 in
            record {
              settled = w.settled;
              refused = λ n. w.final n fate.Refused refl;
              cancelled = λ n. w.final n fate.Cancelled refl;
              return_refused = λ n. w.final n fate.ReturnRefused refl;
            };
      }

-- every list of calls
pub ended : (s : Start) → Sensible s → (cs : List Call) → EndedPast s (history s cs)
ended s sense cs = ended_of s (history s cs) (ends s sense cs) (kin s cs) sense
