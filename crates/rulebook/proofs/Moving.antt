-- How a fate moves by one call.
use Rattle.std.proofs.Common.{◌≡◌, ℕ, ◌+◌, ◌<◌, ◌≤◌, Bool, true, false, cond, not, ◌&&◌, ◌||◌, eqb, List, [], ◌∷◌, ◌++◌, Some, None, Option, sym, refl, ap, ◌∙◌, subst, arith}
use Rattle.std.specs.List.{AllZip, AllByRecursion}
use Rattle.std.proofs.lemmas.List.{append-nil, append_assoc}
use Rattle.std.proofs.lemmas.List.Elements.{AllZip-push}
use Rattle.std.proofs.ByRecursion.{All-append, All-weaker}
use Rattle.std.proofs.lemmas.Bool.{cond_both, and_parts, eq-eqb}
use Rattle.std.proofs.lemmas.Bool.Decides.{nat_tests}
use Rattle.refusals.specs.declared.Refusal.{Refusal}
use Rattle.refusals.specs.declared.Refusal.TheVariants.{NoPartner}
use Rattle.calendar.specs.declared.Date.{Date}
use Rattle.calendar.specs.Days.{passing}
use Rattle.rulebook.specs.declared.Order.{Order}
use Rattle.rulebook.specs.declared.Fate.{Fate}
use Rattle.rulebook.specs.declared.Fate.TheVariants as fate
use Rattle.rulebook.specs.declared.Call.{Call}
use Rattle.rulebook.specs.States.{Standing, opened}
use Rattle.rulebook.specs.Words.{one_if, total, Leg, first, return, Amounts, afters, Blocking, Instruction, turned, alike, Setting, Book, Start}
use Rattle.rulebook.specs.Checks.{today, has_serial}
use Rattle.rulebook.specs.Matching.{same_order, counter, is_partner, pair_up, met, arrive, wake, wake_all, leaves, leavers, stayers, cancelled_in}
use Rattle.rulebook.specs.Rounds.{is_day, try, settled_one, tried, try_moves, rounds, ended, ended_all}
use Rattle.rulebook.specs.Rules.{incoming, rounded, closing_list}
use Rattle.rulebook.specs.Journal.{reads, setting_of, Past, new_past, accepted, step, history}
use Rattle.rulebook.specs.Laws.{is_one_of, may_move, follows, FatesMove}
use Rattle.rulebook.proofs.Totals.{total_append, total_every, one_if_part, all_front}
use Rattle.rulebook.proofs.Ways.{Ready, try_both, ended_both, cancel_both, arrive_both}
use Rattle.rulebook.proofs.Steps.{each_call, history_more}
use Rattle.rulebook.proofs.Partners.{Akin, kin, once}
use Rattle.rulebook.proofs.Punctual.{value, Well, due_day}
use Rattle.rulebook.proofs.Endings.{well_holds}

-- element by element, over lists
each_same : {X : Type 0} (R : X → X → Type 0) → ((x : X) → R x x) → (xs : List X) → AllZip R xs xs
each_same R h [] = tt
each_same R h (x ∷ xs) = (h x, each_same R h xs)

each_append : {X : Type 0} (R : X → X → Type 0) (xs ys us vs : List X) → AllZip R xs ys → AllZip R us vs → AllZip R (xs ++ us) (ys ++ vs)
each_append R [] [] us vs a b = b
each_append R [] (y ∷ ys) us vs a b = absurd a
each_append R (x ∷ xs) [] us vs a b = absurd a
each_append R (x ∷ xs) (y ∷ ys) us vs a b = (a.0, each_append R xs ys us vs a.1 b)

each_then : {X : Type 0} (R : X → X → Type 0) → ((x y z : X) → R x y → R y z → R x z)
    → (xs ys zs : List X) → AllZip R xs ys → AllZip R ys zs → AllZip R xs zs
each_then R h [] [] zs a b = b
each_then R h [] (y ∷ ys) zs a b = absurd a
each_then R h (x ∷ xs) [] zs a b = absurd a
each_then R h (x ∷ xs) (y ∷ ys) [] a b = absurd b
each_then R h (x ∷ xs) (y ∷ ys) (z ∷ zs) a b = (h x y z a.0 b.0, each_then R h xs ys zs a.1 b.1)

each_weaker : {X : Type 0} (R S : X → X → Type 0) → ((x y : X) → R x y → S x y) → (xs ys : List X) → AllZip R xs ys → AllZip S xs ys
each_weaker R S h [] [] a = tt
each_weaker R S h [] (y ∷ ys) a = absurd a
each_weaker R S h (x ∷ xs) [] a = absurd a
each_weaker R S h (x ∷ xs) (y ∷ ys) a = (h x y a.0, each_weaker R S h xs ys a.1)

-- what holds of those that pass a test and of those that do not holds of all
all_split : {X : Type 0} (P : X → Type 0) (t : X → Bool) (xs : List X)
    → AllByRecursion P (passing t xs) → AllByRecursion P (passing (λ x. not (t x)) xs) → AllByRecursion P xs
all_split P t [] a b = tt
all_split {X} P t (x ∷ xs) a b = go (t x) (all_split P t xs) a b
  where
    go : (v : Bool) → (AllByRecursion P (passing t xs) → AllByRecursion P (passing (λ y. not (t y)) xs) → AllByRecursion P xs)
        → AllByRecursion P (cond v (x ∷ passing t xs) (passing t xs))
        → AllByRecursion P (cond (not v) (x ∷ passing (λ y. not (t y)) xs) (passing (λ y. not (t y)) xs)) → AllByRecursion P (x ∷ xs)
    go true rest a b = (a.0, rest a.1 b)
    go false rest a b = (b.0, rest a b.1)

-- serial and order stay, and the fate moves as R allows
record Moved (R : Fate → Fate → Bool) (i j : Instruction) : Type 0 where
  serial : j.serial ≡ i.serial
  order : j.order ≡ i.order
  moved : R i.fate j.fate ≡ true

moves : (R : Fate → Fate → Bool) (i : Instruction) (f : Fate) (c : Option Refusal) → R i.fate f ≡ true → Moved R i (turned i f c)
moves R i f c h = record { serial = refl; order = refl; moved = h }

-- the moves at an arrival: none, or to unmatched, matched or joined; several of them are one
abbrev wakes : Fate → Fate → Bool
wakes f g = may_move f g && (alike f g || is_one_of (fate.Unmatched ∷ fate.Matched ∷ fate.Joined 0 ∷ []) g)

wakes_none : (f : Fate) → wakes f f ≡ true
wakes_none f = grind (arith, nat_tests)

wakes_twice : (f g h : Fate) → wakes f g ≡ true → wakes g h ≡ true → wakes f h ≡ true
wakes_twice fate.Kept g h a b = grind (arith, nat_tests)
wakes_twice fate.Unmatched g h a b = grind (arith, nat_tests)
wakes_twice fate.Matched g h a b = grind (arith, nat_tests)
wakes_twice (fate.Joined n) g h a b = grind (arith, nat_tests)
wakes_twice fate.Settled g h a b = grind (arith, nat_tests)
wakes_twice fate.RepoOut g h a b = grind (arith, nat_tests)
wakes_twice fate.RepoBack g h a b = grind (arith, nat_tests)
wakes_twice fate.Refused g h a b = grind (arith, nat_tests)
wakes_twice fate.ReturnRefused g h a b = grind (arith, nat_tests)
wakes_twice fate.Cancelled g h a b = grind (arith, nat_tests)

abbrev Woke : Instruction → Instruction → Type 0
Woke = Moved wakes

abbrev Follows : Instruction → Instruction → Type 0
Follows = Moved may_move

woke_none : (i : Instruction) → Woke i i
woke_none i = moves wakes i i.fate i.cause (wakes_none i.fate)

woke_twice : (i j k : Instruction) → Woke i j → Woke j k → Woke i k
woke_twice i j k a b =
    record {
      serial = b.serial ∙ a.serial;
      order = b.order ∙ a.order;
      moved = wakes_twice i.fate j.fate k.fate a.moved b.moved;
    }

woke_follows : (i j : Instruction) → Woke i j → Follows i j
woke_follows i j a = record { serial = a.serial; order = a.order; moved = (and_parts (may_move i.fate j.fate) _ a.moved).0 }

follows_none : (i : Instruction) → Follows i i
follows_none i = woke_follows i i (woke_none i)

-- arrivals
pair_wakes : (o : Order) (xs : List Instruction) → AllZip Woke xs (pair_up o xs).0
pair_wakes o [] = tt
pair_wakes o (x ∷ xs) =
    cond_both
    {A = List Instruction × Option ℕ}
    (is_partner o x)
    (turned x fate.Matched None ∷ xs, Some x.serial)
    (x ∷ (pair_up o xs).0, (pair_up o xs).1)
    (λ r. AllZip Woke (x ∷ xs) r.0)
    (λ e. (
      moves wakes x fate.Matched None (now_matched x.fate (and_parts (alike x.fate fate.Unmatched) (same_order x.order (counter o)) e).0),
      each_same Woke woke_none xs,
    ))
    (λ _. (woke_none x, pair_wakes o xs))
  where
    now_matched : (f : Fate) → alike f fate.Unmatched ≡ true → wakes f fate.Matched ≡ true
    now_matched f h = grind arith

arrive_wakes : (d : ℕ) (xs : List Instruction) (i : Instruction) → alike i.fate fate.Kept ≡ true → AllZip Woke (xs ++ i ∷ []) (arrive d xs i)
arrive_wakes d xs i k =
    arrive_both d xs i (AllZip Woke (xs ++ i ∷ []))
    (λ _ _. behind xs fate.Matched (each_same Woke woke_none xs) refl)
    (λ _ _. by_found (pair_up i.order xs).1)
    (λ _. behind xs fate.Kept (each_same Woke woke_none xs) refl)
  where
    from_kept : (f g : Fate) → alike f fate.Kept ≡ true → wakes fate.Kept g ≡ true → wakes f g ≡ true
    from_kept f g h w = grind arith

    behind : (ys : List Instruction) (g : Fate) → AllZip Woke xs ys → wakes fate.Kept g ≡ true → AllZip Woke (xs ++ i ∷ []) (ys ++ turned i g None ∷ [])
    behind ys g e w = AllZip-push Woke xs ys i (turned i g None) e (moves wakes i g None (from_kept i.fate g k w))

    by_found : (o : Option ℕ) → AllZip Woke (xs ++ i ∷ []) ((pair_up i.order xs).0 ++ met i o ∷ [])
    by_found None = behind (pair_up i.order xs).0 fate.Unmatched (pair_wakes i.order xs) refl
    by_found (Some s) = behind (pair_up i.order xs).0 (fate.Joined s) (pair_wakes i.order xs) refl

wake_wakes : (d : ℕ) (xs : List Instruction) (i : Instruction) → AllZip Woke (xs ++ i ∷ []) (wake d xs i)
wake_wakes d xs i =
    cond_both (alike i.fate fate.Kept) (arrive d xs i) (xs ++ i ∷ []) (AllZip Woke (xs ++ i ∷ []))
    (arrive_wakes d xs i)
    (λ _. each_same Woke woke_none (xs ++ i ∷ []))

wake_all_wakes : (d : ℕ) (xs is : List Instruction) → AllZip Woke (xs ++ is) (wake_all d xs is)
wake_all_wakes d xs [] = rw (append-nil xs) (each_same Woke woke_none xs)
wake_all_wakes d xs (i ∷ is) =
    rw (← append_assoc xs (i ∷ []) is)
    (each_then Woke woke_twice
    ((xs ++ i ∷ []) ++ is)
    (wake d xs i ++ is)
    (wake_all d (wake d xs i) is)
    (each_append Woke (xs ++ i ∷ []) (wake d xs i) is is (wake_wakes d xs i) (each_same Woke woke_none is))
    (wake_all_wakes d (wake d xs i) is))

-- cancelling
cancel_follows : (p n : ℕ) (xs : List Instruction) → AllZip Follows xs (cancelled_in p n xs)
cancel_follows p n [] = tt
cancel_follows p n (i ∷ is) = (
  cancel_both p n i (Follows i) (λ e. moves may_move i fate.Cancelled i.cause (early i.fate e)) (follows_none i),
  cancel_follows p n is,
)
  where
    early : (f : Fate) → alike f fate.Kept || alike f fate.Unmatched ≡ true → may_move f fate.Cancelled ≡ true
    early f e = grind arith

-- a round
settled_follows : (d : ℕ) (i : Instruction) (e : Leg) (r : Option Date) → Ready d i e → Follows i (settled_one i e r)
settled_follows d i first None h = moves may_move i fate.Settled i.cause (ap (λ f. may_move f fate.Settled) h)
settled_follows d i first (Some r) h = moves may_move i fate.RepoOut None (ap (λ f. may_move f fate.RepoOut) h)
settled_follows d i return r h = moves may_move i fate.RepoBack i.cause (ap (λ f. may_move f fate.RepoBack) h.0)

waits_follows : (i : Instruction) (c : Option Refusal) → Follows i (turned i i.fate c)
waits_follows i c = moves may_move i i.fate c (follows_none i).moved

round_follows : (st : Setting) (d : ℕ) (bs : List Blocking) (is : List Instruction) (a : Amounts) → AllZip Follows is (rounds st d bs is a).0
round_follows st d bs [] a = tt
round_follows st d bs (i ∷ is) a = (
  try_both st d bs a i (λ t. Follows i (tried i t))
      (λ _ _. follows_none i)
      (λ _ _ _. waits_follows i _)
      (λ _ _ _ _. waits_follows i _)
      (λ e r _ _. settled_follows d i e i.order.return_date r),
  round_follows st d bs is (afters (try_moves st d i (try st d bs a i)) a),
)

-- closing: a leg that waited is refused, and one that settled in the last round is not, as its return is due on a later day
end_follows : (d : ℕ) (i : Instruction) (c : Option Refusal) → Follows i (ended d (turned i i.fate c))
end_follows d i c =
    ended_both d (turned i i.fate c) (Follows i)
    (λ e. moves may_move i fate.Refused (Some NoPartner) (grind arith))
    (λ e. moves may_move i fate.Refused c (grind arith))
    (λ e. moves may_move i fate.ReturnRefused c (out i.fate (and_parts (alike i.fate fate.RepoOut) _ e).0))
    (λ _ _ _. waits_follows i c)
  where
    out : (f : Fate) → alike f fate.RepoOut ≡ true → may_move f fate.ReturnRefused ≡ true
    out f e = grind arith

-- a repo that goes out is due back on a later day
pub out_stays : (days : List ℕ) (sd : Standing) (i : Instruction) → Well days sd i → i.fate ≡ fate.Matched
    → ended sd.day (turned i fate.RepoOut None) ≡ turned i fate.RepoOut None
out_stays days sd i w h =
    ap (λ v. cond v (turned i fate.ReturnRefused None) (turned i fate.RepoOut None)) (later i.order.return_date refl)
  where
    later : (r : Option Date) → i.order.return_date ≡ r → is_day sd.day r ≡ false
    later None q = refl
    later (Some r) q = lt_eqb (w.fit.return_date r q).1 (due_day days sd i w h)
      where
        lt_eqb : value i.order < r.number → value i.order ≡ sd.day → eqb r.number sd.day ≡ false
        lt_eqb l e = grind (arith, nat_tests)

settled_end_follows : (days : List ℕ) (sd : Standing) (i : Instruction) → Well days sd i → (e : Leg) (r : Option Date)
    → Ready sd.day i e → Follows i (ended sd.day (settled_one i e r))
settled_end_follows days sd i w first None h = settled_follows sd.day i first None h
settled_end_follows days sd i w first (Some r) h =
    subst (Follows i) (sym (out_stays days sd i w h)) (settled_follows sd.day i first (Some r) h)
settled_end_follows days sd i w return r h = settled_follows sd.day i return r h

close_follows : (days : List ℕ) (sd : Standing) (st : Setting) (bs : List Blocking) (is : List Instruction) (a : Amounts)
    → AllByRecursion (Well days sd) is → AllZip Follows is (ended_all sd.day (rounds st sd.day bs is a).0)
close_follows days sd st bs [] a w = tt
close_follows days sd st bs (i ∷ is) a w = (
  try_both st sd.day bs a i (λ t. Follows i (ended sd.day (tried i t)))
      (λ _ _. end_follows sd.day i i.cause)
      (λ _ _ _. end_follows sd.day i _)
      (λ _ _ _ _. end_follows sd.day i _)
      (λ e r _ _. settled_end_follows days sd i w.0 e i.order.return_date r),
  close_follows days sd st bs is (afters (try_moves st sd.day i (try st sd.day bs a i)) a) w.1,
)

-- an order is the same as itself
same_itself : (o : Order) → same_order o o ≡ true
same_itself o = grind (arith, nat_tests)

all_three : (a b c : Bool) → a ≡ true → b ≡ true → c ≡ true → one_if (a && (b && c)) ≡ 1
all_three a b c x y z = grind arith

counts_one : (i j : Instruction) → Follows i j → one_if (follows i j) ≡ 1
counts_one i j m =
    all_three
    (has_serial i.serial j)
    (same_order j.order i.order)
    (may_move i.fate j.fate)
    (eq-eqb j.serial i.serial m.serial)
    (ap (λ o. same_order o i.order) m.order ∙ same_itself i.order)
    m.moved

-- how often an instruction is found among ys; each of xs is
abbrev finds : List Instruction → Instruction → ℕ
finds ys i = total (λ j. one_if (follows i j)) ys

abbrev Found : List Instruction → List Instruction → Type 0
Found xs ys = AllByRecursion (λ i. 1 ≤ finds ys i) xs

found_in : (xs ys zs : List Instruction) → ((f : Instruction → ℕ) → total f ys ≤ total f zs) → Found xs ys → Found xs zs
found_in xs ys zs l =
    All-weaker (λ i. 1 ≤ finds ys i) (λ i. 1 ≤ finds zs i) (λ i h. omega (arith, h, l (λ j. one_if (follows i j)))) xs

found_each : (xs ys : List Instruction) → AllZip Follows xs ys → Found xs ys
found_each [] [] e = tt
found_each [] (y ∷ ys) e = absurd e
found_each (x ∷ xs) [] e = absurd e
found_each (x ∷ xs) (y ∷ ys) e = (
  omega (arith, counts_one x y e.0),
  found_in xs ys (y ∷ ys) (λ f. omega arith) (found_each xs ys e.1),
)

found_woken : (xs ys : List Instruction) → AllZip Woke xs ys → Found xs ys
found_woken xs ys e = found_each xs ys (each_weaker Woke Follows woke_follows xs ys e)

found_itself : (xs : List Instruction) → Found xs xs
found_itself xs = found_each xs xs (each_same Follows follows_none xs)

-- beside those that left the list
found_beside : (xs ys gone : List Instruction) → Found xs ys → Found (xs ++ gone) (ys ++ gone)
found_beside xs ys gone h =
    All-append (λ i. 1 ≤ finds (ys ++ gone) i) xs gone
    (found_in xs ys (ys ++ gone) (λ f. omega (arith, total_append f ys gone)) h)
    (found_in gone gone (ys ++ gone) (λ f. omega (arith, total_append f ys gone)) (found_itself gone))

found_opened : (d : ℕ) (xs gone : List Instruction) → Found (xs ++ gone) (wake_all d [] (stayers xs) ++ (leavers xs ++ gone))
found_opened d xs gone =
    All-append (λ i. 1 ≤ finds zs i) xs gone
    (all_split (λ i. 1 ≤ finds zs i) (leaves xs) xs
    (found_in (leavers xs) (leavers xs) zs (λ f. omega (arith, parts f)) (found_itself (leavers xs)))
    (found_in (stayers xs) ys zs (λ f. omega (arith, parts f)) (found_woken (stayers xs) ys (wake_all_wakes d [] (stayers xs)))))
    (found_in gone gone zs (λ f. omega (arith, parts f)) (found_itself gone))
  where
    ys : List Instruction
    ys = wake_all d [] (stayers xs)

    zs : List Instruction
    zs = ys ++ (leavers xs ++ gone)

    parts : (f : Instruction → ℕ) → total f zs ≡ total f ys + (total f (leavers xs) + total f gone)
    parts f = omega (arith, total_append f ys (leavers xs ++ gone), total_append f (leavers xs) gone)

-- one more instruction comes
found_arrived : (d : ℕ) (xs : List Instruction) (i : Instruction) → alike i.fate fate.Kept ≡ true → Found xs (arrive d xs i)
found_arrived d xs i k =
    all_front (λ x. 1 ≤ finds (arrive d xs i) x) xs (i ∷ []) (found_woken (xs ++ i ∷ []) (arrive d xs i) (arrive_wakes d xs i k))

step_found : (s : Start) (h : Past) → AllByRecursion (Well s.days h.book.standing) h.book.instructions.standing
    → (c : Call) → Found (accepted h) (accepted (step s h c))
step_found s h w =
    each_call s h (λ _ x _ gone. Found (accepted h) (x.standing ++ gone))
    record {
      plain = λ _ _. found_itself (accepted h);
      opening = λ _. found_opened (opened s.days k.standing).day xs h.departed;
      instructing = λ o _. beside (arrive (today k) xs (incoming k o)) (found_arrived (today k) xs (incoming k o) refl);
      cancelling = λ p n. each (cancelled_in p n xs) (cancel_follows p n xs);
      round = each (rounded st now k).0 (round_follows st (today k) k.blockings.standing xs now);
      closing = λ _. each (closing_list st now k) (close_follows s.days k.standing st k.blockings.standing xs now w);
      resting = λ _. found_itself (accepted h);
    }
  where
    st : Setting
    st = setting_of s

    now : Amounts
    now = reads s.funds h.journal

    k : Book
    k = h.book

    xs : List Instruction
    xs = k.instructions.standing

    beside : (ys : List Instruction) → Found xs ys → Found (xs ++ h.departed) (ys ++ h.departed)
    beside ys f = found_beside xs ys h.departed f

    each : (ys : List Instruction) → AllZip Follows xs ys → Found (xs ++ h.departed) (ys ++ h.departed)
    each ys e = beside ys (found_each xs ys e)

-- each is found, and as its serial stands once, only once
pub fates_move : FatesMove
fates_move s sense cs c =
    All-weaker
    (λ i. 1 ≤ finds (accepted g) i)
    (λ i. finds (accepted g) i ≡ 1)
    (λ i l. omega (
      arith,
      l,
      once g akin i.serial,
      total_every (λ j. one_if (follows i j)) (λ j. one_if (has_serial i.serial j)) (accepted g)
          (λ j. one_if_part (has_serial i.serial j) (same_order j.order i.order && may_move i.fate j.fate)),
    ))
    (accepted (history s cs))
    (step_found s (history s cs) (well_holds s sense cs) c)
  where
    g : Past
    g = step s (history s cs) c

    akin : Akin g
    akin = subst Akin (history_more s new_past cs c) (kin s (cs ++ c ∷ []))
