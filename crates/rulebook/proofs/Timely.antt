-- What moves before an issue's maturity, and what from then on.
use Rattle.std.proofs.Common.{◌≡◌, ℕ, ◌+◌, ◌<◌, ◌≤◌, Bool, true, false, not, ◌&&◌, eqb, ltb, leb, List, [], ◌∷◌, ◌++◌, is_some, Some, None, Option, sym, refl, ap, ◌∙◌, subst, arith}
use Rattle.std.specs.List.{AllByRecursion}
use Rattle.std.proofs.lemmas.List.{map_push, get_or-set_other}
use Rattle.std.proofs.ByRecursion.{All-append, All-weaker}
use Rattle.std.proofs.lemmas.Bool.{cond_both, and_parts, both_ways, eqb-true, eqb-false, ltb-true, leb-true}
use Rattle.calendar.specs.declared.Date.{Date}
use Rattle.calendar.specs.Days.{is_business}
use Rattle.rulebook.specs.declared.Order.{Order}
use Rattle.rulebook.specs.declared.Call.{Call}
use Rattle.rulebook.specs.declared.Call.TheVariants as call
use Rattle.rulebook.specs.States.{date_of, on_no_day}
use Rattle.rulebook.specs.Words.{one_if, total, Place, place, Payment, Leg, first, return, Movement, placed, settled, redeemed, Amounts, Blocking, Instruction, Setting, Book, Start}
use Rattle.rulebook.specs.Checks.{today, maturity, is_registered, matures, return_date_fits, dates_fit, is_shut, has_serial}
use Rattle.rulebook.specs.Matching.{arrive, leaves, leavers, stayers, cancelled_in}
use Rattle.rulebook.specs.Rules.{checks, work, rule, book_by, moves_by, opens, incoming, rounded, closing_list, close_on_no_day, close_on_a_day}
use Rattle.rulebook.specs.Journal.{Past, setting_of, reads, accepted, leaving, outcome, step, new_past, history_from, history}
use Rattle.rulebook.specs.Laws.{leg_date, moves_as, carries_out, is_settlement, Timely, IssuesTimely}
use Rattle.rulebook.proofs.Answering.{Passes, rule_both, asked}
use Rattle.rulebook.proofs.Totals.{all_passing}
use Rattle.rulebook.proofs.Covered.{same_true, LegsKeep, moves_along}
use Rattle.rulebook.proofs.Ministry.{along_all}
use Rattle.rulebook.proofs.Roll.{bare, bares, arrive_bare, wake_all_bare}
use Rattle.rulebook.proofs.Turns.{cancelled_bare, ended_bare, rounds_bare}
use Rattle.rulebook.proofs.Legs.{legs_holds}

-- an order's legs lie before its issue's maturity
abbrev Before : Book → Order → Type 0
Before k o = (e : Leg) → leg_date o e < matures k o.issue

abbrev AllBefore : Book → List Instruction → Type 0
AllBefore k xs = AllByRecursion (λ i. Before k i.order) xs

-- the law of placements and redemptions alone
abbrev Entry : Book → Movement → Type 0
Entry k (placed d p n y) = d < matures k p.issue
Entry k (settled d n e g r m y) = Unit {0}
Entry k (redeemed d p i u c y) = (is_registered k i ≡ true) × (matures k i ≤ d)

-- a registered issue keeps its maturity
abbrev Persists : Book → Book → Type 0
Persists k k' = (j : ℕ) → is_registered k j ≡ true → maturity k' j ≡ maturity k j

has_maturity : (m : Option Date) → 0 < date_of m → is_some m ≡ true
has_maturity None h = absurd (omega arith)
has_maturity (Some d) h = refl

later_too : (k k' : Book) → Persists k k' → (j n : ℕ) → n < matures k j → n < matures k' j
later_too k k' p j n h = omega (arith, ap date_of (p j (has_maturity (maturity k j) (omega arith))))

before_too : (k k' : Book) → Persists k k' → (xs : List Instruction) → AllBefore k xs → AllBefore k' xs
before_too k k' p xs a = All-weaker _ _ (λ i h e. later_too k k' p i.order.issue (leg_date i.order e) (h e)) xs a

entry_too : (k k' : Book) → Persists k k' → (v : Movement) → Entry k v → Entry k' v
entry_too k k' p (placed d q n y) h = later_too k k' p q.issue d h
entry_too k k' p (settled d n e g r m y) h = tt
entry_too k k' p (redeemed d q i u c y) h = (ap is_some (p i h.0) ∙ h.0, omega (arith, ap date_of (p i h.0), h.1))

persists : (st : Setting) (a : Amounts) (k : Book) (c : Call) → Persists k (book_by k (rule st a k c))
persists st a k c = rule_both (λ o. Persists k (book_by k o)) st a k c (λ _ j e. refl) (each c)
  where
    each : (c : Call) → Passes (checks st a k c) → Persists k (book_by k (work st a k c))
    each call.Opening h j e = refl
    each (call.NewIssue i d) h j e = go (eqb j i) refl
      where
        go : (b : Bool) → eqb j i ≡ b → maturity (book_by k (work st a k (call.NewIssue i d))) j ≡ maturity k j
        go true q =
            let new = (and_parts (ltb i 32) (not (is_registered k i)) h.1.0).1 in
            let old : is_registered k i ≡ true = ap (is_registered k) (sym (eqb-true j i q)) ∙ e in
            absurd (both_ways (not (is_registered k i)) (ap not old) new)
        go false q = get_or-set_other k.issues i j (Some d) None (eqb-false j i q)
    each (call.Placing o) h j e = refl
    each (call.Instructing o) h j e = refl
    each (call.Cancelling p n) h j e = refl
    each (call.Blocking o) h j e = refl
    each (call.Releasing p n) h j e = refl
    each call.Round h j e = refl
    each call.Closing h j e =
        cond_both (eqb k.standing.state on_no_day) (close_on_no_day k) (close_on_a_day st a k) (λ o. maturity (book_by k o) j ≡ maturity k j) (λ _. refl) (λ _. refl)
    each (call.Redeeming i p) h j e = refl
    each (call.AskingStatus n) h j e = asked (λ o. maturity (book_by k o) j ≡ maturity k j) st a k n refl (λ _. refl)
    each (call.AskingHolding p i) h j e = refl

-- lists with the same serials and orders
into_bares : (P : Order → Type 0) (xs : List Instruction) → AllByRecursion (λ i. P i.order) xs → AllByRecursion (λ i. P i.order) (bares xs)
into_bares P [] a = tt
into_bares P (x ∷ xs) a = (a.0, into_bares P xs a.1)

out_of_bares : (P : Order → Type 0) (xs : List Instruction) → AllByRecursion (λ i. P i.order) (bares xs) → AllByRecursion (λ i. P i.order) xs
out_of_bares P [] a = tt
out_of_bares P (x ∷ xs) a = (a.0, out_of_bares P xs a.1)

alike_orders : (P : Order → Type 0) (xs ys : List Instruction) → bares ys ≡ bares xs
    → AllByRecursion (λ i. P i.order) xs → AllByRecursion (λ i. P i.order) ys
alike_orders P xs ys e a = out_of_bares P ys (subst (AllByRecursion (λ (i : Instruction). P i.order)) (sym e) (into_bares P xs a))

-- an accepted order's legs lie before maturity
accepted_before : (st : Setting) (k : Book) (o : Order) → dates_fit st k o ≡ true → Before k o
accepted_before st k o h = legs
  where
    value : ℕ
    value = o.value_date.number

    end : ℕ
    end = matures k o.issue

    parts : ((is_business value st.days && (leb (today k) value && ltb value end)) ≡ true)
        × (return_date_fits st value end o.return_date ≡ true)
    parts = and_parts (is_business value st.days && (leb (today k) value && ltb value end)) (return_date_fits st value end o.return_date) h

    soon : value < end
    soon =
        ltb-true value end
        (and_parts (leb (today k) value) (ltb value end) (and_parts (is_business value st.days) (leb (today k) value && ltb value end) parts.0).1).1

    back : (r : Option Date) → return_date_fits st value end r ≡ true → date_of r < end
    back None e = omega (arith, soon)
    back (Some d) e =
        ltb-true d.number end
        (and_parts (ltb value d.number) (ltb d.number end) (and_parts (is_business d.number st.days) (ltb value d.number && ltb d.number end) e).1).1

    legs : Before k o
    legs first = soon
    legs return = back o.return_date parts.1

listed : (st : Setting) (a : Amounts) (k : Book) (c : Call) → AllBefore k k.instructions.standing
    → AllBefore k (book_by k (rule st a k c)).instructions.standing
listed st a k c l = rule_both (λ o. AllBefore k (book_by k o).instructions.standing) st a k c (λ _. l) (each c)
  where
    is : List Instruction
    is = k.instructions.standing

    round : AllBefore k (rounded st a k).0
    round = alike_orders (Before k) is (rounded st a k).0 (rounds_bare st (today k) k.blockings.standing is a) l

    each : (c : Call) → Passes (checks st a k c) → AllBefore k (book_by k (work st a k c)).instructions.standing
    each call.Opening h =
        alike_orders (Before k) (stayers is) (opens st k).instructions.standing (wake_all_bare (opens st k).standing.day [] (stayers is))
        (all_passing (λ i. Before k i.order) (λ i. not (leaves is i)) is l)
    each (call.NewIssue i d) h = l
    each (call.Placing o) h = l
    each (call.Instructing o) h =
        alike_orders (Before k) (is ++ incoming k o ∷ []) (arrive (today k) is (incoming k o))
        (arrive_bare (today k) is (incoming k o) ∙ sym (map_push bare is (incoming k o)))
        (All-append (λ i. Before k i.order) is (incoming k o ∷ []) l (accepted_before st k o h.1.1.1.1.0, tt))
    each (call.Cancelling p n) h = alike_orders (Before k) is (cancelled_in p n is) (cancelled_bare p n is) l
    each (call.Blocking o) h = l
    each (call.Releasing p n) h = l
    each call.Round h = round
    each call.Closing h =
        cond_both (eqb k.standing.state on_no_day) (close_on_no_day k) (close_on_a_day st a k)
        (λ o. AllBefore k (book_by k o).instructions.standing)
        (λ _. l)
        (λ _. alike_orders (Before k) (rounded st a k).0 (closing_list st a k) (ended_bare (today k) (rounded st a k).0) round)
    each (call.Redeeming i p) h = l
    each (call.AskingStatus n) h = asked (λ o. AllBefore k (book_by k o).instructions.standing) st a k n l (λ _. l)
    each (call.AskingHolding p i) h = l

leaves_before : (k : Book) (c : Call) → AllBefore k k.instructions.standing → AllBefore k (leaving k c)
leaves_before k call.Opening l =
    cond_both (is_shut k) (leavers k.instructions.standing) [] (AllBefore k)
    (λ _. all_passing (λ i. Before k i.order) (leaves k.instructions.standing) k.instructions.standing l) (λ _. tt)
leaves_before k (call.NewIssue i d) l = tt
leaves_before k (call.Placing o) l = tt
leaves_before k (call.Instructing o) l = tt
leaves_before k (call.Cancelling p n) l = tt
leaves_before k (call.Blocking o) l = tt
leaves_before k (call.Releasing p n) l = tt
leaves_before k call.Round l = tt
leaves_before k call.Closing l = tt
leaves_before k (call.Redeeming i p) l = tt
leaves_before k (call.AskingStatus n) l = tt
leaves_before k (call.AskingHolding p i) l = tt

legs_free : (k : Book) (st : Setting) (d : ℕ) (bs : List Blocking) (is : List Instruction)
    → AllByRecursion (LegsKeep (λ _. Entry k) st d bs) is
legs_free k st d bs [] = tt
legs_free k st d bs (i ∷ is) = (λ a e n m. tt, legs_free k st d bs is)

entered : (st : Setting) (a : Amounts) (k : Book) (c : Call) → AllByRecursion (Entry k) (moves_by (rule st a k c))
entered st a k c =
    along_all (Entry k) (moves_by (rule st a k c)) a
    (moves_along (λ _. Entry k) st a k c (λ o h. ltb-true (today k) (matures k o.issue) h.1.1.1.1.0)
    (legs_free k st (today k) k.blockings.standing k.instructions.standing)
    (λ i p h. (h.1.1.0, leb-true (matures k i) (today k) h.1.1.1.0)))

record Dated (h : Past) : Type 0 where
  listed : AllBefore h.book h.book.instructions.standing
  left : AllBefore h.book h.departed
  entries : AllByRecursion (Entry h.book) h.journal

dated_step : (s : Start) (h : Past) (c : Call) → Dated h → Dated (step s h c)
dated_step s h c d =
    let st = setting_of s in
    let a = reads s.funds h.journal in
    let k = h.book in
    let k' = (step s h c).book in
    let p = persists st a k c in
    record {
      listed = before_too k k' p k'.instructions.standing (listed st a k c d.listed);
      left = before_too k k' p (leaving k c ++ h.departed)
          (All-append (λ i. Before k i.order) (leaving k c) h.departed (leaves_before k c d.listed) d.left);
      entries = All-weaker (Entry k) (Entry k') (entry_too k k' p) (step s h c).journal
          (All-append (Entry k) h.journal (moves_by (outcome s h c)) d.entries (entered st a k c));
    }

dated_from : (s : Start) (h : Past) (cs : List Call) → Dated h → Dated (history_from s h cs)
dated_from s h [] d = d
dated_from s h (c ∷ cs) d = dated_from s (step s h c) cs (dated_step s h c d)

-- what follows from each element that passes follows where one passes
one_passes : {X : Type 0} (P : Type 0) (f : X → Bool) (xs : List X) → AllByRecursion (λ x. f x ≡ true → P) xs → total (λ x. one_if (f x)) xs ≡ 1 → P
one_passes P f [] a e = absurd (omega arith)
one_passes P f (x ∷ xs) a e = go (f x) a.0 e (one_passes P f xs a.1)
  where
    go : (b : Bool) → (b ≡ true → P) → one_if b + total (λ x. one_if (f x)) xs ≡ 1 → (total (λ x. one_if (f x)) xs ≡ 1 → P) → P
    go true h e more = h refl
    go false h e more = more (omega arith)

carried : (k : Book) (st : Setting) (d n : ℕ) (e : Leg) (g r : Place) (m : ℕ) (y : Option Payment) (i : Instruction)
    → Before k i.order → carries_out st (settled d n e g r m y) i ≡ true → d < matures k g.issue
carried k st d n e g r m y i b q = go e (and_parts _ _ (and_parts (has_serial n i) _ q).1)
  where
    go : (e : Leg) → (eqb d (leg_date i.order e) ≡ true) × (moves_as st i.order e g r m y ≡ true) → d < matures k g.issue
    go first w =
        let o = i.order in
        let z = ap (λ (p : Place). p.issue) (same_true g (place o.transferor o.issue o.transferor_side) (and_parts _ _ w.1).0) in
        omega (arith, eqb-true d (leg_date o first) w.0, b first, ap (matures k) z)
    go return w =
        let o = i.order in
        let z = ap (λ (p : Place). p.issue) (same_true g (place o.acquirer o.issue o.acquirer_side) (and_parts _ _ w.1).0) in
        omega (arith, eqb-true d (leg_date o return) w.0, b return, ap (matures k) z)

timely : (k : Book) (st : Setting) (xs : List Instruction) → AllBefore k xs → (v : Movement) → Entry k v
    → total (λ i. one_if (carries_out st v i)) xs ≡ one_if (is_settlement v) → Timely k v
timely k st xs b (placed d p n y) h t = h
timely k st xs b (settled d n e g r m y) h t =
    one_passes (d < matures k g.issue) (carries_out st (settled d n e g r m y)) xs
    (All-weaker (λ i. Before k i.order) _ (λ i. carried k st d n e g r m y i) xs b) t
timely k st xs b (redeemed d p i u c y) h t = h

both : (P Q R : Movement → Type 0) → ((v : Movement) → P v → Q v → R v) → (vs : List Movement) → AllByRecursion P vs → AllByRecursion Q vs → AllByRecursion R vs
both P Q R f [] a b = tt
both P Q R f (v ∷ vs) a b = (f v a.0 b.0, both P Q R f vs a.1 b.1)

pub issues_timely : IssuesTimely
issues_timely s w cs =
    let h = history s cs in
    let d = dated_from s new_past cs record { listed = tt; left = tt; entries = tt } in
    both (Entry h.book) _ (Timely h.book)
    (timely h.book (setting_of s) (accepted h) (All-append _ h.book.instructions.standing h.departed d.listed d.left))
    h.journal
    d.entries
    (legs_holds s w cs)
