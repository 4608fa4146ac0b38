-- Questions, states, places and numbers, blockings, and orders compared.
use Rattle.std.proofs.Common.{◌≡◌, ℕ, ◌+◌, ◌≤◌, Bool, true, false, cond, not, eqb, ltb, leb, ◌⊎◌, List, [], ◌∷◌, ◌++◌, length, Some, None, Err, Option, refl, ap, inl, inr, arith}
use Rattle.std.proofs.lemmas.List.{length-append, length-map}
use Rattle.std.proofs.lemmas.Bool.{cond_both, and_parts, both_ways, eqb-true, ltb-true, leb-true}
use Rattle.std.proofs.lemmas.Bool.Decides.{nat_tests}
use Rattle.refusals.specs.declared.Refusal.TheVariants.{WrongState, NotFound}
use Rattle.refusals.specs.Table.{number}
use Rattle.calendar.specs.declared.Date.{Date}
use Rattle.calendar.specs.Days.{passing, RisingAbove}
use Rattle.rulebook.specs.declared.Sender.{Sender}
use Rattle.rulebook.specs.declared.Sender.TheVariants.{Transferor, Acquirer}
use Rattle.rulebook.specs.declared.Order.{Order}
use Rattle.rulebook.specs.declared.Fate.TheVariants as fate
use Rattle.rulebook.specs.declared.Call.{Call}
use Rattle.rulebook.specs.declared.Call.TheVariants as call
use Rattle.rulebook.specs.States.{on_no_day}
use Rattle.rulebook.specs.Words.{same_side, Place, at, Amounts, afters, Blocking, Instruction, turned, alike, Numbered, Setting, Book, Start, blocked}
use Rattle.rulebook.specs.Checks.{Check, verdict, today, is_inside, may_cancel, is_blocking}
use Rattle.rulebook.specs.Matching.{same_sender, same_date, same_option, is_partner, pair_up, met, admit, arrive, wake, wake_all, leaves, stayers, cancelled_in}
use Rattle.rulebook.specs.Rounds.{try, try_moves, rounds, ended}
use Rattle.rulebook.specs.Rules.{Outcome, checks, work, ruled, answer_by, book_by, standing_now, opens, incoming, granted, rounded, closing_list, close_on_no_day, close_on_a_day}
use Rattle.rulebook.specs.Journal.{Past, setting_of, reads, new_past, step, history_from, View, view_by}
use Rattle.rulebook.specs.Laws.{check_numbers, suits, QuestionsKeep, StateTakes, Limited, PlacesLimited, BlockingsStay, SameOrdersEqual}
use Rattle.rulebook.proofs.Answering.{Passes, rule_both, asked, accepted}
use Rattle.rulebook.proofs.Rising.{checks_rise}
use Rattle.rulebook.proofs.Totals.{total_push}
use Rattle.rulebook.proofs.Covered.{side_true}

pub questions_keep : QuestionsKeep
questions_keep =
    record {
      status = λ v n.
          rule_both (λ o. view_by v o ≡ v) v.setting v.amounts v.book (call.AskingStatus n) (λ _. refl)
          (λ _. asked (λ o. view_by v o ≡ v) v.setting v.amounts v.book n refl (λ _. refl));
      holding = λ v p i.
          rule_both (λ o. view_by v o ≡ v) v.setting v.amounts v.book (call.AskingHolding p i) (λ _. refl) (λ _. refl);
    }

-- an outcome that is not refused for the state
abbrev Other : Outcome → Type 0
Other o = answer_by o ≡ Err WrongState → ⊥

lower : (m n : ℕ) (xs : List ℕ) → m ≤ n → RisingAbove n xs → RisingAbove m xs
lower m n [] l r = tt
lower m n (x ∷ xs) l r = (omega (arith, r.0), r.1)

-- checks above 10 refuse for something else
above_ten : (cs : List Check) (o : Outcome) → RisingAbove 10 (check_numbers cs) → Other o → Other (ruled (verdict cs) o)
above_ten [] o r h = h
above_ten (c ∷ cs) o r h =
    cond_both
    c.0
    (verdict cs)
    (Err c.1)
    (λ v. Other (ruled v o))
    (λ _. above_ten cs o (lower 10 (number c.1) (check_numbers cs) (omega (arith, r.0)) r.1) h)
    (λ _ e.
    let w : c.1 ≡ WrongState = cc in
    let n : number c.1 ≡ 10 = ap number w in
    omega (arith, r.0))

first_of : (b : Bool) (cs : List Check) (o : Outcome) → RisingAbove 10 (check_numbers cs) → Other o
    → answer_by (ruled (verdict ((b, WrongState) ∷ cs)) o) ≡ Err WrongState → b ≡ false
first_of true cs o r h e = absurd (above_ten cs o r h e)
first_of false cs o r h e = refl

abbrev done : View → Call → Outcome
done v c = work v.setting v.amounts v.book c

-- no call's work is refused for the state
works : (v : View) (c : Call) → Other (done v c)
works v call.Opening = accepted _ WrongState
works v (call.NewIssue i d) = accepted _ WrongState
works v (call.Placing o) = accepted _ WrongState
works v (call.Instructing o) = accepted _ WrongState
works v (call.Cancelling p n) = accepted _ WrongState
works v (call.Blocking o) = accepted _ WrongState
works v (call.Releasing p n) = accepted _ WrongState
works v call.Round = accepted _ WrongState
works v call.Closing =
    cond_both (eqb v.book.standing.state on_no_day) _ _ Other (λ _. accepted _ WrongState) (λ _. accepted _ WrongState)
works v (call.Redeeming i p) = accepted _ WrongState
works v (call.AskingStatus n) =
    asked Other v.setting v.amounts v.book n
    (λ e.
    let w : NotFound ≡ WrongState = cc in
    let n : number NotFound ≡ 10 = ap number w in
    omega arith)
    (λ w. accepted w WrongState)
works v (call.AskingHolding p i) = accepted _ WrongState

abbrev rest_of : List Check → List Check
rest_of [] = []
rest_of (c ∷ cs) = cs

abbrev rest : View → Call → List Check
rest v c = rest_of (checks v.setting v.amounts v.book c)

takes : (v : View) (c : Call) → RisingAbove 10 (check_numbers (rest v c))
    → answer_by (ruled (verdict ((suits v.book.standing.state c, WrongState) ∷ rest v c)) (done v c)) ≡ Err WrongState
    → suits v.book.standing.state c ≡ false
takes v c r = first_of (suits v.book.standing.state c) (rest v c) (done v c) r (works v c)

pub states_take : StateTakes
states_take v call.Opening = takes v call.Opening tt
states_take v (call.NewIssue i d) = takes v (call.NewIssue i d) (checks_rise v.setting v.amounts v.book (call.NewIssue i d)).1
states_take v (call.Placing o) = takes v (call.Placing o) (checks_rise v.setting v.amounts v.book (call.Placing o)).1
states_take v (call.Instructing o) =
    takes v (call.Instructing o) (checks_rise v.setting v.amounts v.book (call.Instructing o)).1
states_take v (call.Cancelling p n) =
    takes v (call.Cancelling p n) (checks_rise v.setting v.amounts v.book (call.Cancelling p n)).1
states_take v (call.Blocking o) = takes v (call.Blocking o) (checks_rise v.setting v.amounts v.book (call.Blocking o)).1
states_take v (call.Releasing p n) =
    takes v (call.Releasing p n) (checks_rise v.setting v.amounts v.book (call.Releasing p n)).1
states_take v call.Round = takes v call.Round tt
states_take v call.Closing = takes v call.Closing tt
states_take v (call.Redeeming i p) =
    takes v (call.Redeeming i p) (checks_rise v.setting v.amounts v.book (call.Redeeming i p)).1
states_take v (call.AskingStatus n) = λ e.
    absurd
    (above_ten
    (checks v.setting v.amounts v.book (call.AskingStatus n))
    (done v (call.AskingStatus n))
    (omega arith, tt)
    (works v (call.AskingStatus n))
    e)
states_take v (call.AskingHolding p i) = λ e.
    absurd
    (above_ten
    (checks v.setting v.amounts v.book (call.AskingHolding p i))
    (done v (call.AskingHolding p i))
    (omega arith, (omega arith, tt))
    (works v (call.AskingHolding p i))
    e)

-- how long the list is behind each change
pair_up_length : (o : Order) (xs : List Instruction) → length (pair_up o xs).0 ≡ length xs
pair_up_length o [] = refl
pair_up_length o (x ∷ xs) =
    cond_both
    {A = List Instruction × Option ℕ}
    (is_partner o x)
    (turned x fate.Matched None ∷ xs, Some x.serial)
    (x ∷ (pair_up o xs).0, (pair_up o xs).1)
    (λ y. length y.0 ≡ length (x ∷ xs))
    (λ _. refl)
    (λ _. omega (arith, pair_up_length o xs))

admit_length : (xs : List Instruction) (i : Instruction) → length (admit xs i) ≡ length xs + 1
admit_length xs i =
    let ys = (pair_up i.order xs).0 in
    let j = met i (pair_up i.order xs).1 in
    cond_both
    (is_inside i.order)
    (xs ++ turned i fate.Matched None ∷ [])
    (ys ++ j ∷ [])
    (λ zs. length zs ≡ length xs + 1)
    (λ _. length-append xs (turned i fate.Matched None ∷ []))
    (λ _. omega (arith, length-append ys (j ∷ []), pair_up_length i.order xs))

arrive_length : (d : ℕ) (xs : List Instruction) (i : Instruction) → length (arrive d xs i) ≡ length xs + 1
arrive_length d xs i =
    cond_both
    (leb i.order.value_date.number d)
    (admit xs i)
    (xs ++ turned i fate.Kept None ∷ [])
    (λ zs. length zs ≡ length xs + 1)
    (λ _. admit_length xs i)
    (λ _. length-append xs (turned i fate.Kept None ∷ []))

wake_length : (d : ℕ) (xs : List Instruction) (i : Instruction) → length (wake d xs i) ≡ length xs + 1
wake_length d xs i =
    cond_both
    (alike i.fate fate.Kept)
    (arrive d xs i)
    (xs ++ i ∷ [])
    (λ zs. length zs ≡ length xs + 1)
    (λ _. arrive_length d xs i)
    (λ _. length-append xs (i ∷ []))

wake_all_length : (d : ℕ) (xs is : List Instruction) → length (wake_all d xs is) ≡ length xs + length is
wake_all_length d xs [] = omega arith
wake_all_length d xs (i ∷ is) = omega (arith, wake_all_length d (wake d xs i) is, wake_length d xs i)

passing_length : {X : Type 0} (t : X → Bool) (xs : List X) → length (passing t xs) ≤ length xs
passing_length t [] = omega arith
passing_length t (x ∷ xs) =
    cond_both
    (t x)
    (x ∷ passing t xs)
    (passing t xs)
    (λ ys. length ys ≤ length (x ∷ xs))
    (λ _. omega (arith, passing_length t xs))
    (λ _. omega (arith, passing_length t xs))

rounds_length : (st : Setting) (d : ℕ) (bs : List Blocking) (is : List Instruction) (a : Amounts)
    → length (rounds st d bs is a).0 ≡ length is
rounds_length st d bs [] a = refl
rounds_length st d bs (i ∷ is) a = omega (arith, rounds_length st d bs is (afters (try_moves st d i (try st d bs a i)) a))

-- with other instructions standing, and the rest as it was
other_list : (is : Numbered Instruction) (bs : Numbered Blocking) (js : List Instruction)
    → Limited is bs → length js ≤ length is.standing → Limited (standing_now is js) bs
other_list is bs js l h =
    record {
      instructions = omega (arith, l.instructions);
      blockings = l.blockings;
      serials = l.serials;
      numbers = l.numbers;
    }

abbrev LimitedBook : Book → Type 0
LimitedBook k = Limited k.instructions k.blockings

limited_work : (st : Setting) (a : Amounts) (k : Book) (c : Call) → LimitedBook k → Passes (checks st a k c)
    → LimitedBook (book_by k (work st a k c))
limited_work st a k call.Opening l h =
    let is = k.instructions.standing in
    let d = (opens st k).standing.day in
    other_list
    k.instructions
    k.blockings
    (opens st k).instructions.standing
    l
    (omega (arith, wake_all_length d [] (stayers is), passing_length (λ i. not (leaves is i)) is))
limited_work st a k (call.NewIssue i d) l h = l
limited_work st a k (call.Placing o) l h = l
limited_work st a k (call.Instructing o) l h =
    let is = k.instructions.standing in
    let room = and_parts (ltb (length is) 256) (leb k.instructions.next 999999) h.1.1.1.1.1.1.0 in
    record {
      instructions = omega (arith, ltb-true (length is) 256 room.0, arrive_length (today k) is (incoming k o));
      blockings = l.blockings;
      serials = omega (arith, leb-true k.instructions.next 999999 room.1);
      numbers = l.numbers;
    }
limited_work st a k (call.Cancelling p n) l h =
    other_list
    k.instructions
    k.blockings
    (cancelled_in p n k.instructions.standing)
    l
    (omega (arith, length-map k.instructions.standing (λ i. cond (may_cancel p n i) (turned i fate.Cancelled i.cause) i)))
limited_work st a k (call.Blocking o) l h =
    let bs = k.blockings.standing in
    let room = and_parts (ltb (length bs) 64) (leb k.blockings.next 999999) h.1.1.1.1.1.0 in
    record {
      instructions = l.instructions;
      blockings = omega (arith, ltb-true (length bs) 64 room.0, length-append bs (granted k o ∷ []));
      serials = l.serials;
      numbers = omega (arith, leb-true k.blockings.next 999999 room.1);
    }
limited_work st a k (call.Releasing p n) l h =
    record {
      instructions = l.instructions;
      blockings = omega (arith, l.blockings, passing_length (λ b. not (is_blocking p n b)) k.blockings.standing);
      serials = l.serials;
      numbers = l.numbers;
    }
limited_work st a k call.Round l h =
    other_list
    k.instructions
    k.blockings
    (rounded st a k).0
    l
    (omega (arith, rounds_length st (today k) k.blockings.standing k.instructions.standing a))
limited_work st a k call.Closing l h =
    cond_both
    (eqb k.standing.state on_no_day)
    (close_on_no_day k)
    (close_on_a_day st a k)
    (λ o. LimitedBook (book_by k o))
    (λ _. l)
    (λ _. other_list
    k.instructions
    k.blockings
    (closing_list st a k)
    l
    (omega (
      arith,
      rounds_length st (today k) k.blockings.standing k.instructions.standing a,
      length-map (rounded st a k).0 (ended (today k)),
    )))
limited_work st a k (call.Redeeming i p) l h = l
limited_work st a k (call.AskingStatus n) l h = asked (λ o. LimitedBook (book_by k o)) st a k n l (λ _. l)
limited_work st a k (call.AskingHolding p i) l h = l

limited_from : (s : Start) (h : Past) (cs : List Call) → LimitedBook h.book → LimitedBook (history_from s h cs).book
limited_from s h [] l = l
limited_from s h (c ∷ cs) l =
    let st = setting_of s in
    let a = reads s.funds h.journal in
    limited_from s (step s h c) cs
    (rule_both (λ o. LimitedBook (book_by h.book o)) st a h.book c (λ _. l) (limited_work st a h.book c l))

pub places_limited : PlacesLimited
places_limited s cs =
    limited_from s new_past cs
    record { instructions = omega arith; blockings = omega arith; serials = omega arith; numbers = omega arith }

-- a release by another leaves a participant's blockings
elsewhere : (p : Place) (q n : ℕ) (b : Blocking) → eqb q p.participant ≡ false → not (is_blocking q n b) ≡ false
    → at b.place b.nominal p ≡ 0
elsewhere p q n b e g = grind (arith, nat_tests)

releases : (p : Place) (q n : ℕ) → eqb q p.participant ≡ false → (bs : List Blocking)
    → blocked bs p ≤ blocked (passing (λ b. not (is_blocking q n b)) bs) p
releases p q n e [] = omega arith
releases p q n e (b ∷ bs) =
    cond_both
    (not (is_blocking q n b))
    (b ∷ passing (λ b. not (is_blocking q n b)) bs)
    (passing (λ b. not (is_blocking q n b)) bs)
    (λ ys. blocked (b ∷ bs) p ≤ blocked ys p)
    (λ _. omega (arith, releases p q n e bs))
    (λ g. omega (arith, elsewhere p q n b e g, releases p q n e bs))

abbrev StaysBlocked : Book → Call → Place → Outcome → Type 0
StaysBlocked k c p o =
    (blocked k.blockings.standing p ≤ blocked (book_by k o).blockings.standing p)
    ⊎ ((n : ℕ) × (c ≡ call.Releasing p.participant n))

stays_blocked : (st : Setting) (a : Amounts) (k : Book) (c : Call) (p : Place) → StaysBlocked k c p (work st a k c)
stays_blocked st a k call.Opening p = inl (omega arith)
stays_blocked st a k (call.NewIssue i d) p = inl (omega arith)
stays_blocked st a k (call.Placing o) p = inl (omega arith)
stays_blocked st a k (call.Instructing o) p = inl (omega arith)
stays_blocked st a k (call.Cancelling q n) p = inl (omega arith)
stays_blocked st a k (call.Blocking o) p =
    inl (omega (arith, total_push (λ (b : Blocking). at b.place b.nominal p) k.blockings.standing (granted k o)))
stays_blocked st a k (call.Releasing q n) p = go (eqb q p.participant) refl
  where
    go : (b : Bool) → eqb q p.participant ≡ b → StaysBlocked k (call.Releasing q n) p (work st a k (call.Releasing q n))
    go true e = inr (n, ap (λ x. call.Releasing x n) (eqb-true q p.participant e))
    go false e = inl (releases p q n e k.blockings.standing)
stays_blocked st a k call.Round p = inl (omega arith)
stays_blocked st a k call.Closing p =
    cond_both (eqb k.standing.state on_no_day) _ _ (StaysBlocked k call.Closing p) (λ _. inl (omega arith)) (λ _. inl (omega arith))
stays_blocked st a k (call.Redeeming i q) p = inl (omega arith)
stays_blocked st a k (call.AskingStatus n) p =
    asked (StaysBlocked k (call.AskingStatus n) p) st a k n (inl (omega arith)) (λ _. inl (omega arith))
stays_blocked st a k (call.AskingHolding q i) p = inl (omega arith)

pub blockings_stay : BlockingsStay
blockings_stay v c p =
    rule_both (StaysBlocked v.book c p) v.setting v.amounts v.book c (λ _. inl (omega arith))
    (λ _. stays_blocked v.setting v.amounts v.book c p)

-- tests of fields that hold only of equal ones
sender_true : (s t : Sender) → same_sender s t ≡ true → s ≡ t
sender_true Transferor Transferor e = refl
sender_true Transferor Acquirer e = cc
sender_true Acquirer Transferor e = cc
sender_true Acquirer Acquirer e = refl

date_true : (d e : Date) → same_date d e ≡ true → d ≡ e
date_true d e h = λ i. record { number = eqb-true d.number e.number h i }

option_true : {X : Type 0} (t : X → X → Bool) → ((x y : X) → t x y ≡ true → x ≡ y)
    → (x y : Option X) → same_option t x y ≡ true → x ≡ y
option_true t h None None e = refl
option_true t h None (Some y) e = absurd (both_ways false refl e)
option_true t h (Some x) None e = absurd (both_ways false refl e)
option_true t h (Some x) (Some y) e = ap Some (h x y e)

pub same_orders_equal : SameOrdersEqual
same_orders_equal o q e =
    let a = and_parts (same_sender o.sender q.sender) _ e in
    let b = and_parts (eqb o.transferor q.transferor) _ a.1 in
    let c = and_parts (same_side o.transferor_side q.transferor_side) _ b.1 in
    let d = and_parts (eqb o.acquirer q.acquirer) _ c.1 in
    let f = and_parts (same_side o.acquirer_side q.acquirer_side) _ d.1 in
    let g = and_parts (eqb o.issue q.issue) _ f.1 in
    let h = and_parts (eqb o.nominal q.nominal) _ g.1 in
    let j = and_parts (same_option eqb o.price q.price) _ h.1 in
    let k = and_parts (same_date o.value_date q.value_date) _ j.1 in
    let l = and_parts (same_option same_date o.return_date q.return_date) _ k.1 in
    λ i. record {
      sender = sender_true o.sender q.sender a.0 i;
      transferor = eqb-true o.transferor q.transferor b.0 i;
      transferor_side = side_true o.transferor_side q.transferor_side c.0 i;
      acquirer = eqb-true o.acquirer q.acquirer d.0 i;
      acquirer_side = side_true o.acquirer_side q.acquirer_side f.0 i;
      issue = eqb-true o.issue q.issue g.0 i;
      nominal = eqb-true o.nominal q.nominal h.0 i;
      price = option_true eqb eqb-true o.price q.price j.0 i;
      value_date = date_true o.value_date q.value_date k.0 i;
      return_date = option_true same_date date_true o.return_date q.return_date l.0 i;
      return_price = option_true eqb eqb-true o.return_price q.return_price l.1 i;
    }
