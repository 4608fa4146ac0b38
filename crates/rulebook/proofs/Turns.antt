-- Which instructions belong together: what is counted, and what a change of fates leaves of it.
use Rattle.std.proofs.Common.{◌≡◌, ℕ, ◌<◌, ◌≤◌, Bool, true, false, cond, not, ◌&&◌, ◌||◌, eqb, List, [], ◌∷◌, map, Some, None, Option, sym, refl, ap, ◌∙◌, subst, arith}
use Rattle.std.specs.List.{AllZip, AllByRecursion}
use Rattle.std.proofs.lemmas.Bool.{both_ways}
use Rattle.refusals.specs.declared.Refusal.{Refusal}
use Rattle.refusals.specs.declared.Refusal.TheVariants.{NoPartner}
use Rattle.refusals.specs.Table.{number}
use Rattle.calendar.specs.declared.Date.{Date}
use Rattle.rulebook.specs.declared.Order.{Order}
use Rattle.rulebook.specs.declared.Fate.{Fate}
use Rattle.rulebook.specs.declared.Fate.TheVariants as fate
use Rattle.rulebook.specs.Answers.{cause_number}
use Rattle.rulebook.specs.Words.{one_if, total, Leg, first, return, Amounts, afters, Blocking, Instruction, turned, alike, Setting}
use Rattle.rulebook.specs.Checks.{is_inside, has_serial, may_cancel}
use Rattle.rulebook.specs.Matching.{joins, same_order, counter, cancelled_in}
use Rattle.rulebook.specs.Rounds.{Try, idle, waits, settles, try, settled_one, tried, try_moves, rounds, ended, ended_all}
use Rattle.rulebook.specs.Laws.{was_matched}
use Rattle.rulebook.proofs.Ways.{Ready, try_both, ended_both, cancel_both}
use Rattle.rulebook.proofs.Roll.{bares}

-- a measure that reads only what never changes
abbrev pub Fixed : Type 0
Fixed = ℕ → Order → ℕ

abbrev pub weigh : Fixed → Instruction → ℕ
weigh g i = g i.serial i.order

-- has that serial; and the other party's order too
abbrev pub named : ℕ → Fixed
named n s o = one_if (eqb s n)

abbrev pub answering : ℕ → Order → Fixed
answering n q s o = one_if (eqb s n && same_order o (counter q))

abbrev pub joined_to : ℕ → Instruction → ℕ
joined_to n i = one_if (joins n i.fate)

-- one to which another is joined
abbrev pub leads : Instruction → Bool
leads i = was_matched i && not (is_inside i.order)

abbrev pub leading : ℕ → Instruction → ℕ
leading n i = one_if (has_serial n i && leads i)

-- a matched one never lacked a partner
abbrev pub Calm : Instruction → Type 0
Calm i = alike i.fate fate.Matched ≡ true → eqb (cause_number i.cause) 21 ≡ false

-- where it is joined, its partner has a lower serial, and the count c finds one that answers its order
abbrev pub Fits : (ℕ → Order → ℕ) → Instruction → Type 0
Fits c i = (n : ℕ) → joins n i.fate ≡ true → (n < i.serial) × (1 ≤ c n i.order)

-- a change that joins nothing and matches nothing
pub record Turn (i j : Instruction) : Type 0 where
  pub serial : j.serial ≡ i.serial
  pub order : j.order ≡ i.order
  pub joined : (n : ℕ) → joins n j.fate ≡ joins n i.fate
  pub matched : Calm i → was_matched j ≡ was_matched i
  pub calm : Calm i → Calm j

turn_none : (i : Instruction) → Turn i i
turn_none i = record { serial = refl; order = refl; joined = λ n. refl; matched = λ h. refl; calm = λ h. h }

-- the fate of a leg that is due
abbrev in_turn : Fate → Bool
in_turn f = alike f fate.Matched || alike f fate.RepoOut

in_turn_joins : (n : ℕ) (f : Fate) → in_turn f ≡ true → joins n f ≡ false
in_turn_joins n f h = grind arith

in_turn_matched : (i : Instruction) → in_turn i.fate ≡ true → was_matched i ≡ true
in_turn_matched i h = grind arith

-- a leg that is due goes on
turn_on : (i : Instruction) (f : Fate) (c : Option Refusal) → in_turn i.fate ≡ true
    → ((n : ℕ) → joins n f ≡ false) → was_matched (turned i f c) ≡ true → (Calm i → Calm (turned i f c))
    → Turn i (turned i f c)
turn_on i f c h js m k =
    record {
      serial = refl;
      order = refl;
      joined = λ n. js n ∙ sym (in_turn_joins n i.fate h);
      matched = λ _. m ∙ sym (in_turn_matched i h);
      calm = k;
    }

-- a try touches only a leg that is due, and it never waits for want of a partner
abbrev Touches : Instruction → Try → Type 0
Touches i idle = Unit {0}
Touches i (waits c) = (in_turn i.fate ≡ true) × (eqb (number c) 21 ≡ false)
Touches i (settles e) = in_turn i.fate ≡ true

ready_in_turn : (d : ℕ) (i : Instruction) (e : Leg) → Ready d i e → in_turn i.fate ≡ true
ready_in_turn d i first r = ap in_turn r
ready_in_turn d i return r = ap in_turn r.0

touches : (st : Setting) (d : ℕ) (bs : List Blocking) (a : Amounts) (i : Instruction) → Touches i (try st d bs a i)
touches st d bs a i =
    try_both st d bs a i (Touches i)
    (λ _ _. tt)
    (λ e r _. (ready_in_turn d i e r, refl))
    (λ e r _ _. (ready_in_turn d i e r, refl))
    (λ e r _ _. ready_in_turn d i e r)

turn_settled : (i : Instruction) (e : Leg) (d : Option Date) → in_turn i.fate ≡ true → Turn i (settled_one i e d)
turn_settled i first None h = turn_on i fate.Settled i.cause h (λ n. refl) refl (λ _ e. grind arith)
turn_settled i first (Some d) h = turn_on i fate.RepoOut None h (λ n. refl) refl (λ _ e. grind arith)
turn_settled i return d h = turn_on i fate.RepoBack i.cause h (λ n. refl) refl (λ _ e. grind arith)

turn_tried : (i : Instruction) (t : Try) → Touches i t → Turn i (tried i t)
turn_tried i idle h = turn_none i
turn_tried i (waits c) h =
    turn_on i i.fate (Some c) h.0 (λ n. in_turn_joins n i.fate h.0) (in_turn_matched (turned i i.fate (Some c)) h.0) (λ _ _. h.1)
turn_tried i (settles e) h = turn_settled i e i.order.return_date h

-- a round, cancelling and closing turn each instruction
pub round_turns : (st : Setting) (d : ℕ) (bs : List Blocking) (is : List Instruction) (a : Amounts)
    → AllZip Turn is (rounds st d bs is a).0
round_turns st d bs [] a = tt
round_turns st d bs (i ∷ is) a = (
  turn_tried i (try st d bs a i) (touches st d bs a i),
  round_turns st d bs is (afters (try_moves st d i (try st d bs a i)) a),
)

map_turns : (f : Instruction → Instruction) → ((i : Instruction) → Turn i (f i)) → (is : List Instruction) → AllZip Turn is (map f is)
map_turns f h [] = tt
map_turns f h (i ∷ is) = (h i, map_turns f h is)

-- refused or cancelled before it was matched, or refused after it
turn_refused : (i : Instruction) (f : Fate) (c : Option Refusal) → ((n : ℕ) → joins n f ≡ joins n i.fate)
    → (Calm i → was_matched (turned i f c) ≡ was_matched i) → alike f fate.Matched ≡ false → Turn i (turned i f c)
turn_refused i f c js m k =
    record { serial = refl; order = refl; joined = js; matched = m; calm = λ _ e. absurd (both_ways (alike f fate.Matched) k e) }

turn_ended : (d : ℕ) (i : Instruction) → Turn i (ended d i)
turn_ended d i =
    ended_both d i (Turn i)
    (λ e. turn_refused i fate.Refused (Some NoPartner) (λ n. grind arith) (λ _. grind arith) refl)
    (λ e. turn_refused i fate.Refused i.cause (λ n. grind arith) (λ k. let w = k e in grind arith) refl)
    (λ e. turn_refused i fate.ReturnRefused i.cause (λ n. grind arith) (λ _. grind arith) refl)
    (λ _ _ _. turn_none i)

pub end_turns : (d : ℕ) (is : List Instruction) → AllZip Turn is (ended_all d is)
end_turns d is = map_turns (ended d) (turn_ended d) is

turn_cancelled : (p n : ℕ) (i : Instruction) → Turn i (cond (may_cancel p n i) (turned i fate.Cancelled i.cause) i)
turn_cancelled p n i =
    cancel_both p n i (Turn i)
    (λ w. turn_refused i fate.Cancelled i.cause (λ m. grind arith) (λ _. grind arith) refl)
    (turn_none i)

pub cancel_turns : (p n : ℕ) (is : List Instruction) → AllZip Turn is (cancelled_in p n is)
cancel_turns p n is = map_turns (λ i. cond (may_cancel p n i) (turned i fate.Cancelled i.cause) i) (turn_cancelled p n) is

-- a turn leaves the roll
pub turned_bare : (is js : List Instruction) → AllZip Turn is js → bares js ≡ bares is
turned_bare [] [] t = refl
turned_bare [] (j ∷ js) t = absurd t
turned_bare (i ∷ is) [] t = absurd t
turned_bare (i ∷ is) (j ∷ js) t =
    λ k. record { serial = t.0.serial k; order = t.0.order k; fate = fate.Kept; cause = None } ∷ turned_bare is js t.1 k

pub rounds_bare : (st : Setting) (d : ℕ) (bs : List Blocking) (is : List Instruction) (a : Amounts) → bares (rounds st d bs is a).0 ≡ bares is
rounds_bare st d bs is a = turned_bare is (rounds st d bs is a).0 (round_turns st d bs is a)

pub ended_bare : (d : ℕ) (is : List Instruction) → bares (ended_all d is) ≡ bares is
ended_bare d is = turned_bare is (ended_all d is) (end_turns d is)

pub cancelled_bare : (p n : ℕ) (is : List Instruction) → bares (cancelled_in p n is) ≡ bares is
cancelled_bare p n is = turned_bare is (cancelled_in p n is) (cancel_turns p n is)

-- a sum that reads only what a turn leaves stays, and so does what holds of each
pub turned_total : (f : Instruction → ℕ) → ((i j : Instruction) → Calm i → Turn i j → f j ≡ f i)
    → (is js : List Instruction) → AllByRecursion Calm is → AllZip Turn is js → total f js ≡ total f is
turned_total f h [] [] k t = refl
turned_total f h [] (j ∷ js) k t = absurd t
turned_total f h (i ∷ is) [] k t = absurd t
turned_total f h (i ∷ is) (j ∷ js) k t = omega (arith, h i j k.0 t.0, turned_total f h is js k.1 t.1)

pub turned_all : (P Q : Instruction → Type 0) → ((i j : Instruction) → Calm i → Turn i j → P i → Q j)
    → (is js : List Instruction) → AllByRecursion Calm is → AllZip Turn is js → AllByRecursion P is → AllByRecursion Q js
turned_all P Q h [] [] k t a = tt
turned_all P Q h [] (j ∷ js) k t a = absurd t
turned_all P Q h (i ∷ is) [] k t a = absurd t
turned_all P Q h (i ∷ is) (j ∷ js) k t a = (h i j k.0 t.0 a.0, turned_all P Q h is js k.1 t.1 a.1)

pub turned_joined : (n : ℕ) (is js : List Instruction) → AllByRecursion Calm is → AllZip Turn is js → total (joined_to n) js ≡ total (joined_to n) is
turned_joined n = turned_total (joined_to n) (λ i j _ t k. one_if (t.joined n k))

pub turned_led : (n : ℕ) (is js : List Instruction) → AllByRecursion Calm is → AllZip Turn is js → total (leading n) js ≡ total (leading n) is
turned_led n =
    turned_total (leading n) (λ i j h t k. one_if (eqb (t.serial k) n && (t.matched h k && not (is_inside (t.order k)))))

pub turned_calm : (is js : List Instruction) → AllByRecursion Calm is → AllZip Turn is js → AllByRecursion Calm js
turned_calm is js k t = turned_all Calm Calm (λ i j _ t h. t.calm h) is js k t k

pub turned_fits : (c c' : ℕ → Order → ℕ) → ((n : ℕ) (o : Order) → c n o ≤ c' n o)
    → (is js : List Instruction) → AllByRecursion Calm is → AllZip Turn is js → AllByRecursion (Fits c) is → AllByRecursion (Fits c') js
turned_fits c c' l =
    turned_all (Fits c) (Fits c') (λ i j _ t h n e.
    let w = h n (sym (t.joined n) ∙ e) in
    let q : c n i.order ≤ c' n j.order = subst (λ o. c n i.order ≤ c' n o) (sym t.order) (l n i.order) in
    (omega (arith, w.0, t.serial), omega (arith, w.1, q)))
