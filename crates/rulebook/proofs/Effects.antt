-- What each call does to the fates on the list: legs settle as they move, and what is final stays.
use Rattle.std.proofs.Common.{◌≡◌, ℕ, ◌+◌, ◌≤◌, Bool, true, false, cond, ◌&&◌, ◌||◌, List, [], ◌∷◌, ◌++◌, map, Some, None, Option, sym, refl, ap, arith}
use Rattle.std.proofs.lemmas.List.{append_assoc, append-nil}
use Rattle.std.proofs.lemmas.Bool.{cond_both, and_parts}
use Rattle.refusals.specs.declared.Refusal.{Refusal}
use Rattle.refusals.specs.declared.Refusal.TheVariants.{NominalShort, MoneyShort, NoPartner}
use Rattle.calendar.specs.declared.Date.{Date}
use Rattle.rulebook.specs.declared.Order.{Order}
use Rattle.rulebook.specs.declared.Fate.{Fate}
use Rattle.rulebook.specs.declared.Fate.TheVariants as fate
use Rattle.rulebook.specs.Words.{one_if, total, Leg, first, return, same_leg, Movement, is_leg, Amounts, afters, Blocking, Instruction, turned, alike, Setting}
use Rattle.rulebook.specs.Checks.{may_cancel, has_serial}
use Rattle.rulebook.specs.Matching.{same_order, counter, is_partner, pair_up, met, arrive, wake, wake_all, cancelled_in}
use Rattle.rulebook.specs.Rounds.{leg, is_day, try, settled_one, tried, try_moves, rounds, is_leg_done, is_leg_refused, ended, ended_all}
use Rattle.rulebook.specs.Journal.{times}
use Rattle.rulebook.proofs.Totals.{total_append, one_if_grows, one_if_none}
use Rattle.rulebook.proofs.Ways.{Ready, try_both, ended_both, cancel_both, arrive_both, is_waiting}

-- the fates of one whose leg has settled
abbrev pub has : Leg → Fate → Bool
has first f = is_leg_done f || alike f fate.ReturnRefused
has return f = alike f fate.RepoBack

-- refused, cancelled, return refused: no call changes it
abbrev pub is_final : Fate → Bool
is_final f = is_leg_refused f || alike f fate.Cancelled

-- 1 if the instruction has that serial; that serial and such a fate
abbrev pub numbered : ℕ → Instruction → ℕ
numbered n i = one_if (has_serial n i)

abbrev pub such : ℕ → (Fate → Bool) → Instruction → ℕ
such n t i = one_if (has_serial n i && t i.fate)

-- from the instructions xs to ys, while vs moves
pub record Effect (xs ys : List Instruction) (vs : List Movement) : Type 0 where
  pub legs : (n : ℕ) (e : Leg) → total (such n (has e)) ys ≡ total (such n (has e)) xs + times vs n e
  pub stays : (n : ℕ) (f : Fate) → is_final f ≡ true
      → total (such n (λ g. alike g f)) xs ≤ total (such n (λ g. alike g f)) ys

pub effect_none : (xs : List Instruction) → Effect xs xs []
effect_none xs = record { legs = λ n e. omega arith; stays = λ n f h. omega arith }

pub effect_then : (xs ys zs : List Instruction) (us vs : List Movement) → Effect xs ys us → Effect ys zs vs → Effect xs zs (us ++ vs)
effect_then xs ys zs us vs a b =
    record {
      legs = λ n e. omega (arith, a.legs n e, b.legs n e, total_append (is_leg n e) us vs);
      stays = λ n f h. omega (arith, a.stays n f h, b.stays n f h);
    }

pub effect_append : (xs ys xs' ys' : List Instruction) (us vs : List Movement) → Effect xs ys us → Effect xs' ys' vs
    → Effect (xs ++ xs') (ys ++ ys') (us ++ vs)
effect_append xs ys xs' ys' us vs a b =
    record {
      legs = λ n e.
          omega (
            arith,
            a.legs n e,
            b.legs n e,
            total_append (is_leg n e) us vs,
            total_append (such n (has e)) xs xs',
            total_append (such n (has e)) ys ys',
          );
      stays = λ n f h.
          omega (
            arith,
            a.stays n f h,
            b.stays n f h,
            total_append (such n (λ g. alike g f)) xs xs',
            total_append (such n (λ g. alike g f)) ys ys',
          );
    }

-- whether a change of fate settles that leg
abbrev is_settled : Option Leg → Leg → Bool
is_settled None e = false
is_settled (Some l) e = same_leg l e

-- a change of fate that settles nothing or one leg
record Turn (f g : Fate) (l : Option Leg) : Type 0 where
  legs : (v : Bool) (e : Leg) → one_if (v && has e g) ≡ one_if (v && has e f) + one_if (v && is_settled l e)
  stays : (k : Fate) → is_final k ≡ true → alike f k ≡ true → alike g k ≡ true

abbrev Quiet : Fate → Fate → Type 0
Quiet f g = Turn f g None

effect_turn : (i : Instruction) (g : Fate) (c : Option Refusal) (l : Option Leg) (vs : List Movement) → Turn i.fate g l
    → ((n : ℕ) (e : Leg) → times vs n e ≡ one_if (has_serial n i && is_settled l e)) → Effect (i ∷ []) (turned i g c ∷ []) vs
effect_turn i g c l vs h m =
    record {
      legs = λ n e. omega (arith, h.legs (has_serial n i) e, m n e);
      stays = λ n f k. omega (arith, one_if_grows (has_serial n i) (alike i.fate f) (alike g f) (h.stays f k));
    }

effect_one : (i : Instruction) (g : Fate) (c : Option Refusal) → Quiet i.fate g → Effect (i ∷ []) (turned i g c ∷ []) []
effect_one i g c h = effect_turn i g c None [] h (λ n e. sym (one_if_none (has_serial n i)))

quiet_none : (f : Fate) → Quiet f f
quiet_none f = record { legs = λ v e. grind arith; stays = λ k h a. a }

early_kept : (f : Fate) → alike f fate.Kept ≡ true → is_waiting f ≡ true
early_kept f e = grind arith

early_unmatched : (f : Fate) → alike f fate.Unmatched ≡ true → is_waiting f ≡ true
early_unmatched f e = grind arith

early_matched : (f : Fate) → alike f fate.Matched ≡ true → is_waiting f ≡ true
early_matched f e = grind arith

early_cancelled : (f : Fate) → alike f fate.Kept || alike f fate.Unmatched ≡ true → is_waiting f ≡ true
early_cancelled f e = grind arith

quiet_early : (f g : Fate) → is_waiting f ≡ true → has first g || has return g ≡ false → Quiet f g
quiet_early f g h w = record { legs = λ v e. grind arith; stays = λ k x a. grind arith }

quiet_return_refused : (f : Fate) → alike f fate.RepoOut ≡ true → Quiet f fate.ReturnRefused
quiet_return_refused f h = record { legs = λ v e. grind arith; stays = λ k x a. grind arith }

-- cancelling and closing change fates one by one
effect_map : (f : Instruction → Instruction) → ((i : Instruction) → Effect (i ∷ []) (f i ∷ []) []) → (xs : List Instruction) → Effect xs (map f xs) []
effect_map f h [] = effect_none []
effect_map f h (x ∷ xs) = effect_append (x ∷ []) (f x ∷ []) xs (map f xs) [] [] (h x) (effect_map f h xs)

pub cancel_effect : (p n : ℕ) (xs : List Instruction) → Effect xs (cancelled_in p n xs) []
cancel_effect p n xs = effect_map (λ i. cond (may_cancel p n i) (turned i fate.Cancelled i.cause) i) one xs
  where
    one : (i : Instruction) → Effect (i ∷ []) (cond (may_cancel p n i) (turned i fate.Cancelled i.cause) i ∷ []) []
    one i =
        cancel_both p n i (λ j. Effect (i ∷ []) (j ∷ []) [])
        (λ e. effect_one i fate.Cancelled i.cause (quiet_early i.fate fate.Cancelled (early_cancelled i.fate e) refl))
        (effect_none (i ∷ []))

pub end_effect : (d : ℕ) (xs : List Instruction) → Effect xs (ended_all d xs) []
end_effect d xs = effect_map (ended d) one xs
  where
    one : (i : Instruction) → Effect (i ∷ []) (ended d i ∷ []) []
    one i =
        ended_both d i (λ j. Effect (i ∷ []) (j ∷ []) [])
        (λ e. effect_one i fate.Refused (Some NoPartner) (quiet_early i.fate fate.Refused (early_unmatched i.fate e) refl))
        (λ e. effect_one i fate.Refused i.cause (quiet_early i.fate fate.Refused (early_matched i.fate e) refl))
        (λ e. effect_one i fate.ReturnRefused i.cause (quiet_return_refused i.fate (and_parts (alike i.fate fate.RepoOut) (is_day d i.order.return_date) e).0))
        (λ _ _ _. effect_none (i ∷ []))

pair_effect : (o : Order) (xs : List Instruction) → Effect xs (pair_up o xs).0 []
pair_effect o [] = effect_none []
pair_effect o (x ∷ xs) =
    cond_both
    {A = List Instruction × Option ℕ}
    (is_partner o x)
    (turned x fate.Matched None ∷ xs, Some x.serial)
    (x ∷ (pair_up o xs).0, (pair_up o xs).1)
    (λ r. Effect (x ∷ xs) r.0 [])
    (λ e. let u = (and_parts (alike x.fate fate.Unmatched) (same_order x.order (counter o)) e).0 in
    effect_append (x ∷ []) (turned x fate.Matched None ∷ []) xs xs [] []
    (effect_one x fate.Matched None (quiet_early x.fate fate.Matched (early_unmatched x.fate u) refl))
    (effect_none xs))
    (λ _. effect_append (x ∷ []) (x ∷ []) xs (pair_up o xs).0 [] [] (effect_none (x ∷ [])) (pair_effect o xs))

pub arrive_effect : (d : ℕ) (xs : List Instruction) (i : Instruction) → alike i.fate fate.Kept ≡ true → Effect (xs ++ i ∷ []) (arrive d xs i) []
arrive_effect d xs i k =
    arrive_both d xs i (λ ys. Effect (xs ++ i ∷ []) ys [])
    (λ _ _. behind xs fate.Matched (effect_none xs) refl)
    (λ _ _. by_found (pair_up i.order xs).1)
    (λ _. behind xs fate.Kept (effect_none xs) refl)
  where
    behind : (ys : List Instruction) (g : Fate) → Effect xs ys [] → has first g || has return g ≡ false
        → Effect (xs ++ i ∷ []) (ys ++ turned i g None ∷ []) []
    behind ys g e w =
        effect_append xs ys (i ∷ []) (turned i g None ∷ []) [] [] e (effect_one i g None (quiet_early i.fate g (early_kept i.fate k) w))

    by_found : (o : Option ℕ) → Effect (xs ++ i ∷ []) ((pair_up i.order xs).0 ++ met i o ∷ []) []
    by_found None = behind (pair_up i.order xs).0 fate.Unmatched (pair_effect i.order xs) refl
    by_found (Some s) = behind (pair_up i.order xs).0 (fate.Joined s) (pair_effect i.order xs) refl

wake_effect : (d : ℕ) (xs : List Instruction) (i : Instruction) → Effect (xs ++ i ∷ []) (wake d xs i) []
wake_effect d xs i =
    cond_both
    (alike i.fate fate.Kept)
    (arrive d xs i)
    (xs ++ i ∷ [])
    (λ ys. Effect (xs ++ i ∷ []) ys [])
    (λ e. arrive_effect d xs i e)
    (λ _. effect_none (xs ++ i ∷ []))

pub wake_all_effect : (d : ℕ) (xs is : List Instruction) → Effect (xs ++ is) (wake_all d xs is) []
wake_all_effect d xs [] = rw (append-nil xs) (effect_none xs)
wake_all_effect d xs (i ∷ is) =
    rw (← append_assoc xs (i ∷ []) is)
    (effect_then
    ((xs ++ i ∷ []) ++ is)
    (wake d xs i ++ is)
    (wake_all d (wake d xs i) is)
    []
    []
    (effect_append (xs ++ i ∷ []) (wake d xs i) is is [] [] (wake_effect d xs i) (effect_none is))
    (wake_all_effect d (wake d xs i) is))

-- changes of fate that settle a leg
settling_whole : (f : Fate) → alike f fate.Matched ≡ true → Turn f fate.Settled (Some first)
settling_whole f h = record { legs = λ v e. grind arith; stays = λ k x a. grind arith }

settling_out : (f : Fate) → alike f fate.Matched ≡ true → Turn f fate.RepoOut (Some first)
settling_out f h = record { legs = λ v e. grind arith; stays = λ k x a. grind arith }

settling_back : (f : Fate) → alike f fate.RepoOut ≡ true → Turn f fate.RepoBack (Some return)
settling_back f h = record { legs = λ v e. grind arith; stays = λ k x a. grind arith }

effect_leg : (st : Setting) (d : ℕ) (i : Instruction) (g : Fate) (c : Option Refusal) (l : Leg) → Turn i.fate g (Some l)
    → Effect (i ∷ []) (turned i g c ∷ []) (leg st d i l ∷ [])
effect_leg st d i g c l h = effect_turn i g c (Some l) (leg st d i l ∷ []) h (λ n e. omega arith)

settled_effect : (st : Setting) (d : ℕ) (i : Instruction) (l : Leg) (r : Option Date) → Ready d i l
    → Effect (i ∷ []) (settled_one i l r ∷ []) (leg st d i l ∷ [])
settled_effect st d i first None h = effect_leg st d i fate.Settled i.cause first (settling_whole i.fate (ap (λ f. alike f fate.Matched) h))
settled_effect st d i first (Some e) h = effect_leg st d i fate.RepoOut None first (settling_out i.fate (ap (λ f. alike f fate.Matched) h))
settled_effect st d i return r h = effect_leg st d i fate.RepoBack i.cause return (settling_back i.fate (ap (λ f. alike f fate.RepoOut) h.0))

try_effect : (st : Setting) (d : ℕ) (bs : List Blocking) (a : Amounts) (i : Instruction)
    → Effect (i ∷ []) (tried i (try st d bs a i) ∷ []) (try_moves st d i (try st d bs a i))
try_effect st d bs a i =
    try_both st d bs a i (λ t. Effect (i ∷ []) (tried i t ∷ []) (try_moves st d i t))
    (λ _ _. effect_none (i ∷ []))
    (λ _ _ _. effect_one i i.fate (Some NominalShort) (quiet_none i.fate))
    (λ _ _ _ _. effect_one i i.fate (Some MoneyShort) (quiet_none i.fate))
    (λ l h _ _. settled_effect st d i l i.order.return_date h)

pub round_effect : (st : Setting) (d : ℕ) (bs : List Blocking) (is : List Instruction) (a : Amounts)
    → Effect is (rounds st d bs is a).0 (rounds st d bs is a).1
round_effect st d bs [] a = effect_none []
round_effect st d bs (i ∷ is) a =
    let t = try st d bs a i in
    let b = afters (try_moves st d i t) a in
    effect_append (i ∷ []) (tried i t ∷ []) is (rounds st d bs is b).0 (try_moves st d i t) (rounds st d bs is b).1
    (try_effect st d bs a i)
    (round_effect st d bs is b)
