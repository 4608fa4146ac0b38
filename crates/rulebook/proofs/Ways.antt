-- The ways of a try, of closing, of cancelling and of an arrival, each said once.
use Rattle.std.proofs.Common.{◌≡◌, ℕ, ◌<◌, ◌≤◌, Bool, true, false, cond, ◌&&◌, ◌||◌, eqb, leb, List, [], ◌∷◌, ◌++◌, Some, None, Option, arith}
use Rattle.std.proofs.lemmas.Bool.{cond_both, and_parts, leb-true, leb-false}
use Rattle.refusals.specs.declared.Refusal.TheVariants.{NominalShort, MoneyShort, NoPartner}
use Rattle.rulebook.specs.declared.Fate.{Fate}
use Rattle.rulebook.specs.declared.Fate.TheVariants as fate
use Rattle.rulebook.specs.Words.{Leg, first, return, Amounts, Blocking, Instruction, turned, alike, Setting, free}
use Rattle.rulebook.specs.Checks.{affords, is_inside, sender_of, may_cancel}
use Rattle.rulebook.specs.Matching.{pair_up, met, admit, arrive}
use Rattle.rulebook.specs.Rounds.{giver, leg_payment, is_day, due, Try, idle, waits, settles, try_leg, try, ended}

-- kept, unmatched or matched: neither settled, refused, cancelled nor joined
abbrev pub is_waiting : Fate → Bool
is_waiting f = alike f fate.Kept || (alike f fate.Unmatched || alike f fate.Matched)

pub is_matched : (f : Fate) → alike f fate.Matched ≡ true → f ≡ fate.Matched
is_matched f e = grind arith

pub is_out : (f : Fate) → alike f fate.RepoOut ≡ true → f ≡ fate.RepoOut
is_out f e = grind arith

-- the leg is the one that the fate waits for
abbrev pub Ready : ℕ → Instruction → Leg → Type 0
Ready d i first = i.fate ≡ fate.Matched
Ready d i return = (i.fate ≡ fate.RepoOut) × (is_day d i.order.return_date ≡ true)

-- nothing is due, or a leg is
due_both : (d : ℕ) (i : Instruction) (P : Option Leg → Type 0)
    → (alike i.fate fate.Matched ≡ false → alike i.fate fate.RepoOut && is_day d i.order.return_date ≡ false → P None)
    → ((e : Leg) → Ready d i e → P (Some e)) → P (due d i)
due_both d i P n s =
    cond_both
    (alike i.fate fate.Matched)
    (Some first)
    (cond (alike i.fate fate.RepoOut && is_day d i.order.return_date) (Some return) None)
    P
    (λ m. s first (is_matched i.fate m))
    (λ m. cond_both
    (alike i.fate fate.RepoOut && is_day d i.order.return_date)
    (Some return)
    None
    P
    (λ o. let h = and_parts (alike i.fate fate.RepoOut) _ o in s return (is_out i.fate h.0, h.1))
    (λ o. n m o))

-- a try: no leg is due, its nominal is short, its money is short, or it settles
module _ (st : Setting) (d : ℕ) (bs : List Blocking) (a : Amounts) (i : Instruction) (P : Try → Type 0)
    (no_leg : alike i.fate fate.Matched ≡ false → alike i.fate fate.RepoOut && is_day d i.order.return_date ≡ false → P idle)
    (no_nominal : (e : Leg) → Ready d i e → free a bs (giver i.order e) < i.order.nominal → P (waits NominalShort))
    (no_money : (e : Leg) → Ready d i e → i.order.nominal ≤ free a bs (giver i.order e)
    → affords a (leg_payment st i.order e) ≡ false → P (waits MoneyShort))
    (done : (e : Leg) → Ready d i e → i.order.nominal ≤ free a bs (giver i.order e)
    → affords a (leg_payment st i.order e) ≡ true → P (settles e)) where
  pub try_both : P (try st d bs a i)
  try_both =
      due_both
      d
      i
      (λ l. P (try_leg st a bs i.order l))
      no_leg
      (λ e r. cond_both
      (leb i.order.nominal (free a bs (giver i.order e)))
      (cond (affords a (leg_payment st i.order e)) (settles e) (waits MoneyShort))
      (waits NominalShort)
      P
      (λ n. let l = leb-true i.order.nominal (free a bs (giver i.order e)) n in
      cond_both (affords a (leg_payment st i.order e)) (settles e) (waits MoneyShort) P (λ m. done e r l m) (λ m. no_money e r l m))
      (λ n. no_nominal e r (leb-false i.order.nominal (free a bs (giver i.order e)) n)))

-- closing refuses an unmatched one, a matched one, and a return that is due; the rest stays
pub ended_both : (d : ℕ) (i : Instruction) (P : Instruction → Type 0)
    → (alike i.fate fate.Unmatched ≡ true → P (turned i fate.Refused (Some NoPartner)))
    → (alike i.fate fate.Matched ≡ true → P (turned i fate.Refused i.cause))
    → (alike i.fate fate.RepoOut && is_day d i.order.return_date ≡ true → P (turned i fate.ReturnRefused i.cause))
    → (alike i.fate fate.Unmatched ≡ false → alike i.fate fate.Matched ≡ false
    → alike i.fate fate.RepoOut && is_day d i.order.return_date ≡ false → P i)
    → P (ended d i)
ended_both d i P un ma re other =
    cond_both
    (alike i.fate fate.Unmatched)
    (turned i fate.Refused (Some NoPartner))
    (cond (alike i.fate fate.Matched) (turned i fate.Refused i.cause) last)
    P
    un
    (λ u. cond_both (alike i.fate fate.Matched) (turned i fate.Refused i.cause) last P ma
    (λ m. cond_both (alike i.fate fate.RepoOut && is_day d i.order.return_date) (turned i fate.ReturnRefused i.cause) i P re
    (λ r. other u m r)))
  where
    last : Instruction
    last = cond (alike i.fate fate.RepoOut && is_day d i.order.return_date) (turned i fate.ReturnRefused i.cause) i

-- only a kept or an unmatched one is cancelled
pub cancel_both : (p n : ℕ) (i : Instruction) (P : Instruction → Type 0)
    → (alike i.fate fate.Kept || alike i.fate fate.Unmatched ≡ true → P (turned i fate.Cancelled i.cause))
    → P i → P (cond (may_cancel p n i) (turned i fate.Cancelled i.cause) i)
cancel_both p n i P gone stays =
    cond_both
    (may_cancel p n i)
    (turned i fate.Cancelled i.cause)
    i
    P
    (λ e. gone (and_parts
    (eqb i.serial n && eqb (sender_of i.order i.order.sender) p)
    (alike i.fate fate.Kept || alike i.fate fate.Unmatched)
    e
    ).1)
    (λ _. stays)

-- one that arrives is matched alone, seeks its partner, or is kept until its value date
pub arrive_both : (d : ℕ) (xs : List Instruction) (i : Instruction) (P : List Instruction → Type 0)
    → (i.order.value_date.number ≤ d → is_inside i.order ≡ true → P (xs ++ turned i fate.Matched None ∷ []))
    → (i.order.value_date.number ≤ d → is_inside i.order ≡ false
    → P ((pair_up i.order xs).0 ++ met i (pair_up i.order xs).1 ∷ []))
    → (d < i.order.value_date.number → P (xs ++ turned i fate.Kept None ∷ []))
    → P (arrive d xs i)
arrive_both d xs i P alone seeks later =
    cond_both (leb i.order.value_date.number d) (admit xs i) (xs ++ turned i fate.Kept None ∷ []) P
    (λ e. let l = leb-true i.order.value_date.number d e in
    cond_both
    (is_inside i.order)
    (xs ++ turned i fate.Matched None ∷ [])
    ((pair_up i.order xs).0 ++ met i (pair_up i.order xs).1 ∷ [])
    P
    (alone l)
    (seeks l))
    (λ e. later (leb-false i.order.value_date.number d e))
