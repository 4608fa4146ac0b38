-- What a ledger answers, by its balances alone.
use Rattle.std.proofs.Common.{◌≡◌, ℕ, ◌<◌, Bool, true, false, cond, ◌&&◌, eqb, ltb, leb, List, length, get_or, Ok, Err, refl, ap, arith}
use Rattle.std.proofs.lemmas.Bool.{and_parts, ltb-true}
use Rattle.std.proofs.lemmas.Bool.Decides.{nat_tests}
use Rattle.std.proofs.lemmas.List.FromFn.{length-range_with_len, get_or-range_with_len}
use Rattle.refusals.specs.declared.Refusal.TheVariants.{UnknownParticipant, AmountLimits, MoneyShort}
use Rattle.money.specs.Funds.{payment, covered, payable, shifted}
use Rattle.money.specs.Ledger.{of_ledger}
use Rattle.money.proofs.Shifts.{length_shifted}

cond_in : {A : Type 0} (b : Bool) (x z y : A) → (b ≡ true → x ≡ z) → cond b x y ≡ cond b z y
cond_in true x z y h = h refl
cond_in false x z y h = refl

module _ (bs : List ℕ) where
  pub ledger_length : length (of_ledger bs).accounts ≡ length bs
  ledger_length = length-range_with_len 0 (length bs)

  -- a participant's account has its number
  pub ledger_account : (p : ℕ) → p < length bs → get_or (of_ledger bs).accounts p 0 ≡ p
  ledger_account p h = omega (arith, get_or-range_with_len 0 (length bs) p 0 h)

  -- how a payment on a ledger between known participants ends
  pub ledger_covered : (payer payee amount : ℕ) → payer < length bs → payee < length bs
      → covered (of_ledger bs) payer payee amount
      ≡ cond (eqb payer payee) (Ok (of_ledger bs)) (cond (leb amount (get_or bs payer 0)) (Ok (of_ledger (shifted bs payer payee amount))) (Err MoneyShort))
  ledger_covered payer payee amount hp hq =
      let l = length_shifted bs payer payee amount in
      let x = ledger_account payer hp in
      let y = ledger_account payee hq in
      rw (l, x, y) refl

  -- how any payment on a ledger ends
  pub ledger_payment : (payer payee amount : ℕ) → payment (of_ledger bs) payer payee amount
      ≡ cond (ltb payer (length bs) && ltb payee (length bs))
      (cond (payable amount) (cond (eqb payer payee) (Ok (of_ledger bs)) (cond (leb amount (get_or bs payer 0)) (Ok (of_ledger (shifted bs payer payee amount))) (Err MoneyShort))) (Err AmountLimits))
      (Err UnknownParticipant)
  unfolding payment
  ledger_payment payer payee amount =
      rw ledger_length (
      cond_in (ltb payer (length bs) && ltb payee (length bs)) _ _ _ (λ k.
      let b = and_parts (ltb payer (length bs)) (ltb payee (length bs)) k in
      ap (λ z. cond (payable amount) z (Err AmountLimits)) (ledger_covered payer payee amount (ltb-true payer (length bs) b.0) (ltb-true payee (length bs) b.1)))
      )

-- a ledger's answers by its balances
pub ruleset by_balances = (nat_tests, ledger_length, ledger_account, ledger_payment)
