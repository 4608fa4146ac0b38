-- Every payment on sound funds is lawful.
use Rattle.std.proofs.Common.{◌≡◌, ℕ, ◌<◌, ◌≤◌, true, false, ◌&&◌, eqb, leb, ◌⊎◌, length, Ok, Err, Result, refl, ⊎_elim, arith}
use Rattle.std.proofs.lemmas.Bool.{cond_both, both_ways, and_parts, and_from, lt-ltb, ltb-true, leb-true, leb-false, eqb-true, eqb-false}
use Rattle.refusals.specs.declared.Refusal.{Refusal}
use Rattle.refusals.specs.declared.Refusal.TheVariants.{UnknownParticipant, AmountLimits, MoneyShort}
use Rattle.money.specs.declared.transfers.Payment.{Payment}
use Rattle.money.specs.Funds.{Funds, Sound, payment, covered, payable, answered, left, known, account, balance, moved, answer_to, funds_after}
use Rattle.money.specs.Laws.{Lawful, Within}
use Rattle.money.proofs.Shifts.{sum_shifted, shifted_from, shifted_to, shifted_third}

module _ (o : Payment) (f : Funds) where
  abbrev Law : Result Funds Refusal → Type 0
  Law z = Lawful o f (left f z) (answered z)

  -- what would have to be accepted
  abbrev Due : Type 0
  Due = (o.payer < length f.accounts) × (o.payee < length f.accounts) × (payable o.amount ≡ true) × (Within o f ⊎ (o.amount ≤ balance f o.payer))

  refusing : (e : Refusal) → (e ≡ MoneyShort → (Within o f → ⊥) × (balance f o.payer < o.amount)) → (Due → ⊥) → Law (Err e)
  refusing e h due = record {
    conserved = refl;
    fixed = refl;
    spared = λ a x y. refl;
    refused = λ d r. refl;
    inside = λ w. refl;
    given = λ r w. cc;
    got = λ r w. cc;
    short = λ r. h (cc);
    accepted = λ p q m l. absurd (due (p, q, m, l));
  }

  staying : Within o f → Law (Ok f)
  staying w = record {
    conserved = refl;
    fixed = refl;
    spared = λ a x y. refl;
    refused = λ d r. refl;
    inside = λ v. refl;
    given = λ r n. absurd (n w);
    got = λ r n. absurd (n w);
    short = λ r. let z : ◌≡◌ {A = ℕ} 0 1 = cc in absurd (omega arith);
    accepted = λ p q m l. refl;
  }

  moving : account f o.payer < length f.balances → account f o.payee < length f.balances → (Within o f → ⊥) → o.amount ≤ balance f o.payer → Law (Ok (moved f (account f o.payer) (account f o.payee) o.amount))
  moving hp hq ne le =
      let bs = f.balances in
      let x = account f o.payer in
      let y = account f o.payee in
      record {
        conserved = sum_shifted bs x y o.amount hp hq ne le;
        fixed = refl;
        spared = shifted_third bs x y o.amount hp hq ne;
        refused = λ d r. cc;
        inside = λ w. absurd (ne w);
        given = λ r n. omega (arith, shifted_from bs x y o.amount hp hq ne);
        got = λ r n. shifted_to bs x y o.amount hp hq ne;
        short = λ r. let z : ◌≡◌ {A = ℕ} 0 1 = cc in absurd (omega arith);
        accepted = λ p q m l. refl;
      }

  unknown_lawful : (known f o.payer && known f o.payee) ≡ false → Law (Err UnknownParticipant)
  unknown_lawful k = refusing UnknownParticipant (λ d. let z : ◌≡◌ {A = ℕ} 0 1 = cc in absurd (omega arith)) (λ due. both_ways _ k (and_from _ _ (lt-ltb _ _ due.0) (lt-ltb _ _ due.1)))

  amount_lawful : payable o.amount ≡ false → Law (Err AmountLimits)
  amount_lawful k = refusing AmountLimits (λ d. let z : ◌≡◌ {A = ℕ} 0 1 = cc in absurd (omega arith)) (λ due. both_ways _ k due.2)

  short_lawful : (Within o f → ⊥) → balance f o.payer < o.amount → Law (Err MoneyShort)
  short_lawful ne lt = refusing MoneyShort (λ _. (ne, lt)) (λ due. ⊎_elim ne (λ l. omega arith) due.3)

  covered_lawful : Sound f → o.payer < length f.accounts → o.payee < length f.accounts → Law (covered f o.payer o.payee o.amount)
  covered_lawful s hp hq =
      cond_both (eqb (account f o.payer) (account f o.payee)) _ _ Law (λ e. staying (eqb-true _ _ e))
      (λ e. cond_both (leb o.amount (balance f o.payer)) _ _ Law (λ l. moving (s.within o.payer hp) (s.within o.payee hq) (eqb-false _ _ e) (leb-true _ _ l)) (λ l. short_lawful (eqb-false _ _ e) (leb-false _ _ l)))

  pub payment_lawful : Sound f → Lawful o f (funds_after f o) (answer_to f o)
  unfolding payment
  payment_lawful s =
      cond_both (known f o.payer && known f o.payee) _ _ Law
      (λ k. let b = and_parts _ _ k in cond_both (payable o.amount) _ _ Law (λ _. covered_lawful s (ltb-true _ _ b.0) (ltb-true _ _ b.1)) amount_lawful)
      unknown_lawful
