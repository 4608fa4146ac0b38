-- What a payment does to the funds of any money side, and the laws that it keeps.
use Rattle.std.specs.Prelude.{◌≡◌, ℕ, ◌+◌, ◌<◌, ◌≤◌, true, ◌⊎◌, length, Ok, Err, sum, Result, ◌≢◌, slice_index}
use Rattle.refusals.specs.declared.Refusal.{Refusal}
use Rattle.refusals.specs.declared.Refusal.TheVariants.{MoneyShort}
use Rattle.money.specs.declared.transfers.Payment.{Payment}
use Rattle.money.specs.Funds.{Funds, payable, account, balance}

-- a payment within one account: payer and payee have the same
abbrev pub Within : Payment → Funds → Type 0
Within o f = account f o.payer ≡ account f o.payee

-- the laws of a payment that finds the funds f, leaves the funds g and is answered r
pub record Lawful (o : Payment) (f g : Funds) (r : Result Unit Refusal) : Type 0 where
  -- the sum of all balances never changes, nor does anybody's account
  pub conserved : sum g.balances ≡ sum f.balances
  pub fixed : g.accounts ≡ f.accounts
  -- no third account's balance changes
  pub spared : (a : ℕ) → (a ≢ account f o.payer) → (a ≢ account f o.payee) → slice_index g.balances a ≡ slice_index f.balances a
  -- a refused payment changes nothing, and neither does one within one account
  pub refused : (e : Refusal) → r ≡ Err e → g ≡ f
  pub inside : Within o f → g ≡ f
  -- an accepted payment between two accounts: the payer had the amount and gave it, the payee got it
  pub given : r ≡ Ok tt → (Within o f → ⊥) → balance g o.payer + o.amount ≡ balance f o.payer
  pub got : r ≡ Ok tt → (Within o f → ⊥) → balance g o.payee ≡ balance f o.payee + o.amount
  -- money is short only between two accounts, where the payer's balance is below the amount
  pub short : r ≡ Err MoneyShort → (Within o f → ⊥) × (balance f o.payer < o.amount)
  -- known participants, an amount within the limits, and one account or money enough: it is accepted
  pub accepted : o.payer < length f.accounts → o.payee < length f.accounts → payable o.amount ≡ true → Within o f ⊎ (o.amount ≤ balance f o.payer) → r ≡ Ok tt

-- after any number of payments all the money and everybody's account are as before
pub record Conserves (f g : Funds) : Type 0 where
  pub conserved : sum g.balances ≡ sum f.balances
  pub fixed : g.accounts ≡ f.accounts
