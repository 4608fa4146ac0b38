-- A ledger: one balance for each participant, whose account has the participant's number.
use Rattle.std.specs.Prelude.{◌≡◌, ℕ, ◌≤◌, List, All, length, Ok, Err, vec_items, Result}
use Rattle.std.specs.List.{range_with_len}
use Rattle.refusals.specs.declared.Refusal.{Refusal}
use Rattle.refusals.specs.declared.Refusal.TheVariants.{LedgerLimits}
use Rattle.money.specs.declared.ledger.Ledger.{Ledger}
use Rattle.money.specs.Funds.{Funds}

-- the funds of a ledger with these balances: the accounts are 0, 1, ..
abbrev pub of_ledger : List ℕ → Funds
of_ledger bs = record { accounts = range_with_len 0 (length bs); balances = bs }

-- what a ledger means
abbrev pub ledger_funds : Ledger → Funds
ledger_funds l = of_ledger (vec_items l.balances)

-- the balances that may open a ledger: 2 to 32, none above 10^15
abbrev pub Opens : List ℕ → Type 0
Opens bs = (2 ≤ length bs) × (length bs ≤ 32) × All (λ b. b ≤ 1000000000000000) bs

-- a ledger opens exactly if its balances may open one, and then has just these
abbrev pub Opened : List ℕ → Result Ledger Refusal → Type 0
Opened bs (Ok l) = Opens bs × (ledger_funds l ≡ of_ledger bs)
Opened bs (Err e) = (Opens bs → ⊥) × (e ≡ LedgerLimits)
