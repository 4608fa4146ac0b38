-- An agent table: for each participant an agent among the participants of the money side below.
use Rattle.std.specs.Prelude.{◌≡◌, ℕ, ◌<◌, ◌≤◌, cond, List, All, map, length, Ok, Err, vec_items, Result}
use Rattle.refusals.specs.declared.Refusal.{Refusal}
use Rattle.refusals.specs.declared.Refusal.TheVariants.{AgentTableLimits}
use Rattle.money.specs.declared.agents.AgentTable.{AgentTable}
use Rattle.money.specs.Funds.{Funds, account, known}

-- the funds seen through agents: each participant has its agent's account below, and the balances are those below
abbrev pub of_agents : Funds → List ℕ → Funds
of_agents f agents = record { accounts = map (account f) agents; balances = f.balances }

-- the agent that a row names; a row that names nobody below reads as participant 0
abbrev pub agent : Funds → ℕ → ℕ
agent f row = cond (known f row) row 0

-- the rows that may stand on a money side: 2 to 32, each naming a participant below
abbrev pub Stands : Funds → List ℕ → Type 0
Stands f rows = (2 ≤ length rows) × (length rows ≤ 32) × All (λ row. row < length f.accounts) rows

module _ {M : Type 0} (meaning : M → Funds) where
  -- what a table means
  abbrev pub table_funds : AgentTable M → Funds
  table_funds t = of_agents (meaning t.below) (map (agent (meaning t.below)) (vec_items t.agents.rows))

  -- a table stands exactly if its rows may, and then its agents are just these; else the money side comes back
  abbrev pub Tabled : M → List ℕ → Result (AgentTable M) (Refusal × M) → Type 0
  Tabled m rows (Ok t) = Stands (meaning m) rows × (t.below ≡ m) × (table_funds t ≡ of_agents (meaning m) rows)
  Tabled m rows (Err e) = (Stands (meaning m) rows → ⊥) × (e.0 ≡ AgentTableLimits) × (e.1 ≡ m)
