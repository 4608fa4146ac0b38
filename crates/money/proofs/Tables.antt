-- What an agent table's answers rest on.
use Rattle.std.proofs.Common.{◌≡◌, ℕ, ◌<◌, cond, List, [], ◌∷◌, map, length, refl, ap, ◌∙◌, arith}
use Rattle.std.specs.List.{All}
use Rattle.std.proofs.lemmas.Bool.{lt-ltb}
use Rattle.std.proofs.lemmas.Bool.Decides.{nat_tests}
use Rattle.std.proofs.lemmas.List.Elements.{All-rest}
use Rattle.money.specs.Funds.{Funds}
use Rattle.money.specs.Agents.{agent, of_agents}
use Rattle.money.specs.Soundness.{agent_known, agents_length, agents_account}

-- where all rows name participants below, the agents are the rows
pub agents_named : (f : Funds) (rows : List ℕ) → All (λ row. row < length f.accounts) rows → map (agent f) rows ≡ rows
agents_named f [] a = refl
agents_named f (row ∷ rows) a =
    ap (λ b. cond b row 0 ∷ map (agent f) rows) (lt-ltb row (length f.accounts) (a 0 0 (omega arith)))
    ∙ ap (λ l. row ∷ l) (agents_named f rows (All-rest (λ row. row < length f.accounts) row rows (row ∷ rows) refl a))

-- a table that was made means its rows
pub table_made : (f : Funds) (rows : List ℕ) → All (λ row. row < length f.accounts) rows → of_agents f (map (agent f) rows) ≡ of_agents f rows
table_made f rows a = ap (of_agents f) (agents_named f rows a)

-- a table's answers by its rows
pub ruleset by_rows = (nat_tests, agents_length, agents_account, agent_known)
