-- What the search does not find alone: the rows in place of the agents that they name.
use Rattle.std.proofs.Common.{rules, ◌<◌, All, length, vec_items, refl}
use Rattle.money.proofs.Tables.{table_made}
use Rattle.money.proofs.agents.AgentTable.new.Goals as goal

pub returns : goal.returns
returns g c =
    let f = g.M.Money.meaning c.args.below in
    let rows = vec_items c.args.rows in
    let named : All (λ row. row < length f.accounts) rows = search rules in
    ((search rules, search rules, named), refl, table_made f rows named)
