-- What the search does not find alone.
use Rattle.std.proofs.Common.{rules, ◌≤◌, All, length, vec_items, arith}
use Rattle.std.proofs.lemmas.List.Sums.{sum_by-le}
use Rattle.money.proofs.ledger.Ledger.new.Goals as goal

pub invariant_of-result : goal.invariant_of-result
invariant_of-result c =
    let bs = vec_items c.args.balances in
    let low : All (λ b. b ≤ 1000000000000000) bs = search rules in
    let few : length bs ≤ 32 = search rules in
    record { some = search rules; few = search rules; total = omega (arith, sum_by-le (λ b. b) 1000000000000000 bs low) }
