-- All the money that there is.
use Rattle.std.specs.Prelude.{ℕ, sum}
use Rattle.money.specs.Funds.{Funds}

-- the sum of all balances
abbrev pub whole : Funds → ℕ
whole f = sum f.balances
