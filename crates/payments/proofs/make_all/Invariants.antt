use Rattle.std.proofs.Common.{◌≡◌}
use Rattle.payments.specs.Sums.{whole}
use Rattle.payments.proofs.make_all.Given as goal

abbrev pub invariant-loop-order : goal.invariant-loop-order
invariant-loop-order g l = whole (g.M.Money.meaning l.money) ≡ whole (g.M.Money.meaning l.initial.money)
