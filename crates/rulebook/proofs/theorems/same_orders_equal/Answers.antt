use Rattle.rulebook.proofs.Limits.{same_orders_equal}
use Rattle.rulebook.proofs.theorems.same_orders_equal.Goals as goal

pub returns : goal.returns
returns c = same_orders_equal
