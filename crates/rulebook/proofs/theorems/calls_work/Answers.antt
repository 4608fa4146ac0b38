use Rattle.rulebook.proofs.Whole.{obeying_works, runs_work}
use Rattle.rulebook.proofs.theorems.calls_work.Goals as goal

pub returns : goal.returns
returns c = record { one = obeying_works; all = runs_work }
