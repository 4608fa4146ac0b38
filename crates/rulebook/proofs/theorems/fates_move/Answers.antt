use Rattle.rulebook.proofs.Moving.{fates_move}
use Rattle.rulebook.proofs.theorems.fates_move.Goals as goal

pub returns : goal.returns
returns c = fates_move
