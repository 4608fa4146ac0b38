use Rattle.rulebook.proofs.Limits.{places_limited}
use Rattle.rulebook.proofs.theorems.places_limited.Goals as goal

pub returns : goal.returns
returns c = places_limited
