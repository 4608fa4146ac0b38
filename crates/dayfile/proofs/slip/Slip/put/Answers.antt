-- What the search does not find alone.
use Rattle.std.proofs.Common.{rules}
use Rattle.dayfile.proofs.Slips.{zeros_more}
use Rattle.dayfile.proofs.slip.Slip.put.Goals as goal

pub invariant_of-self : goal.invariant_of-self
invariant_of-self c = (search rules, zeros_more 120 c.self.inside.bytes c.self.inside.size c.args.byte c.self.invariant.1)
