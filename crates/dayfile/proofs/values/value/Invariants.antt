use Rattle.std.proofs.Common.{◌≡◌, drop}
use Rattle.dayfile.specs.Values.{value, value_from}
use Rattle.dayfile.proofs.values.value.Given as goal

abbrev pub invariant-loop-b : goal.invariant-loop-b
invariant-loop-b l = value_from l.number (drop l.b-index l.bytes) ≡ value l.bytes
