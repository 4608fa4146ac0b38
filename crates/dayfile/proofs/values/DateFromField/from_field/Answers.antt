-- What the search does not find alone.
use Rattle.std.proofs.Common.{sym, arith}
use Rattle.dayfile.proofs.Figures.{eight_below}
use Rattle.dayfile.proofs.values.DateFromField.from_field.Goals as goal

pub overflow_cast-result : goal.overflow_cast-result
overflow_cast-result c = omega (arith, eight_below c.in-Date.bytes.now (sym c.if-is_eight.ensures), c.value.ensures)
