-- What the search does not find alone.
use Rattle.std.proofs.Common.{drop, arith}
use Rattle.dayfile.proofs.Figures.{digits_below, digit, value_grows}
use Rattle.dayfile.proofs.values.value.Goals as goal

pub overflow_mul-number : goal.overflow_mul-number
overflow_mul-number c =
    let bs = c.args.bytes.now in
    omega (arith, digits_below bs 16 c.requires.digits c.requires.few, value_grows c.loop-b.number (drop c.loop-b.b-index bs), c.loop-b.invariant)

pub overflow_sub-b : goal.overflow_sub-b
overflow_sub-b c = omega (arith, digit c.args.bytes.now c.loop-b.b-index c.requires.digits c.loop-b-test.true)

pub overflow_add-number : goal.overflow_add-number
overflow_add-number c =
    let bs = c.args.bytes.now in
    omega (arith, digit bs c.loop-b.b-index c.requires.digits c.loop-b-test.true, digits_below bs 16 c.requires.digits c.requires.few, value_grows c.loop-b.number (drop c.loop-b.b-index bs), c.loop-b.invariant)
