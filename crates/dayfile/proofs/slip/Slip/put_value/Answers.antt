-- What the search does not find alone.
use Rattle.std.proofs.Common.{length, length-append, decimal, ap, arith}
use Rattle.std.proofs.lemmas.List.{length_push}
use Rattle.std.proofs.lemmas.Fmt.{length-decimal-le}
use Rattle.dayfile.proofs.slip.Slip.put_value.Goals as goal

pub put_number-requires : goal.put_number-requires
put_number-requires c =
    omega (arith, length-decimal-le 20 c.args.number (omega arith) (omega arith) (omega arith), ap length c.put.ensures, length_push c.args.self.now 44)

pub returns-clause-size : goal.returns-clause-size
returns-clause-size c =
    let n = c.args.number in
    omega (arith, length-decimal-le 20 n (omega arith) (omega arith) (omega arith), ap length c.put.ensures, length_push c.args.self.now 44, ap length c.put_number.ensures, length-append c.put.new.self (decimal n))
