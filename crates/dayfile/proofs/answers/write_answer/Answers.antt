-- What the search does not find alone.
use Rattle.std.proofs.Common.{◌≤◌, length, length-append, decimal, ap, arith}
use Rattle.std.proofs.lemmas.List.{length_push}
use Rattle.dayfile.proofs.Slips.{short}
use Rattle.dayfile.proofs.answers.write_answer.Goals as goal
use Rattle.dayfile.proofs.answers.write_answer.Goals.{After-put}

-- the line's number and a comma take at most 21 bytes
begun : (c : After-put) → length c.put.new.self ≤ 21
begun c =
    let n = c.args.number in
    omega (arith, short n (omega arith), ap length c.new-slip.ensures, ap length c.put_number.ensures, length-append c.new-slip.result (decimal n), ap length c.put.ensures, length_push c.put_number.new.self 44)

pub put-requires-2 : goal.put-requires-2
put-requires-2 c = omega (arith, begun (goal.at.put-requires-2 c).After-put)

pub put_answer-requires : goal.put_answer-requires
put_answer-requires c =
    omega (arith, begun (goal.at.put_answer-requires c).After-put, ap length c.put-2.ensures, length_push c.put.new.self c.letter_of.result)

pub put-requires-3 : goal.put-requires-3
put-requires-3 c =
    omega (arith, begun (goal.at.put-requires-3 c).After-put, ap length c.put-2.ensures, length_push c.put.new.self c.letter_of.result, c.put_answer.ensures.size)
