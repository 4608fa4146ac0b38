-- What the search does not find alone.
use Rattle.std.proofs.Common.{ap, ◌∙◌}
use Rattle.dayfile.specs.Readers.{fields_left}
use Rattle.dayfile.specs.Turns.{call_in_turn}
use Rattle.dayfile.proofs.Turns.{line_in_turn}
use Rattle.dayfile.proofs.calls.read_call.Goals as goal

pub returns-clause-call : goal.returns-clause-call
returns-clause-call c =
    let k = c.in_ok-kind.kind in
    c.call.ensures
    ∙ ap (call_in_turn k) c.kind.ensures.rest
    ∙ line_in_turn c.args.line.now (fields_left c.in_ok-fields.fields) k c.in_ok-fields.ensures.fields c.in_ok-kind.ensures.kind
