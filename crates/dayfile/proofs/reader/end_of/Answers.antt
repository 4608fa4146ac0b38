-- What the search does not find alone.
use Rattle.std.proofs.Common.{length, unwrap_or, ap, ◌∙◌}
use Rattle.dayfile.proofs.Cuts.{before_place}
use Rattle.dayfile.proofs.reader.end_of.Goals as goal

pub returns-clause-value : goal.returns-clause-value
returns-clause-value c =
    let bs = c.args.bytes.now in
    c.unwrap_or.ensures ∙ ap (λ o. unwrap_or o (length bs)) c.first_mark.ensures ∙ before_place c.args.mark bs
