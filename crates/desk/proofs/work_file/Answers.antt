-- What the search does not find alone.
use Rattle.std.proofs.Common.{◌≡◌, List, length, ap, arith}
use Rattle.register.specs.Shows.{View}
use Rattle.dayfile.specs.Text.{lines}
use Rattle.dayfile.proofs.Cuts.{same_lines}
use Rattle.desk.specs.Work.{LineReply, LastLineCounts}
use Rattle.desk.proofs.Files.{resumed, few_lines, last_line_counts}
use Rattle.desk.proofs.work_file.Goals as goal

law : LastLineCounts
law = last_line_counts same_lines

pub loop-line-init : goal.loop-line-init
loop-line-init c =
    let made = c.in_ok-answers.ensures in
    let v = c.args.register.now in
    let it = c.into_iter-line-iterator.result in
    let begun : it ≡ c.in_ok-lines.lines = c.into_iter-line-iterator.ensures.into_iter_gives in (
      ap {B = View × List LineReply} (λ done. resumed v done (lines it)) made.items,
      omega (arith, made.len, made.capacity, few_lines c.args.file.now (lines c.in_ok-lines.lines) c.in_ok-lines.ensures.lines, ap (λ r. length (lines r)) begun),
    )
