use Rattle.std.proofs.Common.{◌≡◌, ◌+◌, ◌≤◌, length, vec_items, vec_len, vec_capacity}
use Rattle.dayfile.specs.Text.{lines}
use Rattle.desk.specs.Work.{run_lines}
use Rattle.desk.proofs.Files.{resumed}
use Rattle.desk.proofs.work_file.Given as goal

abbrev pub invariant-loop-line : goal.invariant-loop-line
invariant-loop-line l =
    (resumed l.register (vec_items l.answers) (lines l.line-iterator) ≡ run_lines l.initial.register (lines l.initial.line-iterator))
    × (vec_len l.answers + length (lines l.line-iterator) ≤ vec_capacity l.answers)
