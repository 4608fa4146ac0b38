-- The two whole runs, by computation.
use Rattle.std.proofs.Common.{refl}
use Rattle.rulebook.specs.Runs.{RunsWhole}

pub runs_whole : RunsWhole
runs_whole = record { day_by_journal = refl; day_in_place = refl; day_balances = refl; week_by_journal = refl; week_in_place = refl }
