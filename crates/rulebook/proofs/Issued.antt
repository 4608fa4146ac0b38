-- An issue's outstanding nominal is what was placed less what was redeemed.
use Rattle.std.proofs.Common.{◌≡◌, ℕ, ◌+◌, List}
use Rattle.rulebook.specs.declared.Call.{Call}
use Rattle.rulebook.specs.Words.{total, Start, outstanding}
use Rattle.rulebook.specs.Journal.{reads, setting_of, history}
use Rattle.rulebook.specs.Laws.{Sensible, places, redeems}
use Rattle.rulebook.proofs.Quantities.{kept}

pub issued_holds : (s : Start) → Sensible s → (cs : List Call) → (i : ℕ)
    → outstanding (setting_of s) (reads s.funds (history s cs).journal) i + total (redeems i) (history s cs).journal
    ≡ total (places i) (history s cs).journal
issued_holds s w cs = (kept s w cs).issued
