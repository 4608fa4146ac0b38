-- Each leg in the journal is one accepted instruction's, and each return has its first leg before it.
use Rattle.std.proofs.Common.{◌≡◌, List, []}
use Rattle.std.specs.List.{AllByRecursion}
use Rattle.std.proofs.ByRecursion.{All-weaker}
use Rattle.rulebook.specs.declared.Call.{Call}
use Rattle.rulebook.specs.Words.{one_if, total, Start}
use Rattle.rulebook.specs.Journal.{setting_of, accepted, history}
use Rattle.rulebook.specs.Laws.{Sensible, carries_out, is_settlement, ReturnsBehind}
use Rattle.rulebook.proofs.Course.{kept}

pub returns_holds : (s : Start) → Sensible s → (cs : List Call) → ReturnsBehind [] (history s cs).journal
returns_holds s w cs = (kept s w cs).returns

pub legs_holds : (s : Start) → Sensible s → (cs : List Call)
    → AllByRecursion
    (λ v. total (λ i. one_if (carries_out (setting_of s) v i)) (accepted (history s cs)) ≡ one_if (is_settlement v))
    (history s cs).journal
legs_holds s w cs = All-weaker _ _ (λ _ p. p.1) (history s cs).journal (kept s w cs).proper
