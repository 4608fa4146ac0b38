-- Who pays placements and redemptions.
use Rattle.std.proofs.Common.{ℕ, List, [], ◌∷◌, refl}
use Rattle.std.specs.List.{AllByRecursion}
use Rattle.std.proofs.ByRecursion.{All-append}
use Rattle.rulebook.specs.declared.Call.{Call}
use Rattle.rulebook.specs.Words.{Movement, Amounts, after, Blocking, Instruction, Setting, Start}
use Rattle.rulebook.specs.Checks.{today}
use Rattle.rulebook.specs.Rules.{moves_by}
use Rattle.rulebook.specs.Journal.{Past, setting_of, reads, outcome, step, new_past, history_from}
use Rattle.rulebook.specs.Laws.{MinistrySide, MinistryPaid}
use Rattle.rulebook.proofs.Covered.{Along, LegsKeep, moves_along}

-- what holds along all movements at whatever amounts holds of each
pub along_all : (P : Movement → Type 0) (vs : List Movement) (a : Amounts) → Along (λ _. P) vs a → AllByRecursion P vs
along_all P [] a h = tt
along_all P (v ∷ vs) a h = (h.0, along_all P vs (after v a) h.1)

legs_free : (st : Setting) (d : ℕ) (bs : List Blocking) (is : List Instruction)
    → AllByRecursion (LegsKeep (λ _. MinistrySide st) st d bs) is
legs_free st d bs [] = tt
legs_free st d bs (i ∷ is) = (λ a e n m. tt, legs_free st d bs is)

one_call : (s : Start) (h : Past) (c : Call) → AllByRecursion (MinistrySide (setting_of s)) (moves_by (outcome s h c))
one_call s h c =
    let st = setting_of s in
    let a = reads s.funds h.journal in
    let k = h.book in
    along_all (MinistrySide st) (moves_by (outcome s h c)) a
    (moves_along (λ _. MinistrySide st) st a k c (λ o _. (o.price, refl))
    (legs_free st (today k) k.blockings.standing k.instructions.standing)
    (λ i p _. refl))

paid_from : (s : Start) (h : Past) (cs : List Call)
    → AllByRecursion (MinistrySide (setting_of s)) h.journal → AllByRecursion (MinistrySide (setting_of s)) (history_from s h cs).journal
paid_from s h [] a = a
paid_from s h (c ∷ cs) a =
    paid_from s (step s h c) cs (All-append (MinistrySide (setting_of s)) h.journal (moves_by (outcome s h c)) a (one_call s h c))

pub ministry_paid : MinistryPaid
ministry_paid s cs = paid_from s new_past cs tt
