-- Lines worked one after the other, and the two spellings of a file's end.
use Rattle.std.proofs.Common.{◌≡◌, ℕ, suc, ◌≤◌, cond, eqb, leb, List, [], ◌∷◌, ◌++◌, length, Ok, Err, Result, sym, ap, ◌∙◌, arith, length-append}
use Rattle.std.proofs.lemmas.Bool.{cond_both, le-leb}
use Rattle.refusals.specs.declared.Refusal.{Refusal}
use Rattle.refusals.specs.declared.Refusal.TheVariants.{FileTooLong}
use Rattle.register.specs.Shows.{View}
use Rattle.dayfile.specs.Text.{lines, prepend, SameLines}
use Rattle.dayfile.specs.Readers.{file_lines}
use Rattle.dayfile.proofs.Cuts.{prepend_length}
use Rattle.desk.specs.Work.{LineReply, run_lines, by_lines, LastLineCounts}

-- working goes on behind the answers that are there
abbrev pub resumed : View → List LineReply → List (List ℕ) → View × List LineReply
resumed v done ls = ((run_lines v ls).0, done ++ (run_lines v ls).1)

-- a file has at most as many lines as bytes
pub lines_few : (file : List ℕ) → length (lines file) ≤ length file
lines_few [] = omega arith
lines_few (b ∷ bs) =
    let h = lines_few bs in
    let p = prepend_length b (lines bs) in
    cond_both (eqb b 10) ([] ∷ lines bs) (prepend b (lines bs)) (λ ls. length ls ≤ suc (length bs)) (λ _. omega arith) (λ _. omega arith)

pub few_lines : (file : List ℕ) (ls : List (List ℕ)) → Ok ls ≡ file_lines file → length ls ≤ length file
few_lines file ls =
    let P : Result (List (List ℕ)) Refusal → Type 0 = λ r. Ok ls ≡ r → length ls ≤ length file in
    cond_both (leb (length file) 65536) (Ok (lines file)) (Err FileTooLong) P
    (λ _ e. let h : ls ≡ lines file = cc in omega (arith, ap length h, lines_few file))
    (λ _ e. let z : ◌≡◌ {A = ℕ} 0 1 = cc in absurd (omega arith))

within : (file : List ℕ) → length file ≤ 65536 → file_lines file ≡ Ok (lines file)
within file h = ap (λ t. cond t (Ok (lines file)) (Err FileTooLong)) (le-leb (length file) 65536 h)

pub last_line_counts : SameLines → LastLineCounts
last_line_counts same v bytes b ne h =
    let m = length-append bytes (b ∷ 10 ∷ []) in
    let n = length-append bytes (b ∷ []) in
    ap (by_lines v) (within (bytes ++ b ∷ 10 ∷ []) (omega arith) ∙ ap Ok (same bytes b ne) ∙ sym (within (bytes ++ b ∷ []) (omega arith)))
