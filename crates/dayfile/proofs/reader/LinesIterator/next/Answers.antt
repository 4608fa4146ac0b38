-- What the search does not find alone.
use Rattle.std.proofs.Common.{◌≡◌, ◌<◌, ◌+◌, ◌∷◌, take, drop, length, sym, ap, ◌∙◌, arith, false-eqb}
use Rattle.std.proofs.lemmas.List.{drop-drop, take_rest}
use Rattle.dayfile.specs.Text.{lines}
use Rattle.dayfile.proofs.Cuts.{lines_cut}
use Rattle.dayfile.proofs.reader.LinesIterator.next.Goals as goal

pub returns-clause-steps : goal.returns-clause-steps
returns-clause-steps c =
    let file = c.self.inside.file.now in
    let place = c.self.inside.place in
    let rest = c.in_ok-rest.rest.now in
    let end = c.line_end-end.result in
    let some : 0 < length rest = omega (arith, false-eqb _ 0 c.if-is_empty.ensures) in
    let cut : lines rest ≡ take end rest ∷ lines (drop (end + 1) rest) = rw (c.line_end-end.ensures.value) (lines_cut rest some) in
    let at : rest ≡ drop place file = c.in_ok-rest.ensures.lookup.0.2 ∙ take_rest file place in
    let behind : drop (end + 1) rest ≡ drop (place + (end + 1)) file = ap (drop (end + 1)) at ∙ drop-drop (end + 1) place file in
    ap lines (sym c.self.view_is) ∙ ap lines (sym at) ∙ cut ∙ ap (λ l. take end rest ∷ lines l) behind

pub returns-clause-goes : goal.returns-clause-goes
returns-clause-goes c =
    let s = ap length (returns-clause-steps c) in
    record { on = λ f. (tt, tt, omega (arith, s)); keeps = tt; rests = λ f. tt }
