-- What the search does not find alone.
use Rattle.std.proofs.Common.{◌≡◌, ◌∷◌, take, length, sym, ap, ◌∙◌, arith}
use Rattle.dayfile.specs.Text.{parts_left}
use Rattle.dayfile.specs.Looks.{look_of, numbered, next_number}
use Rattle.dayfile.proofs.Cuts.{fields_cut}
use Rattle.dayfile.proofs.fields.parts.FieldsIterator.next.Goals as goal

pub number_behind-self-requires : goal.number_behind-self-requires
number_behind-self-requires c =
    let cut = ap parts_left c.in_ok-rest.was ∙ fields_cut c.in_ok-rest.rest.now c.end_of-end.result c.get-self.result c.end_of-end.ensures.value c.get-self.ensures.lookup in
    omega (arith, c.args.self.now.few, ap length cut)

pub invariant_of-self : goal.invariant_of-self
invariant_of-self c =
    let cut = ap parts_left c.in_ok-rest.was ∙ fields_cut c.in_ok-rest.rest.now c.end_of-end.result c.get-self.result c.end_of-end.ensures.value c.get-self.ensures.lookup in
    record { few = omega (arith, c.args.self.now.few, ap length cut, c.number_behind-self.ensures) }

pub returns-clause-steps : goal.returns-clause-steps
returns-clause-steps c =
    let n = c.args.self.now.number in
    let m = c.number_behind-self.result in
    let cut = ap parts_left c.in_ok-rest.was ∙ fields_cut c.in_ok-rest.rest.now c.end_of-end.result c.get-self.result c.end_of-end.ensures.value c.get-self.ensures.lookup in
    let more : next_number n ≡ m = omega (arith, c.args.self.now.few, ap length cut, c.number_behind-self.ensures) in
    let behind = parts_left c.get-self.result in
    ap (numbered (next_number n)) cut
    ∙ ap (λ k. (k, look_of (take c.end_of-end.result c.in_ok-rest.rest.now)) ∷ numbered (next_number k) behind) more
    ∙ ap (λ l. (m, l) ∷ numbered (next_number m) behind) (sym c.from.ensures)

pub returns-clause-goes : goal.returns-clause-goes
returns-clause-goes c =
    let s = ap length (returns-clause-steps c) in
    record { on = λ f. (tt, tt, omega (arith, s)); keeps = tt; rests = λ f. tt }
