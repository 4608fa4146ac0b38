-- What the search does not find alone: it does not look behind what a register shows.
use Rattle.std.proofs.Common.{subst}
use Rattle.rulebook.specs.States.{date_of}
use Rattle.register.specs.Shows.{Stands}
use Rattle.register.proofs.Opening.{stood}
use Rattle.register.proofs.register.Register.stands.Goals as goal

pub returns : goal.returns
returns c =
    let r = c.self.inside in
    subst Stands c.self.view_is (stood r.calendar r.state (date_of r.day) c.self.invariant.0)
