-- The journal's laws and the rules' own, whole, and what they say of every call.
use Rattle.std.proofs.Common.{List, ap}
use Rattle.rulebook.specs.Answers.{Reply}
use Rattle.rulebook.specs.Journal.{View, run, first_view}
use Rattle.rulebook.specs.Works.{ObeyingWorks, RunsWork}
use Rattle.rulebook.specs.Laws.{JournalLawful, RulesHold}
use Rattle.rulebook.proofs.Agreement.{journal_agrees}
use Rattle.rulebook.proofs.Working.{works, worked}
use Rattle.rulebook.proofs.Quantities.{quantities}
use Rattle.rulebook.proofs.Endings.{ended}
use Rattle.rulebook.proofs.Partners.{partner_holds, joined_once_holds}
use Rattle.rulebook.proofs.Issued.{issued_holds}
use Rattle.rulebook.proofs.Legs.{returns_holds, legs_holds}
use Rattle.rulebook.proofs.Short.{refused_short_holds}

pub journal_lawful : JournalLawful
journal_lawful s sense cs =
    let q = quantities s sense cs in
    let e = ended s sense cs in
    record {
      nominal = q.nominal;
      covered = q.covered;
      limited = q.limited;
      bounded = q.bounded;
      balance = q.balance;
      conserved = q.conserved;
      once = e.once;
      remembered = e.remembered;
      never_two = e.never_two;
      decided = e.decided;
      return_never_two = e.return_never_two;
      return_decided = e.return_decided;
      stays = e.stays;
    }

pub rules_hold : RulesHold
rules_hold s sense cs =
    record {
      orderly =
          record {
            partner = partner_holds s sense cs;
            joined_once = joined_once_holds s sense cs;
            legs = legs_holds s sense cs;
            returns = returns_holds s sense cs;
            issued = issued_holds s sense cs;
          };
      refused_short = refused_short_holds s sense cs;
    }

pub obeying_works : ObeyingWorks
obeying_works before after c a e = works journal_lawful before after c a e

pub runs_work : RunsWork
runs_work s sense cs =
    let e = journal_agrees s cs in
    worked
    journal_lawful
    s
    cs
    (run (first_view s) cs).0
    (run (first_view s) cs).1
    (ap (λ (x : View × List Reply). x.1) e)
    record { sensible = sense; shows = ap (λ (x : View × List Reply). x.0) e }
