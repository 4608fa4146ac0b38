-- What the search does not find alone.
use Rattle.std.proofs.Common.{rules, ◌∙◌}
use borrow.Author.Tests.{tests}
use Rattle.std.proofs.lemmas.Iterator.{YieldsList-from_slice}
use Rattle.std.proofs.lemmas.Iterator.Consumers.{YieldsList-from_enumerate}
use Rattle.calendar.specs.Days.{first_from}
use Rattle.calendar.specs.Masks.{days_in}
use Rattle.calendar.proofs.Searches.{found_first}
use Rattle.calendar.proofs.Walks.{months_found}
use Rattle.calendar.proofs.years.MonthMasks.first_from.Goals as goal

pub returns : goal.returns
returns c =
    let m = c.args.self.now in
    found_first _ (λ p. (p.0, p.1.now)) _ (λ p. first_from c.args.from (days_in m.first p.0 p.1)) _ (λ x o q k. search (rules, tests)) _ _ _ _ (YieldsList-from_enumerate (YieldsList-from_slice m.masks.items cc) cc) c.find_map.ensures.ran c.find_map.ensures.runs
    ∙ months_found m.first c.args.from 0 m.masks.items
