-- What the search does not find alone.
use Rattle.std.proofs.Common.{rules, ◌≡◌, ◌+◌, ◌-◌, ◌&&◌, leb, refl, ap, ◌∙◌, arith}
use borrow.Author.Tests.{tests}
use Rattle.std.specs.Option.{option_map}
use Rattle.std.proofs.lemmas.Iterator.{YieldsList-from_range}
use Rattle.std.proofs.lemmas.Iterator.Search.{find_from_yields_List}
use Rattle.calendar.specs.Masks.{is_set}
use Rattle.calendar.proofs.Walks.{day_found}
use Rattle.calendar.proofs.years.months.Month.first_from.Goals as goal

pub returns : goal.returns
returns c =
    let m = c.args.self in
    let whole : m.length + 1 - 1 ≡ m.length = omega arith in
    let found = find_from_yields_List (λ d. is_set m.mask d && leb c.args.from (m.number + d)) _ _ c.find.result c.find.ensures.ran (YieldsList-from_range 1 (m.length + 1) m.length refl whole) (λ x b q k. search (rules, tests)) in
    search (rules, tests) ∙ ap (option_map (λ k. m.number + k)) found ∙ day_found m.number m.mask c.args.from 1 m.length
