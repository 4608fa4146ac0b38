-- What the search does not find alone.
use Rattle.std.proofs.Common.{rules, ℕ, ◌-◌, ◌%◌, ◌^◌, ◌∙◌, arith}
use borrow.Author.Tests.{tests}
use lib.Count.{ones}
use Rattle.std.proofs.lemmas.Iterator.{YieldsList-from_slice, YieldsList-from_map}
use Rattle.std.proofs.lemmas.Iterator.Adapters.{fits_from_length, at_most_from_yields_List, at_most_from_enumerate}
use Rattle.std.proofs.lemmas.Iterator.Consumers.{YieldsList-from_enumerate, sum_by_from_yields_List}
use Rattle.std.specs.List.{enumerate_from}
use Rattle.calendar.specs.Masks.{number_of}
use Rattle.calendar.proofs.Counts.{months_counted}
use Rattle.calendar.proofs.years.MonthMasks.count_upto.Goals as goal

pub sum-requires-clause-fits : goal.sum-requires-clause-fits
sum-requires-clause-fits c = fits_from_length _ _ 240 _ (at_most_from_enumerate (at_most_from_yields_List (YieldsList-from_slice c.args.self.now.masks.items cc) (omega (arith, c.args.self.now.masks.ok.0, c.args.self.now.few)))) c.map.ensures.closure (omega arith) (λ x r q k. search (rules, tests))

pub returns : goal.returns
returns c =
    let m = c.args.self.now in
    sum_by_from_yields_List (λ (p : ℕ × ℕ). ones (p.1 % 2 ^ (c.args.upto - number_of m.first p.0))) (enumerate_from 0 m.masks.items) _ c.sum.result c.sum.ensures.ran
    (YieldsList-from_map _ _ (YieldsList-from_enumerate (YieldsList-from_slice m.masks.items cc) cc) c.map.ensures.closure (λ x r q k. search (rules, tests)))
    ∙ months_counted m.first c.args.upto 0 m.masks.items c.requires
