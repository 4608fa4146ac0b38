-- What the search does not find alone.
use Rattle.std.proofs.Common.{◌-◌, ◌*◌, ◌%◌, ◌^◌, arith}
use lib.Count.{ones-le}
use Rattle.calendar.proofs.Counts.{low_ones, all_ones, low_few}
use Rattle.calendar.proofs.years.months.Month.count_upto.Goals as goal

pub returns-then-days-lt32 : goal.returns-then-days-lt32
returns-then-days-lt32 c = record {
  is = low_ones c.args.self.mask c.saturating_sub-days.result (c.args.upto - c.args.self.number) c.if-days-lt32.true c.saturating_sub-days.ensures;
  few = low_few c.args.self.mask ((1 * 2 ^ c.saturating_sub-days.result) % 4294967296 - 1) (omega arith);
}

pub returns-else-days-lt32 : goal.returns-else-days-lt32
returns-else-days-lt32 c = record {
  is = all_ones c.args.self.mask (c.args.upto - c.args.self.number) (omega arith) (omega arith);
  few = ones-le 32 c.args.self.mask (omega arith);
}
