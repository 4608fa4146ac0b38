-- The sheet of edge cases, by computation.
use Rattle.std.proofs.Common.{refl}
use Rattle.rulebook.specs.Sheet.{Sheet}

pub sheet : Sheet
sheet =
    record {
      placing_99 = refl;
      placing_100 = refl;
      instructing_99 = refl;
      instructing_100 = refl;
      blocking_99 = refl;
      blocking_100 = refl;
      value_9th = refl;
      value_10th = refl;
      value_sunday = refl;
      blocking_7th = refl;
      blocking_8th = refl;
      money_equal = refl;
      money_less = refl;
      money_waits = refl;
      nominal_equal = refl;
      nominal_less = refl;
      nominal_waits = refl;
      agent_settles = refl;
      inside_transferor = refl;
      inside_acquirer = refl;
      return_same_day = refl;
      lower_matches = refl;
      lower_settles = refl;
      other_refused = refl;
    }
