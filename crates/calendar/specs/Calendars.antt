-- What a calendar and its answers stand for.
use Rattle.std.specs.Prelude.{ℕ, List, Some, None, vec_items, Option}
use Rattle.calendar.specs.declared.Date.{Date}
use Rattle.calendar.specs.declared.years.Calendar.{Calendar}
use Rattle.calendar.specs.Masks.{business_days}

-- the business days of a calendar, in order
abbrev pub days_of : Calendar → List ℕ
days_of c = business_days c.months.first (vec_items c.months.masks)

-- an answer as a date
abbrev pub dated : Option ℕ → Option Date
dated None = None
dated (Some n) = Some (record { number = n })
