-- The business days of the day program.
use Rattle.std.specs.Prelude.{ℕ, zero, suc, ◌+◌, ◌*◌, ◌%◌, Bool, cond, not, ◌&&◌, List, [], ◌∷◌, ◌++◌, ◌==◌, nat_lt}
use Rattle.calendar.specs.Days.{month_length}

-- n days in a row from a date on
abbrev pub days_on : ℕ → ℕ → List ℕ
days_on date zero = []
days_on date (suc n) = date ∷ days_on (date + 1) n

-- all days of n months of 2025 from a month on
abbrev pub months_on : ℕ → ℕ → List ℕ
months_on month zero = []
months_on month (suc n) = days_on (20250001 + month * 100) (month_length 2025 month) ++ months_on (month + 1) n

-- a day of the week from 0, Monday, to 6, Sunday: a working day, unless it is 1 January
abbrev pub is_working : ℕ → ℕ → Bool
is_working weekday date = nat_lt weekday 5 && not (date == 20250101)

-- of days in a row, the first on that day of the week, the working ones
abbrev pub working : ℕ → List ℕ → List ℕ
working weekday [] = []
working weekday (d ∷ ds) =
    cond (is_working weekday d) (d ∷ working ((weekday + 1) % 7) ds) (working ((weekday + 1) % 7) ds)

-- Monday to Friday but 1 January, which is a Wednesday
abbrev pub business_days_2025 : List ℕ
business_days_2025 = working 2 (months_on 1 12)
