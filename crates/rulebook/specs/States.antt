-- A register is shut, open on a business day, or open on no day.
use Rattle.std.specs.Prelude.{ℕ, cond, List, Some, None, Option, ◌==◌}
use Rattle.calendar.specs.declared.Date.{Date}
use Rattle.calendar.specs.Days.{next_after}

-- the number of a date, 0 where there is none
abbrev pub date_of : Option Date → ℕ
date_of None = 0
date_of (Some d) = d.number

-- the numbers of the three states
abbrev pub shut : ℕ
shut = 0

abbrev pub on_a_day : ℕ
on_a_day = 1

abbrev pub on_no_day : ℕ
on_no_day = 2

-- the state, and the last business day on which the register was opened (0 before the first)
pub record Standing : Type 0 where
  pub state : ℕ
  pub day : ℕ

-- a new register is shut, before its first day
abbrev pub new_standing : Standing
new_standing = record { state = shut; day = 0 }

-- opening on the next business day; where none is left, on no day
abbrev pub opened_on : Option ℕ → Standing → Standing
opened_on None s = record { state = on_no_day; day = s.day }
opened_on (Some d) s = record { state = on_a_day; day = d }

abbrev pub opened : List ℕ → Standing → Standing
opened days s = opened_on (next_after s.day days) s

-- closing keeps the last business day
abbrev pub closed : Standing → Standing
closed s = record { state = shut; day = s.day }

-- the business day on which a register is open, if it is open on one
abbrev pub today : Standing → Option Date
today s = cond (s.state == on_a_day) (Some record { number = s.day }) None

-- the last business day on which it was opened, if there was one
abbrev pub last_day : Standing → Option Date
last_day s = cond (s.day == 0) None (Some record { number = s.day })
