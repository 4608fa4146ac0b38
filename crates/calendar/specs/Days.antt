-- Dates, and the business days of a calendar.
use Rattle.std.specs.Prelude.{◌≡◌, ℕ, ◌+◌, ◌-◌, ◌*◌, ◌/◌, ◌%◌, ◌<◌, Bool, true, false, cond, ◌&&◌, ◌||◌, leb, List, [], ◌∷◌, length, Some, None, Option, ◌==◌, nat_le, nat_lt, slice_index}
use Rattle.std.specs.Coded.{×_prop, Unit-prop, le_prop, Coded-set, coded_bool}

-- the lengths of the twelve months
abbrev pub lengths : List ℕ
lengths = 31 ∷ 28 ∷ 31 ∷ 30 ∷ 31 ∷ 30 ∷ 31 ∷ 31 ∷ 30 ∷ 31 ∷ 30 ∷ 31 ∷ []

-- the length of a month, 1 to 12: February has 29 days in years divisible by 4
abbrev pub month_length : ℕ → ℕ → ℕ
month_length year month = cond (month == 2 && year % 4 == 0) 29 (slice_index lengths (month - 1))

-- the number YYYYMM00 of a month; that of its day d is d more
abbrev pub month_number : ℕ → ℕ → ℕ
month_number year month = year * 10000 + month * 100

-- a number names a day of the calendar year: a month 1 to 12, a day 1 to the month's length
abbrev pub is_date : ℕ → Bool
is_date n =
    let month = n / 100 % 100 in
    let day = n % 100 in
    (nat_le 1 month && nat_le month 12) && (nat_le 1 day && nat_le day (month_length (n / 10000) month))

-- the elements that pass a test
abbrev pub passing : {X : Type 0} → (X → Bool) → List X → List X
passing f [] = []
passing f (x ∷ xs) = cond (f x) (x ∷ passing f xs) (passing f xs)

-- whether a date is a business day, given the business days in order
abbrev pub is_business : ℕ → List ℕ → Bool
is_business d [] = false
is_business d (b ∷ bs) = b == d || is_business d bs

-- the first business day on or after a date
abbrev pub first_from : ℕ → List ℕ → Option ℕ
first_from d [] = None
first_from d (b ∷ bs) = cond (nat_le d b) (Some b) (first_from d bs)

-- the next business day after a date
abbrev pub next_after : ℕ → List ℕ → Option ℕ
next_after d bs = first_from (d + 1) bs

-- how many business days lie after one date and up to another
abbrev pub count_between : ℕ → ℕ → List ℕ → ℕ
count_between after upto bs = length (passing (λ b. nat_lt after b && nat_le b upto) bs)

-- how many business days lie up to a date
abbrev pub count_upto : ℕ → List ℕ → ℕ
count_upto upto bs = length (passing (λ b. leb b upto) bs)

-- each number is above a bound and above all before it
abbrev pub RisingAbove : ℕ → List ℕ → Type 0
RisingAbove low [] = Unit {0}
RisingAbove low (b ∷ bs) = (low < b) × RisingAbove b bs

-- each number is a calendar date
abbrev pub AllDates : List ℕ → Type 0
AllDates [] = Unit {0}
AllDates (b ∷ bs) = (is_date b ≡ true) × AllDates bs

-- business days rise, and each is a calendar date
abbrev pub LawfulDays : List ℕ → Type 0
LawfulDays bs = RisingAbove 0 bs × AllDates bs

-- any two proofs that days are lawful are the same, as a ghost field needs
pub lawful_days_prop : (bs : List ℕ) → IsProp (LawfulDays bs)
lawful_days_prop bs = ×_prop (rising 0 bs) (dates bs)
  where
    rising : (low : ℕ) (bs : List ℕ) → IsProp (RisingAbove low bs)
    rising low [] = Unit-prop
    rising low (b ∷ bs) = ×_prop le_prop (rising b bs)

    dates : (bs : List ℕ) → IsProp (AllDates bs)
    dates [] = Unit-prop
    dates (b ∷ bs) = ×_prop (Coded-set coded_bool _ _) (dates bs)
