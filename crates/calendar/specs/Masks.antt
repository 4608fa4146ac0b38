-- The business days that month masks stand for.
use Rattle.std.specs.Prelude.{◌≡◌, ℕ, zero, suc, ◌+◌, ◌-◌, ◌*◌, ◌/◌, ◌%◌, ◌^◌, Bool, cond, ◌&&◌, List, [], ◌∷◌, ◌++◌, length, ◌==◌, nat_le, nat_lt, slice_index}
use Rattle.std.specs.List.{enumerate_from, list_all, list_any}
use Rattle.calendar.specs.Days.{month_length, month_number, is_date, is_business, LawfulDays}

-- months are counted from 0, twelve to a year: a month's number YYYYMM00
abbrev pub number_of : ℕ → ℕ → ℕ
number_of first i = month_number (first + i / 12) (i % 12 + 1)

-- the length of a month
abbrev pub length_of : ℕ → ℕ → ℕ
length_of first i = month_length (first + i / 12) (i % 12 + 1)

-- whether the bit of day d is set, whose weight is 2^(d-1)
abbrev pub is_set : ℕ → ℕ → Bool
is_set mask d = mask / 2 ^ (d - 1) % 2 == 1

-- of n days of a month, the first being d, those whose bit is set
abbrev pub days_from : ℕ → ℕ → ℕ → ℕ → List ℕ
days_from month mask d zero = []
days_from month mask d (suc n) =
    cond (is_set mask d) ((month + d) ∷ days_from month mask (d + 1) n) (days_from month mask (d + 1) n)

-- the business days of a month: of its days 1 to the last, those whose bit is set
abbrev pub days_in : ℕ → ℕ → ℕ → List ℕ
days_in first i mask = days_from (number_of first i) mask 1 (length_of first i)

-- the business days of the months from i on
abbrev pub months_from : ℕ → ℕ → List ℕ → List ℕ
months_from first i [] = []
months_from first i (mask ∷ masks) = days_in first i mask ++ months_from first (i + 1) masks

-- all business days in order, from the first year and the masks, twelve to a year
abbrev pub business_days : ℕ → List ℕ → List ℕ
business_days first masks = months_from first 0 masks

-- no mask of the months from i on sets a bit past its month's end
abbrev pub within_months : ℕ → ℕ → List ℕ → Bool
within_months first i masks = list_all (λ p. nat_lt p.1 (2 ^ length_of first p.0)) (enumerate_from i masks)

-- some mask sets a bit
abbrev pub some_set : List ℕ → Bool
some_set masks = list_any (λ mask. nat_lt 0 mask) masks

-- what makes a calendar: years within the limits, a mask for each month and none past its end, and a business day
abbrev pub fits : ℕ → ℕ → List ℕ → Bool
fits first years masks =
    ((nat_le 2000 first && nat_le first 2080) && (nat_le 1 years && nat_le years 20))
    && (length masks == 12 * years && (within_months first 0 masks && some_set masks))

-- whether a number is a calendar date, not before the first year, whose bit is set in its month's mask
abbrev pub is_marked : ℕ → List ℕ → ℕ → Bool
is_marked first masks n =
    (is_date n && nat_le first (n / 10000)) && is_set (slice_index masks ((n / 10000 - first) * 12 + (n / 100 % 100 - 1))) (n % 100)

-- the business days are exactly the dates that the masks mark
abbrev pub AsMarked : ℕ → List ℕ → Type 0
AsMarked first masks = (n : ℕ) → is_business n (business_days first masks) ≡ is_marked first masks n

-- the business days of a new calendar: those of its masks, which rise, are calendar dates, and are as marked
pub record Made (first : ℕ) (masks days : List ℕ) : Type 0 where
  pub same : days ≡ business_days first masks
  pub lawful : LawfulDays days
  pub marked : AsMarked first masks
