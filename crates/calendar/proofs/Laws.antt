-- Business days rise, and each is a calendar date.
use Rattle.std.proofs.Common.{◌≡◌, ℕ, zero, suc, ◌+◌, ◌-◌, ◌/◌, ◌%◌, ◌<◌, ◌≤◌, Bool, true, false, cond, ◌&&◌, ◌||◌, eqb, leb, List, [], ◌∷◌, ◌++◌, get_or, Some, None, Option, sym, refl, ap, ◌∙◌, add-suc, arith}
use Rattle.std.specs.List.{AllByRecursion}
use Rattle.std.proofs.lemmas.Bool.{and_from, le-leb, leb-true, cond_both}
use Rattle.std.proofs.lemmas.Bool.Decides.{nat_tests}
use Rattle.calendar.specs.Days.{lengths, month_length, month_number, is_date, is_business, first_from, RisingAbove, AllDates, LawfulDays}
use Rattle.calendar.specs.Masks.{is_set, number_of, length_of, days_from, days_in, months_from, business_days}
use Rattle.std.specs.Prelude.{vec_items}
use Rattle.calendar.specs.declared.years.Calendar.{Calendar}
use Rattle.calendar.specs.Calendars.{days_of}

getD_short : (xs : List ℕ) → AllByRecursion (λ x. x ≤ 31) xs → (k : ℕ) → get_or xs k 0 ≤ 31
getD_short [] a k = omega arith
getD_short (x ∷ xs) a zero = a.0
getD_short (x ∷ xs) a (suc k) = getD_short xs a.1 k

pub short : (year month : ℕ) → month_length year month ≤ 31
short year month =
    cond_both (eqb month 2 && eqb (year % 4) 0) 29 (get_or lengths (month - 1) 0) (λ n. n ≤ 31) (λ e. omega arith)
    (λ e. getD_short lengths (search arith) (month - 1))

-- days rise, and what follows them rises above them
pub rising_days : (month mask n d low : ℕ) (ys : List ℕ) → low < month + d → ((l : ℕ) → l < month + d + n → RisingAbove l ys)
    → RisingAbove low (days_from month mask d n ++ ys)
rising_days month mask zero d low ys h after = after low (omega arith)
rising_days month mask (suc n) d low ys h after =
    elim (is_set mask d) as (λ s. RisingAbove low (cond s ((month + d) ∷ days_from month mask (d + 1) n) (days_from month mask (d + 1) n) ++ ys)) [
      | true ↦ (h, rising_days month mask n (d + 1) (month + d) ys (omega arith) (λ l k. after l (omega (arith, add-suc (month + d) n))))
      | false ↦ rising_days month mask n (d + 1) low ys (omega arith) (λ l k. after l (omega (arith, add-suc (month + d) n)))
    ]

pub rising_months : (first : ℕ) (masks : List ℕ) (i low : ℕ) → low ≤ number_of first i → RisingAbove low (months_from first i masks)
rising_months first [] i low h = tt
rising_months first (mask ∷ masks) i low h =
    rising_days (number_of first i) mask (length_of first i) 1 low (months_from first (i + 1) masks) (omega arith)
    (λ l k. rising_months first masks (i + 1) l (omega (arith, short (first + i / 12) (i % 12 + 1))))

dates_append : (xs ys : List ℕ) → AllDates xs → AllDates ys → AllDates (xs ++ ys)
dates_append [] ys a b = b
dates_append (x ∷ xs) ys a b = (a.0, dates_append xs ys a.1 b)

date_at : (n year month day : ℕ) → n / 10000 ≡ year → n / 100 % 100 ≡ month → n % 100 ≡ day
    → 1 ≤ month → month ≤ 12 → 1 ≤ day → day ≤ month_length year month → is_date n ≡ true
date_at n year month day y m d a b e f =
    let test : ℕ → ℕ → ℕ → Bool = λ yy mm dd. (leb 1 mm && leb mm 12) && (leb 1 dd && leb dd (month_length yy mm)) in
    ap (λ v. test v (n / 100 % 100) (n % 100)) y ∙ ap (λ v. test year v (n % 100)) m ∙ ap (test year month) d
    ∙ and_from (leb 1 month && leb month 12) (leb 1 day && leb day (month_length year month))
    (and_from (leb 1 month) (leb month 12) (le-leb 1 month a) (le-leb month 12 b))
    (and_from (leb 1 day) (leb day (month_length year month)) (le-leb 1 day e) (le-leb day (month_length year month) f))

dates_days : (year month mask n d : ℕ) → 1 ≤ month → month ≤ 12 → 1 ≤ d → d + n ≤ month_length year month + 1
    → AllDates (days_from (month_number year month) mask d n)
dates_days year month mask zero d a b e f = tt
dates_days year month mask (suc n) d a b e f =
    let in_month : d ≤ month_length year month = omega (arith, add-suc d n) in
    let small : d ≤ 31 = omega (arith, short year month) in
    let rest = dates_days year month mask n (d + 1) a b (omega arith) (omega (arith, add-suc d n)) in
    elim (is_set mask d) as (λ s. AllDates (cond s ((month_number year month + d) ∷ days_from (month_number year month) mask (d + 1) n) (days_from (month_number year month) mask (d + 1) n)))
    [ true ↦ (date_at (month_number year month + d) year month d (omega arith) (omega arith) (omega arith) a b e in_month, rest) | false ↦ rest ]

pub dates_months : (first : ℕ) (masks : List ℕ) (i : ℕ) → AllDates (months_from first i masks)
dates_months first [] i = tt
dates_months first (mask ∷ masks) i =
    dates_append (days_in first i mask) (months_from first (i + 1) masks)
    (dates_days (first + i / 12) (i % 12 + 1) mask (length_of first i) 1 (omega arith) (omega arith) (omega arith) (omega arith))
    (dates_months first masks (i + 1))

pub lawful : (first : ℕ) (masks : List ℕ) → LawfulDays (business_days first masks)
lawful first masks = (rising_months first masks 0 0 (omega arith), dates_months first masks 0)

-- a date below all of a rising list is none of it
pub below_none : (d low : ℕ) (bs : List ℕ) → RisingAbove low bs → d ≤ low → is_business d bs ≡ false
below_none d low [] r h = refl
below_none d low (b ∷ bs) r h = grind (arith, nat_tests, r.0, below_none d b bs r.1 (omega (arith, r.0)))

-- whether a search from a date finds the date itself
abbrev pub is_first : ℕ → Option ℕ → Bool
is_first d None = false
is_first d (Some n) = eqb n d

-- a date is a business day exactly if it is the first one from itself on
pub business_found : (d n low : ℕ) (bs : List ℕ) → RisingAbove low bs → first_from d bs ≡ Some n → is_business d bs ≡ eqb n d
business_found d n low [] r h = let z : ◌≡◌ {A = ℕ} 0 1 = cc in absurd (omega arith)
business_found d n low (b ∷ bs) r h = go (leb d b) refl h (λ e. business_found d n b bs r.1 e)
  where
    go : (t : Bool) → leb d b ≡ t → cond t (Some b) (first_from d bs) ≡ Some n → (first_from d bs ≡ Some n → is_business d bs ≡ eqb n d)
        → (eqb b d || is_business d bs) ≡ eqb n d
    go true e found rest =
        let same : b ≡ n = cc in
        let none : is_business d bs ≡ false = below_none d b bs r.1 (leb-true d b e) in
        grind (arith, nat_tests)
    go false e found rest = let on : is_business d bs ≡ eqb n d = rest found in grind (arith, nat_tests)

pub business_passed : (d : ℕ) (bs : List ℕ) → first_from d bs ≡ None → is_business d bs ≡ false
business_passed d [] h = refl
business_passed d (b ∷ bs) h = go (leb d b) refl h (λ e. business_passed d bs e)
  where
    go : (t : Bool) → leb d b ≡ t → cond t (Some b) (first_from d bs) ≡ None → (first_from d bs ≡ None → is_business d bs ≡ false)
        → (eqb b d || is_business d bs) ≡ false
    go true e found rest = let z : ◌≡◌ {A = ℕ} 0 1 = cc in absurd (omega arith)
    go false e found rest = let on : is_business d bs ≡ false = rest found in grind (arith, nat_tests)

-- a date is a business day exactly if a search from it finds the date itself
pub business_first : (d : ℕ) (bs : List ℕ) → RisingAbove 0 bs → is_first d (first_from d bs) ≡ is_business d bs
business_first d bs r = go (first_from d bs) refl
  where
    go : (o : Option ℕ) → first_from d bs ≡ o → is_first d o ≡ is_business d bs
    go None h = sym (business_passed d bs h)
    go (Some n) h = sym (business_found d n 0 bs r h)

-- the same for the business days of masks
pub calendar_first : (d first : ℕ) (masks : List ℕ) → is_business d (business_days first masks) ≡ is_first d (first_from d (business_days first masks))
calendar_first d first masks = sym (business_first d (business_days first masks) (lawful first masks).0)

-- the business days of a calendar rise
pub days_rise : (c : Calendar) → RisingAbove 0 (days_of c)
days_rise c = (lawful c.months.first (vec_items c.months.masks)).0
