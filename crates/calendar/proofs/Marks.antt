-- The business days are exactly the dates that the masks mark.
use Rattle.std.proofs.Common.{◌≡◌, ℕ, zero, suc, ◌+◌, ◌-◌, ◌*◌, ◌/◌, ◌%◌, ◌^◌, ◌<◌, ◌≤◌, Bool, true, false, cond, ◌&&◌, ◌||◌, eqb, leb, ◌⊎◌, List, [], ◌∷◌, ◌++◌, get_or, sym, refl, ap, ◌∙◌, inl, inr, add-suc, arith}
use Rattle.std.proofs.lemmas.Bool.{and_parts, leb-true, leb-false, ne_eqb, true≢false, cases_order}
use Rattle.std.proofs.lemmas.Nat.{div-mul-add, mod-mul-add}
use Rattle.std.proofs.lemmas.Bool.Decides.{nat_tests}
use Rattle.calendar.specs.Days.{month_length, is_date, is_business, AllDates}
use Rattle.calendar.specs.Masks.{is_set, number_of, length_of, days_from, days_in, months_from, business_days, AsMarked, Made}
use Rattle.calendar.proofs.Walks.{no_mask}
use Rattle.calendar.proofs.Laws.{rising_months, dates_months, below_none, short, lawful}

business_append : (x : ℕ) (xs ys : List ℕ) → is_business x (xs ++ ys) ≡ (is_business x xs || is_business x ys)
business_append x [] ys = refl
business_append x (b ∷ bs) ys =
    elim (eqb b x) as (λ v. (v || is_business x (bs ++ ys)) ≡ ((v || is_business x bs) || is_business x ys))
    [ true ↦ refl | false ↦ business_append x bs ys ]

-- one more day, which may not stand in the list
business_day : (x d : ℕ) (s : Bool) (bs : List ℕ) → is_business x (cond s (d ∷ bs) bs) ≡ ((s && eqb d x) || is_business x bs)
business_day x d true bs = refl
business_day x d false bs = refl

days_before : (month mask n e x : ℕ) → month + e + n ≤ x → is_business x (days_from month mask e n) ≡ false
days_before month mask zero e x h = refl
days_before month mask (suc n) e x h =
    let rest : is_business x (days_from month mask (e + 1) n) ≡ false = days_before month mask n (e + 1) x (omega (arith, add-suc (month + e) n)) in
    let early : month + e < x = omega (arith, add-suc (month + e) n) in
    let here = business_day x (month + e) (is_set mask e) (days_from month mask (e + 1) n) in
    grind (arith, nat_tests)

days_after : (month mask n e x : ℕ) → x < month + e → is_business x (days_from month mask e n) ≡ false
days_after month mask zero e x h = refl
days_after month mask (suc n) e x h =
    let rest : is_business x (days_from month mask (e + 1) n) ≡ false = days_after month mask n (e + 1) x (omega arith) in
    let here = business_day x (month + e) (is_set mask e) (days_from month mask (e + 1) n) in
    grind (arith, nat_tests)

-- of the days of a month, those whose bit is set
days_marked : (month mask n e d : ℕ) → e ≤ d → d < e + n → is_business (month + d) (days_from month mask e n) ≡ is_set mask d
days_marked month mask zero e d h k = absurd (omega arith)
days_marked month mask (suc n) e d h k =
    business_day (month + d) (month + e) (is_set mask e) (days_from month mask (e + 1) n) ∙ go (cases_order e d) (λ l. days_marked month mask n (e + 1) d l (omega (arith, add-suc e n)))
  where
    go : (e ≡ d) ⊎ ((e < d) ⊎ (d < e)) → (e + 1 ≤ d → is_business (month + d) (days_from month mask (e + 1) n) ≡ is_set mask d)
        → ((is_set mask e && eqb (month + e) (month + d)) || is_business (month + d) (days_from month mask (e + 1) n)) ≡ is_set mask d
    go (inl same) rest =
        let none : is_business (month + d) (days_from month mask (e + 1) n) ≡ false = days_after month mask n (e + 1) (month + d) (omega arith) in
        let bit : is_set mask e ≡ is_set mask d = ap (is_set mask) same in
        grind (arith, nat_tests)
    go (inr (inl l)) rest =
        let on : is_business (month + d) (days_from month mask (e + 1) n) ≡ is_set mask d = rest (omega arith) in
        let other : eqb (month + e) (month + d) ≡ false = grind (arith, nat_tests) in
        grind (arith, nat_tests)
    go (inr (inr l)) rest = absurd (omega arith)

-- day d of the first month, and of the month i, k months on from j
first_marked : (first mask : ℕ) (masks : List ℕ) (i d : ℕ) → 1 ≤ d → d ≤ length_of first i
    → is_business (number_of first i + d) (days_in first i mask ++ months_from first (i + 1) masks) ≡ is_set mask d
first_marked first mask masks i d a b =
    let here = days_marked (number_of first i) mask (length_of first i) 1 d a (omega arith) in
    let behind : number_of first i + d ≤ number_of first (i + 1) = omega (arith, short (first + i / 12) (i % 12 + 1)) in
    let later = below_none (number_of first i + d) (number_of first (i + 1)) (months_from first (i + 1) masks) (rising_months first masks (i + 1) (number_of first (i + 1)) (omega arith)) behind in
    business_append (number_of first i + d) (days_in first i mask) (months_from first (i + 1) masks)
    ∙ ap (λ v. v || is_business (number_of first i + d) (months_from first (i + 1) masks)) here ∙ ap (λ v. is_set mask d || v) later ∙ or_false (is_set mask d)
  where
    or_false : (v : Bool) → (v || false) ≡ v
    or_false true = refl
    or_false false = refl

month_marked : (first : ℕ) (masks : List ℕ) (j k i d : ℕ) → j + k ≡ i → 1 ≤ d → d ≤ length_of first i
    → is_business (number_of first i + d) (months_from first j masks) ≡ is_set (get_or masks k 0) d
month_marked first [] j k i d e a b = sym (no_mask d)
month_marked first (mask ∷ masks) j zero i d e a b =
    let same : j ≡ i = omega arith in
    ap (λ v. is_business (number_of first i + d) (days_in first v mask ++ months_from first (v + 1) masks)) same ∙ first_marked first mask masks i d a b
month_marked first (mask ∷ masks) j (suc k) i d e a b =
    let next : j + 1 + k ≡ i = omega (arith, add-suc j k) in
    let far : number_of first j + 1 + length_of first j ≤ number_of first i + d = omega (arith, short (first + j / 12) (j % 12 + 1)) in
    business_append (number_of first i + d) (days_in first j mask) (months_from first (j + 1) masks)
    ∙ ap (λ v. v || is_business (number_of first i + d) (months_from first (j + 1) masks)) (days_before (number_of first j) mask (length_of first j) 1 (number_of first i + d) far)
    ∙ month_marked first masks (j + 1) k i d next a b

-- what is no date is no business day
no_date : (n : ℕ) (bs : List ℕ) → AllDates bs → is_date n ≡ false → is_business n bs ≡ false
no_date n [] a h = refl
no_date n (b ∷ bs) a h =
    let rest = no_date n bs a.1 h in
    let other : eqb b n ≡ false = ne_eqb b n (λ same. true≢false (sym a.0 ∙ ap is_date same ∙ h)) in
    ap (λ v. v || is_business n bs) other ∙ rest

-- a date is day n % 100 of a month, counted from the first year's January
date_marked : (first : ℕ) (masks : List ℕ) (n year month : ℕ) → n / 10000 ≡ year → n / 100 % 100 ≡ month → first ≤ year → 1 ≤ month → month ≤ 12
    → 1 ≤ n % 100 → n % 100 ≤ month_length year month
    → is_business n (business_days first masks) ≡ is_set (get_or masks ((year - first) * 12 + (month - 1)) 0) (n % 100)
date_marked first masks n year month y m late a b e f =
    let i : ℕ = (year - first) * 12 + (month - 1) in
    let in_year : first + i / 12 ≡ year = omega (arith, div-mul-add (year - first) 12 (month - 1) (omega arith)) in
    let in_month : i % 12 + 1 ≡ month = omega (arith, mod-mul-add (year - first) 12 (month - 1) (omega arith)) in
    let size : length_of first i ≡ month_length year month = ap (λ v. month_length v (i % 12 + 1)) in_year ∙ ap (month_length year) in_month in
    let whole : number_of first i + n % 100 ≡ n = omega arith in
    let none : 0 + i ≡ i = omega arith in
    ap (λ v. is_business v (business_days first masks)) (sym whole)
    ∙ month_marked first masks 0 i i (n % 100) none e (omega (arith, size))

-- the parts of a date
date_parts : (n : ℕ) → is_date n ≡ true
    → (1 ≤ n / 100 % 100) × (n / 100 % 100 ≤ 12) × (1 ≤ n % 100) × (n % 100 ≤ month_length (n / 10000) (n / 100 % 100))
date_parts n h =
    let month = n / 100 % 100 in
    let size = month_length (n / 10000) month in
    let both = and_parts (leb 1 month && leb month 12) (leb 1 (n % 100) && leb (n % 100) size) h in
    let months = and_parts (leb 1 month) (leb month 12) both.0 in
    let days = and_parts (leb 1 (n % 100)) (leb (n % 100) size) both.1 in
    (leb-true 1 month months.0, leb-true month 12 months.1, leb-true 1 (n % 100) days.0, leb-true (n % 100) size days.1)

pub as_marked : (first : ℕ) (masks : List ℕ) → AsMarked first masks
as_marked first masks n = go (is_date n) refl (leb first (n / 10000)) refl
  where
    go : (t : Bool) → is_date n ≡ t → (u : Bool) → leb first (n / 10000) ≡ u
        → is_business n (business_days first masks) ≡ ((t && u) && is_set (get_or masks ((n / 10000 - first) * 12 + (n / 100 % 100 - 1)) 0) (n % 100))
    go false e u f = no_date n (business_days first masks) (dates_months first masks 0) e
    go true e false f =
        let early : n / 10000 < first = leb-false first (n / 10000) f in
        below_none n (number_of first 0) (business_days first masks) (rising_months first masks 0 (number_of first 0) (omega arith)) (omega arith)
    go true e true f =
        let p = date_parts n e in
        date_marked first masks n (n / 10000) (n / 100 % 100) refl refl (leb-true first (n / 10000) f) p.0 p.1 p.2 p.3

-- the business days of any masks are those of a new calendar
pub made : (first : ℕ) (masks : List ℕ) → Made first masks (business_days first masks)
made first masks = record { same = refl; lawful = lawful first masks; marked = as_marked first masks }
