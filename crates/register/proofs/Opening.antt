-- The business day that opening comes to.
use Rattle.std.proofs.Common.{◌≡◌, ℕ, ◌≤◌, leb, List, [], ◌∷◌, Some, vec_items, refl, arith}
use Rattle.std.proofs.lemmas.Bool.{cond_both}
use Rattle.std.proofs.lemmas.Bool.Decides.{nat_tests}
use Rattle.calendar.specs.declared.Date.{Date}
use Rattle.calendar.specs.declared.years.Calendar.{Calendar}
use Rattle.calendar.specs.Days.{RisingAbove, first_from, next_after}
use Rattle.calendar.specs.Calendars.{days_of, dated}
use Rattle.calendar.proofs.Laws.{days_rise, lawful}
use Rattle.register.specs.Shows.{Stands}

-- a day that is found is not before the one from which it was looked for
pub found_later : (n : ℕ) (bs : List ℕ) (d : Date) → dated (first_from n bs) ≡ Some d → n ≤ d.number
found_later n [] d = λ e. let z : ◌≡◌ {A = ℕ} 0 1 = cc in absurd (omega arith)
found_later n (b ∷ bs) d =
    cond_both (leb n b) (Some b) (first_from n bs) (λ o. dated o ≡ Some d → n ≤ d.number)
    (λ h e.
    let same : b ≡ d.number = cc in
    grind (arith, nat_tests))
    (λ _. found_later n bs d)

-- the calendar's first business day is the next after 0
pub first_day : (k : Calendar) → first_from 0 (days_of k) ≡ next_after 0 (days_of k)
first_day k = go (days_of k) (days_rise k)
  where
    go : (bs : List ℕ) → RisingAbove 0 bs → first_from 0 bs ≡ first_from 1 bs
    go [] r = refl
    go (b ∷ bs) r = grind (arith, nat_tests, r.0)

-- what is true of every register: of its calendar, and of its state
pub stood : (k : Calendar) (n d : ℕ) → n ≤ 2 → Stands (record { days = days_of k; standing = record { state = n; day = d } })
stood k n d h = record { days = lawful k.months.first (vec_items k.months.masks); calendar = ∣ (k, refl) ∣₁; state = h }
