-- The order of checks.
use Rattle.std.proofs.Common.{◌≡◌, ℕ, Bool, true, ◌&&◌, ltb, List, [], ◌∷◌, refl}
use Rattle.std.proofs.lemmas.Bool.{and_parts, ltb-true}
use Rattle.calendar.specs.Days.{RisingAbove}
use Rattle.rulebook.specs.declared.Call.{Call}
use Rattle.rulebook.specs.declared.Call.TheVariants as call
use Rattle.rulebook.specs.Words.{Amounts, Setting, Book}
use Rattle.rulebook.specs.Rules.{checks}
use Rattle.rulebook.specs.Laws.{check_numbers, ChecksRise}

-- whether numbers rise, as a test
abbrev rising : ℕ → List ℕ → Bool
rising n [] = true
rising n (x ∷ xs) = ltb n x && rising x xs

rises : (n : ℕ) (xs : List ℕ) → rising n xs ≡ true → RisingAbove n xs
rises n [] e = tt
rises n (x ∷ xs) e =
    let h = and_parts (ltb n x) (rising x xs) e in
    (ltb-true n x h.0, rises x xs h.1)

each : (st : Setting) (a : Amounts) (k : Book) (c : Call) → rising 9 (check_numbers (checks st a k c)) ≡ true
each st a k call.Opening = refl
each st a k (call.NewIssue i d) = refl
each st a k (call.Placing o) = refl
each st a k (call.Instructing o) = refl
each st a k (call.Cancelling p n) = refl
each st a k (call.Blocking o) = refl
each st a k (call.Releasing p n) = refl
each st a k call.Round = refl
each st a k call.Closing = refl
each st a k (call.Redeeming i p) = refl
each st a k (call.AskingStatus n) = refl
each st a k (call.AskingHolding p i) = refl

pub checks_rise : ChecksRise
checks_rise st a k c = rises 9 (check_numbers (checks st a k c)) (each st a k c)
