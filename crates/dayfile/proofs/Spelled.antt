-- The line of a call makes that call.
use Rattle.std.proofs.Common.{◌≡◌, ℕ, zero, suc, ◌+◌, ◌-◌, ◌*◌, ◌/◌, ◌%◌, ◌^◌, ◌<◌, ◌≤◌, true, cond, leb, List, [], ◌∷◌, ◌++◌, length, get_or, Some, None, decimal, refl, ap, ◌∙◌, ⊎_elim, pow-suc, arith}
use Rattle.std.specs.Char.{is_ascii_digit}
use Rattle.std.specs.List.{AllByRecursion}
use Rattle.std.specs.Str.{all_ascii_digits}
use Rattle.std.proofs.lemmas.Bool.{ne_eqb, le-leb, and_from, and_parts, cases_lt}
use Rattle.std.proofs.lemmas.Bool.Decides.{nat_tests}
use Rattle.std.proofs.lemmas.Str.Parse.{tells_all_ascii_digits}
use Rattle.std.proofs.lemmas.Fmt.{digits_decimal, digits_value-decimal, length-decimal-le, decimal_nonempty, decimal_digit, first_decimal}
use Rattle.calendar.specs.declared.Date.{Date}
use Rattle.dayfile.specs.Text.{prepend, fields, commas, Without}
use Rattle.dayfile.specs.Looks.{date, letter, look_of}
use Rattle.dayfile.specs.Values.{value, value_from, number_of, date_of}
use Rattle.dayfile.specs.Spelling.{figures}
use Rattle.dayfile.proofs.Figures.{own}

-- bytes without a comma
abbrev pub Plain : List ℕ → Type 0
Plain bs = Without 44 bs

pub plain_digits : (bs : List ℕ) → all_ascii_digits bs ≡ true → Plain bs
plain_digits [] d = tt
plain_digits (b ∷ bs) d =
    let p = tells_all_ascii_digits.parts b bs d in
    (λ e. omega (arith, p.0, e), plain_digits bs p.1)

-- a field in front of a comma, and a last field
field_front : (f rest : List ℕ) → Plain f → fields (f ++ 44 ∷ rest) ≡ f ∷ fields rest
field_front [] rest p = refl
field_front (b ∷ f) rest p =
    ap (λ t. cond t ([] ∷ fields (f ++ 44 ∷ rest)) (prepend b (fields (f ++ 44 ∷ rest)))) (ne_eqb b 44 p.0) ∙ ap (prepend b) (field_front f rest p.1)

field_alone : (f : List ℕ) → Plain f → fields f ≡ f ∷ []
field_alone [] p = refl
field_alone (b ∷ f) p = ap (λ t. cond t ([] ∷ fields f) (prepend b (fields f))) (ne_eqb b 44 p.0) ∙ ap (prepend b) (field_alone f p.1)

pub fields_commas : (f : List ℕ) (gs : List (List ℕ)) → Plain f → AllByRecursion Plain gs → fields (commas f gs) ≡ f ∷ gs
fields_commas f [] p ps = field_alone f p
fields_commas f (g ∷ gs) p ps = field_front f (commas g gs) p ∙ ap (λ l. f ∷ l) (fields_commas g gs ps.0 ps.1)

-- digits that are a number
numeral_back : (bs : List ℕ) → all_ascii_digits bs ≡ true → 1 ≤ length bs → length bs ≤ 16 → (1 < length bs → get_or bs 0 0 ≡ 48 → ⊥) → number_of (look_of bs) ≡ Some (value bs)
numeral_back bs d some few lead = grind (arith, nat_tests)

decimal_lead : (n : ℕ) → n < 2 ^ 64 → 1 < length (decimal n) → get_or (decimal n) 0 0 ≡ 48 → ⊥
decimal_lead n h l e =
    ⊎_elim
    (λ small. omega (arith, ap length (decimal_digit n small), l))
    (λ large. omega (arith, first_decimal n (omega arith) h, e))
    (cases_lt n 10)

pub number_back : (n : ℕ) → n < 10 ^ 16 → number_of (look_of (decimal n)) ≡ Some n
number_back n h =
    let l : n < 2 ^ 64 = omega arith in
    numeral_back (decimal n) (digits_decimal own n l) (omega (arith, decimal_nonempty n l)) (length-decimal-le 16 n (omega arith) h l) (decimal_lead n l) ∙ ap Some (digits_value-decimal own n l)

-- a date's eight digits
digits_push : (bs : List ℕ) (b : ℕ) → all_ascii_digits bs ≡ true → is_ascii_digit b ≡ true → all_ascii_digits (bs ++ b ∷ []) ≡ true
digits_push [] b d e = and_from (is_ascii_digit b) true e refl
digits_push (x ∷ xs) b d e =
    let p = and_parts (is_ascii_digit x) (all_ascii_digits xs) d in
    and_from (is_ascii_digit x) (all_ascii_digits (xs ++ b ∷ [])) p.0 (digits_push xs b p.1 e)

last_digit : (n : ℕ) → is_ascii_digit (48 + n % 10) ≡ true
last_digit n = and_from (leb 48 (48 + n % 10)) (leb (48 + n % 10) 57) (le-leb 48 (48 + n % 10) (omega arith)) (le-leb (48 + n % 10) 57 (omega arith))

pub digits_figures : (k n : ℕ) → all_ascii_digits (figures k n) ≡ true
digits_figures zero n = refl
digits_figures (suc k) n = digits_push (figures k (n / 10)) (48 + n % 10) (digits_figures k (n / 10)) (last_digit n)

value_push : (m : ℕ) (bs : List ℕ) (b : ℕ) → value_from m (bs ++ b ∷ []) ≡ value_from m bs * 10 + (b - 48)
value_push m [] b = refl
value_push m (x ∷ xs) b = value_push (m * 10 + (x - 48)) xs b

value_figures : (k n : ℕ) → n < 10 ^ k → value (figures k n) ≡ n
value_figures zero n h = omega arith
value_figures (suc k) n h =
    let l : n / 10 < 10 ^ k = omega (arith, pow-suc 10 k) in
    omega (arith, value_push 0 (figures k (n / 10)) (48 + n % 10), value_figures k (n / 10) l)

pub date_back : (d : Date) → d.number < 10 ^ 8 → date_of (look_of (figures 8 d.number)) ≡ Some d
date_back d h =
    let bs = figures 8 d.number in
    ap (λ t. date_of (cond t (date bs) (letter bs))) (digits_figures 8 d.number)
    ∙ ap (λ t. cond t (Some (record { number = value bs })) None) (digits_figures 8 d.number)
    ∙ ap (λ n. Some (record { number = n })) (value_figures 8 d.number h)
