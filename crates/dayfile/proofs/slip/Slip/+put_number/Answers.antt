-- What the search does not find alone.
use Rattle.std.proofs.Common.{◌≡◌, ℕ, ◌+◌, ◌/◌, ◌%◌, ◌^◌, ◌<◌, ◌≤◌, [], ◌∷◌, ◌++◌, length, length-append, decimal, sym, ap, ◌∙◌, arith}
use Rattle.std.proofs.lemmas.List.{append_assoc, length_push}
use Rattle.std.proofs.lemmas.Fmt.{decimal_digit, decimal_step, decimal_nonempty}
use Rattle.dayfile.proofs.slip.Slip.+put_number.Goals as goal

-- one digit more
longer : (n : ℕ) → 10 ≤ n → n < 2 ^ 64 → length (decimal n) ≡ length (decimal (n / 10)) + 1
longer n h l = ap length (decimal_step n h l) ∙ length_push (decimal (n / 10)) (48 + n % 10)

pub put-requires : goal.put-requires
put-requires t c = omega (arith, decimal_nonempty c.args.number (omega arith))

pub returns-then-number-lt10 : goal.returns-then-number-lt10
returns-then-number-lt10 t c =
    c.put.ensures ∙ ap (λ u. c.args.self.now ++ u) (sym (decimal_digit c.args.number c.if-number-lt10.true))

pub put_number-requires : goal.put_number-requires
put_number-requires t c = (omega arith, omega (arith, longer c.args.number (omega arith) (omega arith)))

pub put-requires-2 : goal.put-requires-2
put-requires-2 t c =
    let n = c.args.number in
    omega (arith, longer n (omega arith) (omega arith), ap length c.put_number.ensures, length-append c.args.self.now (decimal (n / 10)))

pub returns : goal.returns
returns t c =
    let n = c.args.number in
    let w = c.args.self.now in
    c.put-2.ensures
    ∙ ap (λ u. u ++ (48 + n % 10) ∷ []) c.put_number.ensures
    ∙ append_assoc w (decimal (n / 10)) ((48 + n % 10) ∷ [])
    ∙ ap (λ u. w ++ u) (sym (decimal_step n (omega arith) (omega arith)))
