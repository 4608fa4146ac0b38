-- Zeros behind what is written, and the room that numbers need.
use Rattle.std.proofs.Common.{◌≡◌, ℕ, ◌+◌, ◌-◌, ◌^◌, ◌<◌, ◌≤◌, List, length, drop, set, replicate, decimal, sym, ap, ◌∙◌, arith}
use Rattle.std.proofs.lemmas.List.{drop-set-lt, drop-drop, drop-replicate}
use Rattle.std.proofs.lemmas.Fmt.{length-decimal-le}

one_less : (room size : ℕ) → room - size - 1 ≡ room - (size + 1)
one_less room size = omega arith

-- one byte more is written
pub zeros_more : (room : ℕ) (bytes : List ℕ) (size b : ℕ) → drop size bytes ≡ replicate (room - size) 0 → drop (size + 1) (set bytes size b) ≡ replicate (room - (size + 1)) 0
zeros_more room bytes size b zeros =
    drop-set-lt (size + 1) bytes size b (omega arith) ∙ sym (drop-drop 1 size bytes) ∙ ap (drop 1) zeros ∙ drop-replicate 1 (room - size) 0 ∙ ap (λ k. replicate k 0) (one_less room size)

-- a number has at most 20 digits
pub short : (n : ℕ) → n < 2 ^ 64 → length (decimal n) ≤ 20
short n h = length-decimal-le 20 n (omega arith) (omega arith) (omega arith)
