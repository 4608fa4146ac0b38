-- The letters that each state takes.
use Rattle.std.proofs.Common.{◌≡◌, zero, suc, arith}
use Rattle.rulebook.specs.declared.Call.{Call}
use Rattle.rulebook.specs.Laws.{suits}
use Rattle.desk.specs.Letters.{call_letter, takes, LettersSuit}

-- state by state
shut_takes : (c : Call) → takes (call_letter c) 0 ≡ suits 0 c
shut_takes c = grind arith

open_takes : (c : Call) → takes (call_letter c) 1 ≡ suits 1 c
open_takes c = grind arith

dayless_takes : (c : Call) → takes (call_letter c) 2 ≡ suits 2 c
dayless_takes c = grind arith

pub letters_suit : LettersSuit
letters_suit zero c h = shut_takes c
letters_suit (suc zero) c h = open_takes c
letters_suit (suc (suc zero)) c h = dayless_takes c
letters_suit (suc (suc (suc n))) c h = absurd (omega arith)
