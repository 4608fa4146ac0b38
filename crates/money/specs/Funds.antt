-- What a money side means, and how a payment ends.
use Rattle.std.specs.Prelude.{ℕ, ◌+◌, ◌-◌, ◌<◌, ◌≤◌, Bool, cond, ◌&&◌, List, length, Ok, Err, sum, Result, ◌==◌, nat_le, nat_lt, slice_index, slice_set}
use Rattle.refusals.specs.declared.Refusal.{Refusal}
use Rattle.refusals.specs.declared.Refusal.TheVariants.{UnknownParticipant, AmountLimits, MoneyShort}
use Rattle.money.specs.declared.transfers.Payment.{Payment}

-- the account of each participant, and the balance of each account
pub record Funds : Type 0 where
  pub accounts : List ℕ
  pub balances : List ℕ

-- 2 to 32 participants, each with an account below 32 that has a balance; all balances together at most 10^17
pub record Sound (f : Funds) : Type 0 where
  pub some : 2 ≤ length f.accounts
  pub few : length f.accounts ≤ 32
  pub within : (p : ℕ) → p < length f.accounts → slice_index f.accounts p < length f.balances
  pub narrow : length f.balances ≤ 32
  pub total : sum f.balances ≤ 100000000000000000

-- a participant's account, and that account's balance
abbrev pub account : Funds → ℕ → ℕ
account f p = slice_index f.accounts p

abbrev pub balance : Funds → ℕ → ℕ
balance f p = slice_index f.balances (account f p)

-- a participant is known if it is below the number of participants
abbrev pub known : Funds → ℕ → Bool
known f p = nat_lt p (length f.accounts)

-- the answer to a question about a participant
abbrev pub asked : Funds → ℕ → ℕ → Result ℕ Refusal
asked f p x = cond (known f p) (Ok x) (Err UnknownParticipant)

-- account x gives the amount to account y; all others stay
abbrev pub shifted : List ℕ → ℕ → ℕ → ℕ → List ℕ
shifted bs x y amount = slice_set (slice_set bs x (slice_index bs x - amount)) y (slice_index bs y + amount)

abbrev pub moved : Funds → ℕ → ℕ → ℕ → Funds
moved f x y amount = record { accounts = f.accounts; balances = shifted f.balances x y amount }

-- how a payment between two known participants, of an amount within the limits, ends
abbrev pub covered : Funds → ℕ → ℕ → ℕ → Result Funds Refusal
covered f payer payee amount =
    cond (account f payer == account f payee) (Ok f)
    (cond (nat_le amount (balance f payer)) (Ok (moved f (account f payer) (account f payee) amount)) (Err MoneyShort))

-- an amount that may be paid: 1 to 10^17
abbrev pub payable : ℕ → Bool
payable amount = nat_le 1 amount && nat_le amount 100000000000000000

-- how a payment ends: a refusal, or the funds after it
unfoldable pub payment : Funds → ℕ → ℕ → ℕ → Result Funds Refusal
payment f payer payee amount =
    cond (known f payer && known f payee)
    (cond (payable amount) (covered f payer payee amount) (Err AmountLimits))
    (Err UnknownParticipant)

-- the answer by an outcome, and what it leaves: a refusal leaves everything as it was
abbrev pub answered : {A : Type 0} → Result A Refusal → Result Unit Refusal
answered (Ok a) = Ok tt
answered (Err e) = Err e

abbrev pub left : {A : Type 0} → A → Result A Refusal → A
left a (Ok b) = b
left a (Err e) = a

-- the answer to a payment, and the funds after it
abbrev pub answer_to : Funds → Payment → Result Unit Refusal
answer_to f o = answered (payment f o.payer o.payee o.amount)

abbrev pub funds_after : Funds → Payment → Funds
funds_after f o = left f (payment f o.payer o.payee o.amount)
