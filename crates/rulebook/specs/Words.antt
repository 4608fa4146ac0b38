-- The words of the register: places, movements, amounts, and the book that keeps all but the amounts.
use Rattle.std.specs.Prelude.{ℕ, zero, suc, ◌+◌, ◌-◌, Bool, true, false, cond, ◌&&◌, ◌||◌, List, [], ◌∷◌, Some, None, Option, ◌==◌, slice_index}
use Rattle.refusals.specs.declared.Refusal.{Refusal}
use Rattle.calendar.specs.declared.Date.{Date}
use Rattle.money.specs.Funds.{Funds}
use Rattle.rulebook.specs.declared.Side.{Side}
use Rattle.rulebook.specs.declared.Side.TheVariants.{Own, Customer}
use Rattle.rulebook.specs.declared.Order.{Order}
use Rattle.rulebook.specs.declared.Fate.{Fate}
use Rattle.rulebook.specs.States.{Standing}
use Rattle.rulebook.specs.Answers.{fate_letter, behind_fate}

-- 1 if a test holds, else 0
abbrev pub one_if : Bool → ℕ
one_if b = cond b 1 0

-- the sum of f over a list, and over the numbers below n
abbrev pub total : {X : Type 0} → (X → ℕ) → List X → ℕ
total f [] = 0
total f (x ∷ xs) = f x + total f xs

abbrev pub sum_below : ℕ → (ℕ → ℕ) → ℕ
sum_below zero f = 0
sum_below (suc n) f = sum_below n f + f n

-- whether an element passes a test, and the first that does
abbrev pub some_passes : {X : Type 0} → (X → Bool) → List X → Bool
some_passes f [] = false
some_passes f (x ∷ xs) = f x || some_passes f xs

abbrev pub found : {X : Type 0} → (X → Bool) → List X → Option X
found f [] = None
found f (x ∷ xs) = cond (f x) (Some x) (found f xs)

abbrev pub same_side : Side → Side → Bool
same_side Own Own = true
same_side Own Customer = false
same_side Customer Own = false
same_side Customer Customer = true

-- where nominal stands
pub record Place : Type 0 where
  pub participant : ℕ
  pub issue : ℕ
  pub side : Side

abbrev pub place : ℕ → ℕ → Side → Place
place p i s = record { participant = p; issue = i; side = s }

abbrev pub same : Place → Place → Bool
same p q = p.participant == q.participant && (p.issue == q.issue && same_side p.side q.side)

-- n where q is p, and nothing elsewhere
abbrev pub at : Place → ℕ → Place → ℕ
at p n q = cond (same p q) n 0

-- money from one account to another
pub record Payment : Type 0 where
  pub payer : ℕ
  pub payee : ℕ
  pub amount : ℕ

-- the first leg of an instruction, or its return
pub data Leg : Type 0 where
  first return : Leg

abbrev pub same_leg : Leg → Leg → Bool
same_leg first first = true
same_leg first return = false
same_leg return first = false
same_leg return return = true

-- what the journal lists: the day, and the nominal and the money that moved, from where to where
pub data Movement : Type 0 where
  -- day, place, nominal
  placed : ℕ → Place → ℕ → Option Payment → Movement
  -- day, serial, leg, giver, receiver, nominal
  settled : ℕ → ℕ → Leg → Place → Place → ℕ → Option Payment → Movement
  -- day, participant, issue, own nominal, customer nominal
  redeemed : ℕ → ℕ → ℕ → ℕ → ℕ → Option Payment → Movement

-- the nominal that a movement takes from a place, and brings to one
abbrev pub takes : Movement → Place → ℕ
takes (placed d p n y) q = 0
takes (settled d s e g r n y) q = at g n q
takes (redeemed d p i u c y) q = at (place p i Own) u q + at (place p i Customer) c q

abbrev pub brings : Movement → Place → ℕ
brings (placed d p n y) q = at p n q
brings (settled d s e g r n y) q = at r n q
brings (redeemed d p i u c y) q = 0

-- the money that a movement moves
abbrev pub money : Movement → Option Payment
money (placed d p n y) = y
money (settled d s e g r n y) = y
money (redeemed d p i u c y) = y

-- the money that a payment takes from an account, and brings to one
abbrev pub out_of : Option Payment → ℕ → ℕ
out_of None x = 0
out_of (Some y) x = cond (y.payer == x) y.amount 0

abbrev pub into : Option Payment → ℕ → ℕ
into None x = 0
into (Some y) x = cond (y.payee == x) y.amount 0

-- 1 if the movement is that leg of that serial
abbrev pub is_leg : ℕ → Leg → Movement → ℕ
is_leg n e (placed d p m y) = 0
is_leg n e (settled d s l g r m y) = one_if (s == n && same_leg l e)
is_leg n e (redeemed d p i u c y) = 0

-- the amounts that the rules read: nominal at a place, balance of an account
pub record Amounts : Type 0 where
  pub nominal : Place → ℕ
  pub balance : ℕ → ℕ

-- the amounts after a movement, and after several in order
abbrev pub after : Movement → Amounts → Amounts
after v a =
    record {
      nominal = λ p. a.nominal p - takes v p + brings v p;
      balance = λ x. a.balance x - out_of (money v) x + into (money v) x;
    }

abbrev pub afters : List Movement → Amounts → Amounts
afters [] a = a
afters (v ∷ vs) a = afters vs (after v a)

-- nominal that is held and may not be given away
pub record Blocking : Type 0 where
  pub number : ℕ
  pub place : Place
  pub nominal : ℕ

-- an order on the list, how far it has come, and why its last try failed
pub record Instruction : Type 0 where
  pub serial : ℕ
  pub order : Order
  pub fate : Fate
  pub cause : Option Refusal

-- the instruction with another fate and cause
abbrev pub turned : Instruction → Fate → Option Refusal → Instruction
turned i f c = record { serial = i.serial; order = i.order; fate = f; cause = c }

-- whether two fates have the same letter
abbrev pub alike : Fate → Fate → Bool
alike f g = fate_letter f == fate_letter g

-- the serial by which an instruction settles: a joined one is what its partner is
abbrev pub principal : Instruction → ℕ
principal i = behind_fate i.fate i.serial

-- numbered things: those that stand, in rising numbers, and the next number
pub record Numbered (X : Type 0) : Type 0 where
  pub standing : List X
  pub next : ℕ

-- what never changes: how many participants, the business days in order, each participant's account
pub record Setting : Type 0 where
  pub participants : ℕ
  pub days : List ℕ
  pub accounts : List ℕ

-- all that the register keeps besides amounts: state and day, each issue's maturity, blockings, instructions
pub record Book : Type 0 where
  pub standing : Standing
  pub issues : List (Option Date)
  pub blockings : Numbered Blocking
  pub instructions : Numbered Instruction

abbrev pub book : Standing → List (Option Date) → Numbered Blocking → Numbered Instruction → Book
book s is bs ts = record { standing = s; issues = is; blockings = bs; instructions = ts }

-- what a register starts with: its participants, the business days, and the money side's funds
pub record Start : Type 0 where
  pub participants : ℕ
  pub days : List ℕ
  pub funds : Funds

-- the nominal blocked at a place, and what is free there
abbrev pub blocked : List Blocking → Place → ℕ
blocked bs p = total (λ b. at b.place b.nominal p) bs

abbrev pub free : Amounts → List Blocking → Place → ℕ
free a bs p = a.nominal p - blocked bs p

-- a participant's account
abbrev pub account : Setting → ℕ → ℕ
account st p = slice_index st.accounts p

-- what one participant pays another: money between their accounts, none where the account is one
abbrev pub payment : Setting → ℕ → ℕ → ℕ → Option Payment
payment st x y n =
    cond
    (account st x == account st y)
    None
    (Some record { payer = account st x; payee = account st y; amount = n })

-- the same for a price that may be blank
abbrev pub priced : Setting → ℕ → ℕ → Option ℕ → Option Payment
priced st x y None = None
priced st x y (Some n) = payment st x y n

-- all nominal of an issue, on both sides
abbrev pub outstanding : Setting → Amounts → ℕ → ℕ
outstanding st a i = sum_below st.participants (λ p. a.nominal (place p i Own) + a.nominal (place p i Customer))
