-- Legs, rounds, and what closing makes of the list.
use Rattle.std.specs.Prelude.{ℕ, ◌+◌, Bool, false, cond, not, ◌&&◌, ◌||◌, List, [], ◌∷◌, ◌++◌, map, Some, None, Option, ◌==◌, nat_le}
use Rattle.refusals.specs.declared.Refusal.{Refusal}
use Rattle.refusals.specs.declared.Refusal.TheVariants.{NominalShort, MoneyShort, NoPartner}
use Rattle.calendar.specs.declared.Date.{Date}
use Rattle.rulebook.specs.declared.Order.{Order}
use Rattle.rulebook.specs.declared.Fate.{Fate}
use Rattle.rulebook.specs.declared.Fate.TheVariants as fate
use Rattle.rulebook.specs.Words.{one_if, Place, place, Payment, Leg, first, return, Movement, settled, Amounts, afters, Blocking, Instruction, turned, alike, Setting, free, priced}
use Rattle.rulebook.specs.Checks.{affords}

-- where a leg takes nominal from, and where it brings it: a return runs the other way
abbrev pub giver : Order → Leg → Place
giver o first = place o.transferor o.issue o.transferor_side
giver o return = place o.acquirer o.issue o.acquirer_side

abbrev pub receiver : Order → Leg → Place
receiver o first = giver o return
receiver o return = giver o first

-- a leg's price: the receiver pays it to the giver
abbrev pub price_of : Order → Leg → Option ℕ
price_of o first = o.price
price_of o return = o.return_price

abbrev pub leg_payment : Setting → Order → Leg → Option Payment
leg_payment st o e = priced st (receiver o e).participant (giver o e).participant (price_of o e)

-- what a leg moves on day d
abbrev pub leg : Setting → ℕ → Instruction → Leg → Movement
leg st d i e =
    settled d i.serial e (giver i.order e) (receiver i.order e) i.order.nominal (leg_payment st i.order e)

-- whether a date is there and is that day
abbrev pub is_day : ℕ → Option Date → Bool
is_day d None = false
is_day d (Some e) = e.number == d

-- the leg that a round tries on day d: a matched one's first, and the return of a repo that is out until that day
abbrev pub due : ℕ → Instruction → Option Leg
due d i =
    cond
    (alike i.fate fate.Matched)
    (Some first)
    (cond (alike i.fate fate.RepoOut && is_day d i.order.return_date) (Some return) None)

-- a try: nothing is due; the leg waits with a cause; it settles
pub data Try : Type 0 where
  idle : Try
  waits : Refusal → Try
  settles : Leg → Try

-- free nominal first, and then money
abbrev pub try_leg : Setting → Amounts → List Blocking → Order → Option Leg → Try
try_leg st a bs o None = idle
try_leg st a bs o (Some e) =
    cond
    (nat_le o.nominal (free a bs (giver o e)))
    (cond (affords a (leg_payment st o e)) (settles e) (waits MoneyShort))
    (waits NominalShort)

abbrev pub try : Setting → ℕ → List Blocking → Amounts → Instruction → Try
try st d bs a i = try_leg st a bs i.order (due d i)

-- the instruction after a try: a first leg with a return date goes out and waits anew, any other settled leg keeps its cause
abbrev pub settled_one : Instruction → Leg → Option Date → Instruction
settled_one i first None = turned i fate.Settled i.cause
settled_one i first (Some d) = turned i fate.RepoOut None
settled_one i return d = turned i fate.RepoBack i.cause

abbrev pub tried : Instruction → Try → Instruction
tried i idle = i
tried i (waits c) = turned i i.fate (Some c)
tried i (settles e) = settled_one i e i.order.return_date

-- what a try moves
abbrev pub try_moves : Setting → ℕ → Instruction → Try → List Movement
try_moves st d i idle = []
try_moves st d i (waits c) = []
try_moves st d i (settles e) = leg st d i e ∷ []

-- a round: in rising serials, each once, each at the amounts that those before it left
abbrev pub rounds : Setting → ℕ → List Blocking → List Instruction → Amounts → List Instruction × List Movement
rounds st d bs [] a = ([], [])
rounds st d bs (i ∷ is) a =
    let t = try st d bs a i in
    let rest = rounds st d bs is (afters (try_moves st d i t) a) in
    (tried i t ∷ rest.0, try_moves st d i t ++ rest.1)

-- how many fates moved to one that passes
abbrev pub moved_to : (Fate → Bool) → List Instruction → List Instruction → ℕ
moved_to t [] js = 0
moved_to t (i ∷ is) [] = 0
moved_to t (i ∷ is) (j ∷ js) = one_if (not (alike i.fate j.fate) && t j.fate) + moved_to t is js

-- a leg settles where a fate moves to settled, out or back
abbrev pub is_leg_done : Fate → Bool
is_leg_done f = alike f fate.Settled || (alike f fate.RepoOut || alike f fate.RepoBack)

-- closing refuses a leg where a fate moves to refused or return refused
abbrev pub is_leg_refused : Fate → Bool
is_leg_refused f = alike f fate.Refused || alike f fate.ReturnRefused

-- the instruction after closing on day d, the last round made: an unmatched one found no partner, a leg due that day is refused with its cause
abbrev pub ended : ℕ → Instruction → Instruction
ended d i =
    cond
    (alike i.fate fate.Unmatched)
    (turned i fate.Refused (Some NoPartner))
    (cond
    (alike i.fate fate.Matched)
    (turned i fate.Refused i.cause)
    (cond
    (alike i.fate fate.RepoOut && is_day d i.order.return_date)
    (turned i fate.ReturnRefused i.cause)
    i))

abbrev pub ended_all : ℕ → List Instruction → List Instruction
ended_all d is = map (ended d) is
