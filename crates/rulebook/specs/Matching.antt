-- The list of instructions: how one comes to it, finds its partner, is cancelled, and leaves.
use Rattle.std.specs.Prelude.{ℕ, Bool, true, false, cond, not, ◌&&◌, ◌||◌, List, [], ◌∷◌, ◌++◌, map, Some, None, Option, ◌==◌, nat_eq, nat_le}
use Rattle.calendar.specs.declared.Date.{Date}
use Rattle.calendar.specs.Days.{passing}
use Rattle.rulebook.specs.declared.Sender.{Sender}
use Rattle.rulebook.specs.declared.Sender.TheVariants.{Transferor, Acquirer}
use Rattle.rulebook.specs.declared.Order.{Order}
use Rattle.rulebook.specs.declared.Fate.{Fate}
use Rattle.rulebook.specs.declared.Fate.TheVariants as fate
use Rattle.rulebook.specs.Words.{some_passes, same_side, Instruction, turned, alike}
use Rattle.rulebook.specs.Checks.{is_inside, may_cancel}

abbrev pub other : Sender → Sender
other Transferor = Acquirer
other Acquirer = Transferor

abbrev pub same_sender : Sender → Sender → Bool
same_sender Transferor Transferor = true
same_sender Transferor Acquirer = false
same_sender Acquirer Transferor = false
same_sender Acquirer Acquirer = true

abbrev pub same_date : Date → Date → Bool
same_date d e = d.number == e.number

-- blank is equal to blank only
abbrev pub same_option : {X : Type 0} → (X → X → Bool) → Option X → Option X → Bool
same_option t None None = true
same_option t None (Some y) = false
same_option t (Some x) None = false
same_option t (Some x) (Some y) = t x y

-- all eleven fields are equal
abbrev pub same_order : Order → Order → Bool
same_order o q =
    same_sender o.sender q.sender
    && (o.transferor == q.transferor
    && (same_side o.transferor_side q.transferor_side
    && (o.acquirer == q.acquirer
    && (same_side o.acquirer_side q.acquirer_side
    && (o.issue == q.issue
    && (o.nominal == q.nominal
    && (same_option nat_eq o.price q.price
    && (same_date o.value_date q.value_date
    && (same_option same_date o.return_date q.return_date
    && same_option nat_eq o.return_price q.return_price)))))))))

-- the order that the other party sends: the same but for the sender
abbrev pub counter : Order → Order
counter o =
    record {
      sender = other o.sender;
      transferor = o.transferor;
      transferor_side = o.transferor_side;
      acquirer = o.acquirer;
      acquirer_side = o.acquirer_side;
      issue = o.issue;
      nominal = o.nominal;
      price = o.price;
      value_date = o.value_date;
      return_date = o.return_date;
      return_price = o.return_price;
    }

-- x is unmatched and has the other party's order
abbrev pub is_partner : Order → Instruction → Bool
is_partner o x = alike x.fate fate.Unmatched && same_order x.order (counter o)

-- the first partner on the list becomes matched; its serial
abbrev pub pair_up : Order → List Instruction → List Instruction × Option ℕ
pair_up o [] = ([], None)
pair_up o (x ∷ xs) =
    cond
    (is_partner o x)
    (turned x fate.Matched None ∷ xs, Some x.serial)
    (x ∷ (pair_up o xs).0, (pair_up o xs).1)

-- the seeker is joined to the partner that was found
abbrev pub met : Instruction → Option ℕ → Instruction
met i None = turned i fate.Unmatched None
met i (Some n) = turned i (fate.Joined n) None

-- behind those with lower serials comes an unmatched instruction: inside one participant it is matched alone, else it seeks its partner among them
abbrev pub admit : List Instruction → Instruction → List Instruction
admit xs i =
    cond
    (is_inside i.order)
    (xs ++ turned i fate.Matched None ∷ [])
    ((pair_up i.order xs).0 ++ met i (pair_up i.order xs).1 ∷ [])

-- on day d: an instruction whose value date is later is kept, another is unmatched
abbrev pub arrive : ℕ → List Instruction → Instruction → List Instruction
arrive d xs i =
    cond (nat_le i.order.value_date.number d) (admit xs i) (xs ++ turned i fate.Kept None ∷ [])

-- at opening, in rising serials, each kept one arrives behind those that went before
abbrev pub wake : ℕ → List Instruction → Instruction → List Instruction
wake d xs i = cond (alike i.fate fate.Kept) (arrive d xs i) (xs ++ i ∷ [])

abbrev pub wake_all : ℕ → List Instruction → List Instruction → List Instruction
wake_all d xs [] = xs
wake_all d xs (i ∷ is) = wake_all d (wake d xs i) is

-- settled, back, refused, return refused, cancelled: nothing is left to do
abbrev pub has_ended : Fate → Bool
has_ended fate.Kept = false
has_ended fate.Unmatched = false
has_ended fate.Matched = false
has_ended (fate.Joined n) = false
has_ended fate.Settled = true
has_ended fate.RepoOut = false
has_ended fate.RepoBack = true
has_ended fate.Refused = true
has_ended fate.ReturnRefused = true
has_ended fate.Cancelled = true

-- whether an instruction is joined to that serial
abbrev pub joins : ℕ → Fate → Bool
joins n fate.Kept = false
joins n fate.Unmatched = false
joins n fate.Matched = false
joins n (fate.Joined m) = m == n
joins n fate.Settled = false
joins n fate.RepoOut = false
joins n fate.RepoBack = false
joins n fate.Refused = false
joins n fate.ReturnRefused = false
joins n fate.Cancelled = false

-- what leaves the list at opening: what has ended, and what is joined to one that has
abbrev pub leaves : List Instruction → Instruction → Bool
leaves xs i = has_ended i.fate || some_passes (λ x. has_ended x.fate && joins x.serial i.fate) xs

abbrev pub leavers : List Instruction → List Instruction
leavers xs = passing (leaves xs) xs

abbrev pub stayers : List Instruction → List Instruction
stayers xs = passing (λ i. not (leaves xs i)) xs

-- the list with one cancelled
abbrev pub cancelled_in : ℕ → ℕ → List Instruction → List Instruction
cancelled_in p n xs = map (λ i. cond (may_cancel p n i) (turned i fate.Cancelled i.cause) i) xs
