-- What holds over every list of calls, in the subject's words.
use Rattle.std.specs.Prelude.{◌≡◌, ℕ, ◌+◌, ◌<◌, ◌≤◌, Bool, true, false, cond, not, ◌&&◌, ◌||◌, ◌⊎◌, List, [], ◌∷◌, ◌++◌, map, length, Some, None, Ok, Err, Option, ◌==◌, ◌≢◌, nat_le, nat_lt}
use Rattle.std.specs.List.{AllByRecursion}
use Rattle.refusals.specs.declared.Refusal.{Refusal}
use Rattle.refusals.specs.declared.Refusal.TheVariants.{WrongState, NominalShort, MoneyShort}
use Rattle.refusals.specs.Table.{number}
use Rattle.calendar.specs.declared.Date.{Date}
use Rattle.calendar.specs.Days.{RisingAbove, is_business, count_between}
use Rattle.money.specs.Funds.{Sound}
use Rattle.rulebook.specs.declared.Order.{Order}
use Rattle.rulebook.specs.declared.Fate.{Fate}
use Rattle.rulebook.specs.declared.Fate.TheVariants as fate
use Rattle.rulebook.specs.declared.Call.{Call}
use Rattle.rulebook.specs.declared.Call.TheVariants as call
use Rattle.rulebook.specs.declared.Ending.{Ending}
use Rattle.rulebook.specs.declared.Answer.TheVariants as answer
use Rattle.rulebook.specs.States.{date_of, shut, on_a_day, on_no_day, Standing}
use Rattle.rulebook.specs.Answers.{cause_number, Reply}
use Rattle.rulebook.specs.Words.{one_if, total, sum_below, some_passes, Place, place, same, Payment, Leg, first, return, Movement, placed, settled, redeemed, Amounts, Blocking, Instruction, alike, principal, Numbered, Setting, Book, Start, blocked, free, payment, priced, outstanding}
use Rattle.rulebook.specs.Checks.{Check, is_registered, matures, knows, affords, is_inside, is_on_a_day, has_serial}
use Rattle.rulebook.specs.Matching.{joins, same_option, same_order, counter}
use Rattle.rulebook.specs.Rounds.{giver, leg_payment, is_leg_done, is_leg_refused}
use Rattle.rulebook.specs.Rules.{checks, opening_day}
use Rattle.rulebook.specs.Journal.{Journal, taken, brought, paid, received, times, had, reads, setting_of, Past, accepted, step, history, answers, View, next, run, first_view, told}

-- the checks of every call run in the order of their refusals' numbers, from 10 on
abbrev pub check_numbers : List Check → List ℕ
check_numbers cs = map (λ c. number c.1) cs

abbrev pub ChecksRise : Type 0
ChecksRise =
    (st : Setting) (a : Amounts) (k : Book) (c : Call) → RisingAbove 9 (check_numbers (checks st a k c))

-- which calls each state takes
abbrev pub suits : ℕ → Call → Bool
suits s call.Opening = s == shut
suits s (call.NewIssue i d) = s == on_a_day
suits s (call.Placing o) = s == on_a_day
suits s (call.Instructing o) = s == on_a_day
suits s (call.Cancelling p n) = s == on_a_day
suits s (call.Blocking o) = s == on_a_day
suits s (call.Releasing p n) = s == on_a_day
suits s call.Round = s == on_a_day
suits s call.Closing = s == on_a_day || s == on_no_day
suits s (call.Redeeming i p) = s == on_a_day
suits s (call.AskingStatus n) = true
suits s (call.AskingHolding p i) = true

-- a call that the state does not take is answered so, and changes nothing
abbrev pub StateRefuses : Type 0
StateRefuses =
    (v : View) (c : Call) → suits v.book.standing.state c ≡ false
    → ◌≡◌ {A = View × Reply} (next v c) (v, Err WrongState)

-- each in its own state, opening and closing are never refused
pub record TurnsGranted : Type 0 where
  pub opening : (v : View) → v.book.standing.state ≡ shut
      → (next v call.Opening).1 ≡ Ok (answer.Opened (opening_day v.setting v.book))
  pub closing : (v : View) → suits v.book.standing.state call.Closing ≡ true
      → (e : Ending) × ((next v call.Closing).1 ≡ Ok (answer.Closed e))

-- a refused call changes nothing
abbrev pub RefusalKeeps : Type 0
RefusalKeeps = (v : View) (c : Call) (r : Refusal) → (next v c).1 ≡ Err r → (next v c).0 ≡ v

-- a start that can be made: 2 to 32 participants that the money side knows, sound funds, business days in order
pub record Sensible (s : Start) : Type 0 where
  pub some : 2 ≤ s.participants
  pub few : s.participants ≤ 32
  pub known : s.participants ≤ length s.funds.accounts
  pub funds : Sound s.funds
  pub days : RisingAbove 0 s.days

-- there a participant is known if it is below the number of participants
abbrev pub KnowsPlainly : Type 0
KnowsPlainly = (s : Start) → Sensible s → (p : ℕ) → knows (setting_of s) p ≡ nat_lt p s.participants

-- amounts kept in place and the journal give the same answers, book, nominals and balances
abbrev pub Agrees : Start → List Call → Type 0
Agrees s cs = ◌≡◌ {A = View × List Reply} (run (first_view s) cs) (told s cs, answers s cs)

abbrev pub JournalAgrees : Type 0
JournalAgrees = (s : Start) (cs : List Call) → Agrees s cs

-- business day d has been closed: it lies before the last day, or is that and the register is no longer open on it
abbrev pub day_closed : Standing → ℕ → Bool
day_closed s d = cond (s.state == on_a_day) (nat_lt d s.day) (nat_le d s.day)

-- how many accepted instructions have that serial; and that fate too
abbrev pub with_serial : Past → ℕ → ℕ
with_serial h n = total (λ i. one_if (has_serial n i)) (accepted h)

abbrev pub with_fate : Past → ℕ → Fate → ℕ
with_fate h n f = total (λ i. one_if (has_serial n i && alike i.fate f)) (accepted h)

-- how many of settled, refused and cancelled an instruction is
abbrev pub endings : Past → ℕ → ℕ
endings h n = times h.journal n first + (with_fate h n fate.Refused + with_fate h n fate.Cancelled)

-- how many of settled and refused its return is
abbrev pub return_endings : Past → ℕ → ℕ
return_endings h n = times h.journal n return + with_fate h n fate.ReturnRefused

-- what was settled, refused or cancelled stays so
pub record Stays (h h' : Past) : Type 0 where
  pub settled : (n : ℕ) (e : Leg) → times h.journal n e ≤ times h'.journal n e
  pub refused : (n : ℕ) → with_fate h n fate.Refused ≤ with_fate h' n fate.Refused
  pub cancelled : (n : ℕ) → with_fate h n fate.Cancelled ≤ with_fate h' n fate.Cancelled
  pub return_refused : (n : ℕ) → with_fate h n fate.ReturnRefused ≤ with_fate h' n fate.ReturnRefused

pub record LawfulPast (s : Start) (h : Past) : Type 0 where
  -- nominal is what was brought less what was taken
  pub nominal : (p : Place) → (reads s.funds h.journal).nominal p + taken h.journal p ≡ brought h.journal p
  -- blocked at most held, held at most 10^15, an issue's outstanding nominal at most 10^15
  pub covered : (p : Place) → blocked h.book.blockings.standing p ≤ (reads s.funds h.journal).nominal p
  pub limited : (p : Place) → (reads s.funds h.journal).nominal p ≤ 1000000000000000
  pub bounded : (i : ℕ) → outstanding (setting_of s) (reads s.funds h.journal) i ≤ 1000000000000000
  -- a balance is that at the start and what was received less what was paid; all together stay what they were
  pub balance : (x : ℕ)
      → (reads s.funds h.journal).balance x + paid h.journal x ≡ had s.funds x + received h.journal x
  pub conserved : sum_below (length s.funds.balances) (λ x. (reads s.funds h.journal).balance x)
      ≡ sum_below (length s.funds.balances) (λ x. had s.funds x)
  -- no leg stands twice
  pub once : (n : ℕ) (e : Leg) → times h.journal n e ≤ 1
  -- each serial given stands once, on the list or among those that left it
  pub remembered : (n : ℕ) → with_serial h n ≡ one_if (nat_lt 0 n && nat_lt n h.book.instructions.next)
  -- never two of settled, refused and cancelled; exactly one once the value date is closed; a joined one is what its partner is
  pub never_two : (n : ℕ) → endings h n ≤ 1
  pub decided : AllByRecursion
      (λ i. day_closed h.book.standing i.order.value_date.number ≡ true → endings h (principal i) ≡ 1)
      (accepted h)
  -- a return is never both settled and refused; exactly one once the return date of a settled repo is closed
  pub return_never_two : (n : ℕ) → return_endings h n ≤ 1
  pub return_decided : AllByRecursion
      (λ i. (d : Date) → i.order.return_date ≡ Some d → day_closed h.book.standing d.number ≡ true
      → times h.journal (principal i) first ≡ 1 → return_endings h (principal i) ≡ 1)
      (accepted h)
  -- whatever call comes next, what has ended stays so
  pub stays : (c : Call) → Stays h (step s h c)

abbrev pub Lawful : Start → List Call → Type 0
Lawful s cs = LawfulPast s (history s cs)

abbrev pub JournalLawful : Type 0
JournalLawful = (s : Start) → Sensible s → (cs : List Call) → Lawful s cs

-- matched at some time: a refused one was, unless it found no partner
abbrev pub was_matched : Instruction → Bool
was_matched i =
    alike i.fate fate.Matched
    || (is_leg_done i.fate
    || (alike i.fate fate.ReturnRefused
    || (alike i.fate fate.Refused && not (cause_number i.cause == 21))))

-- the date of a leg
abbrev pub leg_date : Order → Leg → ℕ
leg_date o first = o.value_date.number
leg_date o return = date_of o.return_date

abbrev pub same_payment : Payment → Payment → Bool
same_payment y z = y.payer == z.payer && (y.payee == z.payee && y.amount == z.amount)

-- what an instruction's legs move, field by field: the first to the acquirer at the price, the return back at the return price
abbrev pub moves_as : Setting → Order → Leg → Place → Place → ℕ → Option Payment → Bool
moves_as st o first g r m y =
    same g (place o.transferor o.issue o.transferor_side)
    && (same r (place o.acquirer o.issue o.acquirer_side)
    && (m == o.nominal && same_option same_payment y (priced st o.acquirer o.transferor o.price)))
moves_as st o return g r m y =
    same g (place o.acquirer o.issue o.acquirer_side)
    && (same r (place o.transferor o.issue o.transferor_side)
    && (m == o.nominal && same_option same_payment y (priced st o.transferor o.acquirer o.return_price)))

-- the movement is a leg of that instruction, on its date
abbrev pub carries_out : Setting → Movement → Instruction → Bool
carries_out st (placed d p n y) i = false
carries_out st (settled d n e g r m y) i =
    has_serial n i && (d == leg_date i.order e && moves_as st i.order e g r m y)
carries_out st (redeemed d p k u c y) i = false

abbrev pub is_settlement : Movement → Bool
is_settlement (placed d p n y) = false
is_settlement (settled d n e g r m y) = true
is_settlement (redeemed d p i u c y) = false

-- each return has its first leg before it
abbrev pub ReturnsBehind : Journal → Journal → Type 0
ReturnsBehind seen [] = Unit {0}
ReturnsBehind seen (v ∷ vs) =
    ((n : ℕ) → times (v ∷ []) n return ≤ times seen n first) × ReturnsBehind (seen ++ v ∷ []) vs

-- the nominal of an issue that a movement places, and redeems
abbrev pub places : ℕ → Movement → ℕ
places i (placed d p n y) = cond (p.issue == i) n 0
places i (settled d n e g r m y) = 0
places i (redeemed d p k u c y) = 0

abbrev pub redeems : ℕ → Movement → ℕ
redeems i (placed d p n y) = 0
redeems i (settled d n e g r m y) = 0
redeems i (redeemed d p k u c y) = cond (k == i) (u + c) 0

pub record OrderlyPast (s : Start) (h : Past) : Type 0 where
  -- a joined instruction's partner has a lower serial, and the same order but for the sender
  pub partner : AllByRecursion
      (λ i. (n : ℕ) → i.fate ≡ fate.Joined n
      → (n < i.serial)
      × (total (λ x. one_if (has_serial n x && same_order x.order (counter i.order))) (accepted h) ≡ 1))
      (accepted h)
  -- one that was matched has exactly one joined to it, inside one participant none; no other has any
  pub joined_once : AllByRecursion
      (λ i. total (λ x. one_if (joins i.serial x.fate)) (accepted h)
      ≡ one_if (was_matched i && not (is_inside i.order)))
      (accepted h)
  -- each leg in the journal is one accepted instruction's, on its date, between its places, of its nominal and price
  pub legs : AllByRecursion
      (λ v. total (λ i. one_if (carries_out (setting_of s) v i)) (accepted h) ≡ one_if (is_settlement v))
      h.journal
  pub returns : ReturnsBehind [] h.journal
  -- an issue's outstanding nominal is what was placed less what was redeemed
  pub issued : (i : ℕ)
      → outstanding (setting_of s) (reads s.funds h.journal) i + total (redeems i) h.journal
      ≡ total (places i) h.journal

-- the serial of a leg
abbrev pub leg_serial : Movement → ℕ
leg_serial (placed d p n y) = 0
leg_serial (settled d n e g r m y) = n
leg_serial (redeemed d p i u c y) = 0

-- the leg that closing refused
abbrev pub last_leg : Fate → Leg
last_leg f = cond (alike f fate.ReturnRefused) return first

-- refused with 19, the giver's free nominal was short; with 20 it was not, and the money was
abbrev pub Short : Start → Amounts → List Blocking → Instruction → Type 0
Short s a bs i =
    ((i.cause ≡ Some NominalShort) × (free a bs (giver i.order (last_leg i.fate)) < i.order.nominal))
    ⊎ ((i.cause ≡ Some MoneyShort)
    × (i.order.nominal ≤ free a bs (giver i.order (last_leg i.fate)))
    × (affords a (leg_payment (setting_of s) i.order (last_leg i.fate)) ≡ false))

-- an instruction that a closing from h to h' refused was short at its last try, when the legs of lower serials had settled
pub record TriedLast (s : Start) (h h' : Past) (i : Instruction) : Type 0 where
  pub before : Journal
  pub rest : Journal
  pub journal : h'.journal ≡ (h.journal ++ before) ++ rest
  pub lower : AllByRecursion (λ v. leg_serial v < i.serial) before
  pub higher : AllByRecursion (λ v. i.serial < leg_serial v) rest
  pub short : Short s (reads s.funds (h.journal ++ before)) h.book.blockings.standing i

abbrev pub RefusedShort : Start → Past → Type 0
RefusedShort s h =
    is_on_a_day h.book ≡ true
    → AllByRecursion
    (λ i. is_leg_refused i.fate && was_matched i ≡ true → TriedLast s h (step s h call.Closing) i)
    (step s h call.Closing).book.instructions.standing

-- the rules' own laws
pub record RulesLawful (s : Start) (cs : List Call) : Type 0 where
  pub orderly : OrderlyPast s (history s cs)
  pub refused_short : RefusedShort s (history s cs)

abbrev pub RulesHold : Type 0
RulesHold = (s : Start) → Sensible s → (cs : List Call) → RulesLawful s cs

-- a question changes nothing
pub record QuestionsKeep : Type 0 where
  pub status : (v : View) (n : ℕ) → (next v (call.AskingStatus n)).0 ≡ v
  pub holding : (v : View) (p i : ℕ) → (next v (call.AskingHolding p i)).0 ≡ v

-- only a call that the state does not take is refused for the state
abbrev pub StateTakes : Type 0
StateTakes =
    (v : View) (c : Call) → (next v c).1 ≡ Err WrongState → suits v.book.standing.state c ≡ false

-- at most 256 instructions and 64 blockings stand, and the numbers given go up to 999,999
pub record Limited (is : Numbered Instruction) (bs : Numbered Blocking) : Type 0 where
  pub instructions : length is.standing ≤ 256
  pub blockings : length bs.standing ≤ 64
  pub serials : is.next ≤ 999999 + 1
  pub numbers : bs.next ≤ 999999 + 1

abbrev pub PlacesLimited : Type 0
PlacesLimited = (s : Start) (cs : List Call) → Limited (history s cs).book.instructions (history s cs).book.blockings

-- what is blocked at a place falls only by a release of that participant
abbrev pub BlockingsStay : Type 0
BlockingsStay =
    (v : View) (c : Call) (p : Place)
    → (blocked v.book.blockings.standing p ≤ blocked (next v c).0.book.blockings.standing p)
    ⊎ ((n : ℕ) × (c ≡ call.Releasing p.participant n))

-- orders that are compared as the same are equal in every field
abbrev pub SameOrdersEqual : Type 0
SameOrdersEqual = (o q : Order) → same_order o q ≡ true → o ≡ q

-- a placement is paid to the ministry, and a redemption by it, as much as own and customer nominal together
abbrev pub MinistrySide : Setting → Movement → Type 0
MinistrySide st (placed d p n y) = (price : ℕ) × (y ≡ payment st p.participant 0 price)
MinistrySide st (settled d n e g r m y) = Unit {0}
MinistrySide st (redeemed d p i u c y) = y ≡ payment st 0 p (u + c)

abbrev pub MinistryPaid : Type 0
MinistryPaid = (s : Start) (cs : List Call) → AllByRecursion (MinistrySide (setting_of s)) (history s cs).journal

-- placements and legs of an issue lie before its maturity, redemptions at it or later
abbrev pub Timely : Book → Movement → Type 0
Timely k (placed d p n y) = d < matures k p.issue
Timely k (settled d n e g r m y) = d < matures k g.issue
Timely k (redeemed d p i u c y) = (is_registered k i ≡ true) × (matures k i ≤ d)

abbrev pub IssuesTimely : Type 0
IssuesTimely = (s : Start) → Sensible s → (cs : List Call) → AllByRecursion (Timely (history s cs).book) (history s cs).journal

-- a fate is one of some, whichever serial a joined one is joined to
abbrev pub is_one_of : List Fate → Fate → Bool
is_one_of fs g = some_passes (alike g) fs

-- what each fate may be after one more call: a kept one may be matched as it wakes, and a joined one stays with its partner
abbrev pub may_move : Fate → Fate → Bool
may_move fate.Kept g =
    is_one_of (fate.Kept ∷ fate.Unmatched ∷ fate.Matched ∷ fate.Joined 0 ∷ fate.Cancelled ∷ []) g
may_move fate.Unmatched g = is_one_of (fate.Unmatched ∷ fate.Matched ∷ fate.Cancelled ∷ fate.Refused ∷ []) g
may_move fate.Matched g = is_one_of (fate.Matched ∷ fate.Settled ∷ fate.RepoOut ∷ fate.Refused ∷ []) g
may_move (fate.Joined n) g = joins n g
may_move fate.Settled g = alike g fate.Settled
may_move fate.RepoOut g = is_one_of (fate.RepoOut ∷ fate.RepoBack ∷ fate.ReturnRefused ∷ []) g
may_move fate.RepoBack g = alike g fate.RepoBack
may_move fate.Refused g = alike g fate.Refused
may_move fate.ReturnRefused g = alike g fate.ReturnRefused
may_move fate.Cancelled g = alike g fate.Cancelled

-- j is i after one more call: its serial and order are the same, and its fate is one that i's may move to
abbrev pub follows : Instruction → Instruction → Bool
follows i j = has_serial i.serial j && (same_order j.order i.order && may_move i.fate j.fate)

-- whatever call comes next, each accepted instruction is found once after it, its fate moved so or not at all
abbrev pub FatesMove : Type 0
FatesMove =
    (s : Start) → Sensible s → (cs : List Call) (c : Call)
    → AllByRecursion
    (λ i. total (λ j. one_if (follows i j)) (accepted (step s (history s cs) c)) ≡ 1)
    (accepted (history s cs))

-- no try has failed; the last one failed for want of nominal or of money
abbrev pub is_blank : Option Refusal → Bool
is_blank c = cause_number c == 0

abbrev pub is_short : Option Refusal → Bool
is_short c = cause_number c == 19 || cause_number c == 20

-- the causes that go with each fate: none before a leg is due; behind a refusal a try that failed, or no partner
abbrev pub cause_suits : Fate → Option Refusal → Bool
cause_suits fate.Kept c = is_blank c
cause_suits fate.Unmatched c = is_blank c
cause_suits fate.Matched c = is_blank c || is_short c
cause_suits (fate.Joined n) c = is_blank c
cause_suits fate.Settled c = is_blank c || is_short c
cause_suits fate.RepoOut c = is_blank c || is_short c
cause_suits fate.RepoBack c = is_blank c || is_short c
cause_suits fate.Refused c = is_short c || cause_number c == 21
cause_suits fate.ReturnRefused c = is_short c
cause_suits fate.Cancelled c = is_blank c

-- after every list of calls, each accepted instruction's cause goes with its fate
abbrev pub CausesSuit : Type 0
CausesSuit =
    (s : Start) → Sensible s → (cs : List Call)
    → AllByRecursion (λ i. cause_suits i.fate i.cause ≡ true) (accepted (history s cs))

-- opening goes to the one business day that comes next, or, where none is later, to no day
abbrev pub GoesOn : List ℕ → ℕ → Option Date → ℕ → Type 0
GoesOn days before None after = (after ≡ before) × AllByRecursion (λ b. b ≤ before) days
GoesOn days before (Some d) after =
    (is_business d.number days ≡ true) × (count_between before d.number days ≡ 1) × (after ≡ d.number)

-- business days pass one by one: none is left out or opened twice, and no call but opening changes the day
pub record DaysPass : Type 0 where
  pub opening : (v : View) (d : Option Date)
      → RisingAbove 0 v.setting.days
      → (next v call.Opening).1 ≡ Ok (answer.Opened d)
      → GoesOn v.setting.days v.book.standing.day d (next v call.Opening).0.book.standing.day
  pub others : (v : View) (c : Call)
      → (c ≢ call.Opening)
      → (next v c).0.book.standing.day ≡ v.book.standing.day
