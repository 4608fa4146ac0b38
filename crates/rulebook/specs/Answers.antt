-- What an answer says: its letter, and the values behind it.
use Rattle.std.specs.Prelude.{ℕ, List, [], ◌∷◌, Some, None, Ok, Err, Option, Result}
use Rattle.refusals.specs.declared.Refusal.{Refusal}
use Rattle.refusals.specs.Table.{number}
use Rattle.rulebook.specs.declared.Fate.{Fate}
use Rattle.rulebook.specs.declared.Fate.TheVariants as fate
use Rattle.rulebook.specs.declared.Ending.{Ending}
use Rattle.rulebook.specs.declared.Answer.{Answer}
use Rattle.rulebook.specs.declared.Answer.TheVariants.{Opened, Registered, Placed, Instructed, Cancelled, Blocked, Released, RoundMade, Closed, Redeemed, Status, Holds}
use Rattle.rulebook.specs.declared.Fault.{Fault}
use Rattle.rulebook.specs.States.{date_of}

-- a value of an answer: a number in base ten, or a letter
pub data Value : Type 0 where
  num : ℕ → Value
  letter : ℕ → Value

-- the letter of a fate
abbrev pub fate_letter : Fate → ℕ
fate_letter fate.Kept = 107
fate_letter fate.Unmatched = 117
fate_letter fate.Matched = 109
fate_letter (fate.Joined n) = 106
fate_letter fate.Settled = 115
fate_letter fate.RepoOut = 111
fate_letter fate.RepoBack = 98
fate_letter fate.Refused = 114
fate_letter fate.ReturnRefused = 108
fate_letter fate.Cancelled = 120

-- a cause as it is shown: 0 where there is none
abbrev pub cause_number : Option Refusal → ℕ
cause_number None = 0
cause_number (Some r) = number r

-- what stands behind a fate: a joined instruction's partner, else the cause
abbrev pub behind_fate : Fate → ℕ → ℕ
behind_fate fate.Kept c = c
behind_fate fate.Unmatched c = c
behind_fate fate.Matched c = c
behind_fate (fate.Joined n) c = n
behind_fate fate.Settled c = c
behind_fate fate.RepoOut c = c
behind_fate fate.RepoBack c = c
behind_fate fate.Refused c = c
behind_fate fate.ReturnRefused c = c
behind_fate fate.Cancelled c = c

-- what closing came to: how many legs it settled, and how many instructions and returns it refused
abbrev pub ending : ℕ → ℕ → Ending
ending legs refused = record { legs = legs; refused = refused }

-- the values of an acceptance
abbrev pub answer_values : Answer → List Value
answer_values (Opened d) = num (date_of d) ∷ []
answer_values (Registered i) = num i ∷ []
answer_values (Placed n) = num n ∷ []
answer_values (Instructed s) = num s ∷ []
answer_values (Cancelled s) = num s ∷ []
answer_values (Blocked b) = num b ∷ []
answer_values (Released b) = num b ∷ []
answer_values (RoundMade n) = num n ∷ []
answer_values (Closed e) = num e.legs ∷ num e.refused ∷ []
answer_values (Redeemed n) = num n ∷ []
answer_values (Status f c) = letter (fate_letter f) ∷ num (behind_fate f (cause_number c)) ∷ []
answer_values (Holds h) = num h.own ∷ num h.customer ∷ num h.blocked_own ∷ num h.blocked_customer ∷ []

-- the answer to a call: an acceptance, or the refusal
abbrev pub Reply : Type 0
Reply = Result Answer Refusal

-- a refusal that no field of a line is the reason for
abbrev pub of_no_field : Refusal → Fault
of_no_field r = record { refusal = r; field = None }

-- a field as it is shown: 0 where there is none
abbrev pub field_number : Option ℕ → ℕ
field_number None = 0
field_number (Some n) = n

-- the letter of a line's answer: A for an acceptance, N for a refusal
abbrev pub reply_letter : Result Answer Fault → ℕ
reply_letter (Ok a) = 65
reply_letter (Err f) = 78

-- the values behind the letter: those of the acceptance, or the refusal's number and the field
abbrev pub reply_values : Result Answer Fault → List Value
reply_values (Ok a) = answer_values a
reply_values (Err f) = num (number f.refusal) ∷ num (field_number f.field) ∷ []
