-- The journal of the calls, what a register shows, and the run over a list of calls in both.
use Rattle.std.specs.Prelude.{ℕ, ◌+◌, ◌-◌, cond, List, [], ◌∷◌, ◌++◌, replicate, None, slice_index}
use Rattle.money.specs.Funds.{Funds}
use Rattle.rulebook.specs.declared.Call.{Call}
use Rattle.rulebook.specs.declared.Call.TheVariants as call
use Rattle.rulebook.specs.States.{new_standing}
use Rattle.rulebook.specs.Answers.{Reply}
use Rattle.rulebook.specs.Words.{total, Place, Leg, Movement, takes, brings, money, out_of, into, is_leg, Amounts, afters, Instruction, Setting, Book, book, Start}
use Rattle.rulebook.specs.Checks.{is_shut}
use Rattle.rulebook.specs.Matching.{leavers}
use Rattle.rulebook.specs.Rules.{Outcome, rule, answer_by, book_by, moves_by}

-- the journal: the movements, in order
abbrev pub Journal : Type 0
Journal = List Movement

-- the nominal taken from a place, and brought to it
abbrev pub taken : Journal → Place → ℕ
taken j p = total (λ v. takes v p) j

abbrev pub brought : Journal → Place → ℕ
brought j p = total (λ v. brings v p) j

-- the money paid from an account, and received on it
abbrev pub paid : Journal → ℕ → ℕ
paid j x = total (λ v. out_of (money v) x) j

abbrev pub received : Journal → ℕ → ℕ
received j x = total (λ v. into (money v) x) j

-- how often that leg of that serial stands in the journal
abbrev pub times : Journal → ℕ → Leg → ℕ
times j n e = total (is_leg n e) j

-- what an account has at the start
abbrev pub had : Funds → ℕ → ℕ
had f x = slice_index f.balances x

-- the amounts that the journal shows, with the funds at the start
abbrev pub reads : Funds → Journal → Amounts
reads f j = record { nominal = λ p. brought j p - taken j p; balance = λ x. had f x + received j x - paid j x }

-- a new register is shut, before its first day, and has no issues
abbrev pub new_book : Book
new_book = book new_standing (replicate 32 None) record { standing = []; next = 1 } record { standing = []; next = 1 }

abbrev pub setting_of : Start → Setting
setting_of s = record { participants = s.participants; days = s.days; accounts = s.funds.accounts }

-- what a list of calls comes to: the book, the journal, and the instructions that left the list, the latest first
pub record Past : Type 0 where
  pub book : Book
  pub journal : Journal
  pub departed : List Instruction

abbrev pub new_past : Past
new_past = record { book = new_book; journal = []; departed = [] }

-- every accepted instruction: those on the list, and those that left it
abbrev pub accepted : Past → List Instruction
accepted h = h.book.instructions.standing ++ h.departed

-- the instructions that a call takes off the list: only opening does
abbrev pub leaving : Book → Call → List Instruction
leaving k call.Opening = cond (is_shut k) (leavers k.instructions.standing) []
leaving k (call.NewIssue i d) = []
leaving k (call.Placing o) = []
leaving k (call.Instructing o) = []
leaving k (call.Cancelling p n) = []
leaving k (call.Blocking o) = []
leaving k (call.Releasing p n) = []
leaving k call.Round = []
leaving k call.Closing = []
leaving k (call.Redeeming i p) = []
leaving k (call.AskingStatus n) = []
leaving k (call.AskingHolding p i) = []

-- one call in the journal: the rules read its sums, and what moves goes behind
abbrev pub outcome : Start → Past → Call → Outcome
outcome s h c = rule (setting_of s) (reads s.funds h.journal) h.book c

abbrev pub step : Start → Past → Call → Past
step s h c =
    record {
      book = book_by h.book (outcome s h c);
      journal = h.journal ++ moves_by (outcome s h c);
      departed = leaving h.book c ++ h.departed;
    }

-- a list of calls, from any past; and from a new register
abbrev pub history_from : Start → Past → List Call → Past
history_from s h [] = h
history_from s h (c ∷ cs) = history_from s (step s h c) cs

abbrev pub answers_from : Start → Past → List Call → List Reply
answers_from s h [] = []
answers_from s h (c ∷ cs) = answer_by (outcome s h c) ∷ answers_from s (step s h c) cs

abbrev pub history : Start → List Call → Past
history s cs = history_from s new_past cs

abbrev pub answers : Start → List Call → List Reply
answers s cs = answers_from s new_past cs

-- the journal's answer to one more call
abbrev pub reply : Start → List Call → Call → Reply
reply s cs c = answer_by (outcome s (history s cs) c)

-- all that a register shows
pub record View : Type 0 where
  pub setting : Setting
  pub book : Book
  pub amounts : Amounts

abbrev pub ruling : View → Call → Outcome
ruling v c = rule v.setting v.amounts v.book c

-- what a register shows after an outcome: amounts change in place
abbrev pub view_by : View → Outcome → View
view_by v o = record { setting = v.setting; book = book_by v.book o; amounts = afters (moves_by o) v.amounts }

-- one call on what a register shows: what it shows afterwards, and the answer
abbrev pub next : View → Call → View × Reply
next v c = (view_by v (ruling v c), answer_by (ruling v c))

-- a list of calls on what a register shows
abbrev pub run : View → List Call → View × List Reply
run v [] = (v, [])
run v (c ∷ cs) =
    let rest = run (next v c).0 cs in
    (rest.0, (next v c).1 ∷ rest.1)

-- what a new register shows
abbrev pub first_view : Start → View
first_view s =
    record {
      setting = setting_of s;
      book = new_book;
      amounts = record { nominal = λ _. 0; balance = λ x. had s.funds x };
    }

-- what the journal of a list of calls shows
abbrev pub told : Start → List Call → View
told s cs =
    record { setting = setting_of s; book = (history s cs).book; amounts = reads s.funds (history s cs).journal }
