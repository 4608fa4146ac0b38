-- What every call on a register says: the rule, and the history.
use Rattle.std.specs.Prelude.{◌≡◌, ℕ, List, [], ◌∷◌, ◌++◌, take}
use Rattle.rulebook.specs.declared.Call.{Call}
use Rattle.rulebook.specs.Answers.{Reply}
use Rattle.rulebook.specs.Words.{Start}
use Rattle.rulebook.specs.Journal.{View, next, run, first_view, told, answers, reply}
use Rattle.rulebook.specs.Laws.{Sensible, Lawful}

-- a register shows what the journal of these calls shows, from a start that can be made
pub record Tells (v : View) (s : Start) (cs : List Call) : Type 0 where
  pub sensible : Sensible s
  pub shows : v ≡ told s cs

-- whatever list of calls led here: the answer is the journal's, the register tells one call more, and the journal is lawful
abbrev pub Continues : View → View → Call → Reply → Type 0
Continues before after c a =
    (s : Start) (cs : List Call) → Tells before s cs
    → (a ≡ reply s cs c) × Tells after s (cs ++ c ∷ []) × Lawful s (cs ++ c ∷ [])

-- what every call says
pub record Works (before after : View) (c : Call) (a : Reply) : Type 0 where
  pub obeys : ◌≡◌ {A = View × Reply} (after, a) (next before c)
  pub continues : Continues before after c a

-- the same of a list of calls: their answers are the journal's behind those of the calls before
abbrev pub ContinuesAll : View → View → List Call → List Reply → Type 0
ContinuesAll before after ds ws =
    (s : Start) (cs : List Call) → Tells before s cs
    → (answers s cs ++ ws ≡ answers s (cs ++ ds)) × Tells after s (cs ++ ds) × Lawful s (cs ++ ds)

-- a whole list of calls on a new register: at every place of it the answers so far are the journal's, and the journal is lawful
pub record Worked (s : Start) (cs : List Call) (v : View) (ws : List Reply) : Type 0 where
  pub replies : ws ≡ answers s cs
  pub tells : Tells v s cs
  pub lawful : Lawful s cs
  pub throughout : (n : ℕ) → (take n ws ≡ answers s (take n cs)) × Lawful s (take n cs)

-- a call that obeys the rules works, whatever led to it
abbrev pub ObeyingWorks : Type 0
ObeyingWorks =
    (before after : View) (c : Call) (a : Reply) → ◌≡◌ {A = View × Reply} (after, a) (next before c)
    → Works before after c a

-- every list of calls by the rules on a new register works, at every place of it
abbrev pub RunsWork : Type 0
RunsWork =
    (s : Start) → Sensible s → (cs : List Call) → Worked s cs (run (first_view s) cs).0 (run (first_view s) cs).1
