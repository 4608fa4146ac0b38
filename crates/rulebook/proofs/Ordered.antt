-- No call changes an order: what holds of every order on the list goes on holding.
use Rattle.std.proofs.Common.{◌≡◌, not, List, [], ◌∷◌, sym, ◌∙◌, subst}
use Rattle.std.specs.List.{AllByRecursion}
use Rattle.std.proofs.ByRecursion.{All-push}
use Rattle.rulebook.specs.declared.Order.{Order}
use Rattle.rulebook.specs.declared.Call.{Call}
use Rattle.rulebook.specs.States.{opened}
use Rattle.rulebook.specs.Words.{Instruction, Start, Book}
use Rattle.rulebook.specs.Checks.{today, instruct_checks}
use Rattle.rulebook.specs.Matching.{leaves, stayers}
use Rattle.rulebook.specs.Rules.{incoming, rounded}
use Rattle.rulebook.specs.Journal.{reads, setting_of, Past, step, history}
use Rattle.rulebook.proofs.Answering.{Passes}
use Rattle.rulebook.proofs.Steps.{each_call, each_history}
use Rattle.rulebook.proofs.Roll.{bare, bares, arrive_bare, wake_all_bare, bare_passing}
use Rattle.rulebook.proofs.Turns.{cancelled_bare, ended_bare, rounds_bare}

-- Q of every order on a list
abbrev pub Orders : (Order → Type 0) → List Instruction → Type 0
Orders Q is = AllByRecursion (λ i. Q i.order) (bares is)

module _ (Q : Order → Type 0) where
  abbrev Of : Instruction → Type 0
  Of i = Q i.order

  pub orders_plain : (is : List Instruction) → Orders Q is → AllByRecursion Of is
  orders_plain [] h = tt
  orders_plain (i ∷ is) h = (h.0, orders_plain is h.1)

  -- one call: Q of the orders on the list, and of the one that comes to it
  ordered : (s : Start) (h : Past) (c : Call) → ((o : Order) → Passes (instruct_checks (setting_of s) h.book o) → Q o)
      → Orders Q h.book.instructions.standing → Orders Q (step s h c).book.instructions.standing
  ordered s h c new a =
      each_call s h (λ _ is _ _. Orders Q is.standing)
      record {
        plain = λ _ _. a;
        opening = λ _. subst (AllByRecursion Of) (sym (wake_all_bare (opened s.days h.book.standing).day [] (stayers xs))) (bare_passing Of (λ i. not (leaves xs i)) xs a);
        instructing = λ o g. subst (AllByRecursion Of) (sym (arrive_bare (today h.book) xs (incoming h.book o))) (All-push Of (bares xs) (bare (incoming h.book o)) a (new o g));
        cancelling = λ p n. subst (AllByRecursion Of) (sym (cancelled_bare p n xs)) a;
        round = subst (AllByRecursion Of) (sym tried) a;
        closing = λ _. subst (AllByRecursion Of) (sym (ended_bare (today h.book) (rounded (setting_of s) (reads s.funds h.journal) h.book).0 ∙ tried)) a;
        resting = λ _. a;
      }
      c
    where
      xs : List Instruction
      xs = h.book.instructions.standing

      tried : bares (rounded (setting_of s) (reads s.funds h.journal) h.book).0 ≡ bares xs
      tried = rounds_bare (setting_of s) (today h.book) h.book.blockings.standing xs (reads s.funds h.journal)

  -- every list of calls
  pub orders_hold : (s : Start) → ((k : Book) (o : Order) → Passes (instruct_checks (setting_of s) k o) → Q o)
      → (cs : List Call) → Orders Q (history s cs).book.instructions.standing
  orders_hold s new =
      each_history s (λ h. Orders Q h.book.instructions.standing) tt
      (λ cs c. ordered s (history s cs) c (new (history s cs).book))
