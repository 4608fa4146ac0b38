-- Amounts kept in place and the journal agree.
use Rattle.std.proofs.Common.{◌≡◌, ℕ, ◌+◌, ◌-◌, List, [], ◌∷◌, ◌++◌, sym, refl, ap, ◌∙◌, subst, arith}
use Rattle.std.proofs.lemmas.List.{append-nil, append_assoc}
use Rattle.money.specs.Funds.{Funds}
use Rattle.rulebook.specs.declared.Call.{Call}
use Rattle.rulebook.specs.Answers.{Reply}
use Rattle.rulebook.specs.Words.{Place, Movement, takes, brings, money, out_of, into, after, afters, Amounts, Blocking, Start}
use Rattle.rulebook.specs.Rules.{answer_by, moves_by}
use Rattle.rulebook.specs.Journal.{Journal, taken, brought, paid, received, had, reads, new_book, setting_of, Past, new_past, outcome, step, history_from, history, answers_from, View, next, run, first_view, told}
use Rattle.rulebook.specs.Laws.{JournalAgrees}
use Rattle.rulebook.proofs.Totals.{total_push}
use Rattle.rulebook.proofs.Covered.{Along, Covered, covers}
use Rattle.rulebook.proofs.Steps.{each_history}

-- the amounts are the journal's, and none was ever short
pub record Shown (f : Funds) (a : Amounts) (j : Journal) : Type 0 where
  pub nominal : (p : Place) → a.nominal p + taken j p ≡ brought j p
  pub balance : (x : ℕ) → a.balance x + paid j x ≡ had f x + received j x

-- such amounts are what the journal reads
pub shown_reads : (f : Funds) (a : Amounts) (j : Journal) → Shown f a j → a ≡ reads f j
shown_reads f a j h = λ i. record { nominal = λ p. nominals p i; balance = λ x. balances x i }
  where
    nominals : (p : Place) → a.nominal p ≡ (reads f j).nominal p
    nominals p = omega (arith, h.nominal p)

    balances : (x : ℕ) → a.balance x ≡ (reads f j).balance x
    balances x = omega (arith, h.balance x)

-- one more covered movement behind the journal, and several
pub shown_more : (f : Funds) (a : Amounts) (j : Journal) (bs : List Blocking) (v : Movement) → Shown f a j → Covered bs a v
    → Shown f (after v a) (j ++ v ∷ [])
shown_more f a j bs v h c =
    record {
      nominal = λ p. omega (arith, h.nominal p, c.nominal p, total_push (λ w. takes w p) j v, total_push (λ w. brings w p) j v);
      balance = λ x.
          omega (arith, h.balance x, c.balance x, total_push (λ w. out_of (money w) x) j v, total_push (λ w. into (money w) x) j v);
    }

shown_after : (f : Funds) (a : Amounts) (j : Journal) (bs : List Blocking) (vs : List Movement) → Shown f a j → Along (Covered bs) vs a
    → Shown f (afters vs a) (j ++ vs)
shown_after f a j bs [] h c = subst (λ (l : Journal). Shown f a l) (sym (append-nil j)) h
shown_after f a j bs (v ∷ vs) h c =
    subst (λ (l : Journal). Shown f (afters vs (after v a)) l) (append_assoc j (v ∷ []) vs)
    (shown_after f (after v a) (j ++ v ∷ []) bs vs (shown_more f a j bs v h c.0) c.1)

-- a journal in which nothing was short
abbrev pub Backed : Funds → Journal → Type 0
Backed f j = Shown f (reads f j) j

pub none_backed : (f : Funds) → Backed f []
none_backed f = record { nominal = λ p. refl; balance = λ x. omega arith }

pub entered : (f : Funds) (j : Journal) (bs : List Blocking) (vs : List Movement) → Backed f j → Along (Covered bs) vs (reads f j)
    → (afters vs (reads f j) ≡ reads f (j ++ vs)) × Backed f (j ++ vs)
entered f j bs vs h c =
    let w = shown_after f (reads f j) j bs vs h c in
    let e = shown_reads f (afters vs (reads f j)) (j ++ vs) w in
    (e, subst (λ (a : Amounts). Shown f a (j ++ vs)) e w)

-- what a past shows
abbrev pub shown : Start → Past → View
shown s h = record { setting = setting_of s; book = h.book; amounts = reads s.funds h.journal }

-- one call, on amounts in place and in the journal
pub stepped : (s : Start) (h : Past) (c : Call) → Backed s.funds h.journal
    → (next (shown s h) c ≡ (shown s (step s h c), answer_by (outcome s h c))) × Backed s.funds (step s h c).journal
stepped s h c b =
    let o = outcome s h c in
    let r = entered s.funds h.journal h.book.blockings.standing (moves_by o) b
    (covers (setting_of s) (reads s.funds h.journal) h.book c) in
    (λ i. (record { setting = setting_of s; book = (step s h c).book; amounts = r.0 i }, answer_by o), r.1)

-- a list of calls
pub agrees_from : (s : Start) (h : Past) (cs : List Call) → Backed s.funds h.journal
    → ◌≡◌ {A = View × List Reply} (run (shown s h) cs) (shown s (history_from s h cs), answers_from s h cs)
agrees_from s h [] b = refl
agrees_from s h (c ∷ cs) b =
    let both = stepped s h c b in
    let after : View × Reply → View × List Reply = λ x. ((run x.0 cs).0, x.1 ∷ (run x.0 cs).1) in
    ap after both.0
    ∙ ap (λ (x : View × List Reply). (x.0, answer_by (outcome s h c) ∷ x.1)) (agrees_from s (step s h c) cs both.1)

pub first_shown : (s : Start) → first_view s ≡ told s []
first_shown s = λ i. record { setting = setting_of s; book = new_book; amounts = record { nominal = λ p. 0; balance = λ x. had_is x i } }
  where
    had_is : (x : ℕ) → had s.funds x ≡ had s.funds x + 0 - 0
    had_is x = omega arith

pub journal_agrees : JournalAgrees
journal_agrees s cs =
    ap (λ (v : View). run v cs) (first_shown s) ∙ agrees_from s new_past cs (none_backed s.funds)

-- nothing is ever short
pub backed : (s : Start) (cs : List Call) → Backed s.funds (history s cs).journal
backed s = each_history s (λ h. Backed s.funds h.journal) (none_backed s.funds) (λ cs c b. (stepped s (history s cs) c b).1)
