-- A call that obeys the rules works: what the journal says follows.
use Rattle.std.proofs.Common.{◌≡◌, ℕ, zero, suc, List, [], ◌∷◌, ◌++◌, take, sym, refl, ap, ◌∙◌, subst}
use Rattle.std.proofs.lemmas.List.{append-nil, append_assoc}
use Rattle.rulebook.specs.declared.Call.{Call}
use Rattle.rulebook.specs.Answers.{Reply}
use Rattle.rulebook.specs.Words.{Start}
use Rattle.rulebook.specs.Rules.{Outcome, answer_by}
use Rattle.rulebook.specs.Journal.{Past, new_past, outcome, step, history_from, answers_from, history, answers, reply, View, ruling, view_by, next, first_view, told}
use Rattle.rulebook.specs.Laws.{Sensible, JournalLawful}
use Rattle.rulebook.specs.Works.{Tells, Continues, Works, ContinuesAll, Worked}
use Rattle.rulebook.proofs.Agreement.{backed, shown, stepped, first_shown}
use Rattle.rulebook.proofs.Steps.{history_more}

-- one more call behind a list, and the front of a list
pub answers_more : (s : Start) (h : Past) (cs : List Call) (c : Call)
    → answers_from s h (cs ++ c ∷ []) ≡ answers_from s h cs ++ answer_by (outcome s (history_from s h cs) c) ∷ []
answers_more s h [] c = refl
answers_more s h (d ∷ cs) c = ap (λ ws. answer_by (outcome s h d) ∷ ws) (answers_more s (step s h d) cs c)

pub answers_take : (s : Start) (h : Past) (n : ℕ) (cs : List Call)
    → take n (answers_from s h cs) ≡ answers_from s h (take n cs)
answers_take s h zero cs = refl
answers_take s h (suc n) [] = refl
answers_take s h (suc n) (d ∷ cs) = ap (λ ws. answer_by (outcome s h d) ∷ ws) (answers_take s (step s h d) n cs)

-- one more call on what the journal of a list of calls shows
pub told_more : (s : Start) (cs : List Call) (c : Call)
    → ◌≡◌ {A = View × Reply} (next (told s cs) c) (told s (cs ++ c ∷ []), reply s cs c)
told_more s cs c =
    (stepped s (history s cs) c (backed s cs)).0
    ∙ ap (λ (h : Past). (shown s h, reply s cs c)) (sym (history_more s new_past cs c))

-- a new register tells its start and no call
pub tells_first : (s : Start) (v : View) → Sensible s → v ≡ first_view s → Tells v s []
tells_first s v w e = record { sensible = w; shows = e ∙ first_shown s }

-- one more call behind a list of calls
pub worked_more : (s : Start) (cs : List Call) (v w : View) (ws : List Reply) (c : Call) (a : Reply)
    → ws ≡ answers s cs → Tells v s cs → Works v w c a
    → (ws ++ a ∷ [] ≡ answers s (cs ++ c ∷ [])) × Tells w s (cs ++ c ∷ [])
worked_more s cs v w ws c a e t h =
    let n = h.continues s cs t in (
      ap (λ (x : List Reply). x ++ a ∷ []) e
          ∙ ap (λ (x : Reply). answers s cs ++ x ∷ []) n.0
          ∙ sym (answers_more s new_past cs c),
      n.1,
    )

module _ (lawful : JournalLawful) where
  pub works : (before after : View) (c : Call) (a : Reply) → ◌≡◌ {A = View × Reply} (after, a) (next before c) → Works before after c a
  works before after c a obeys = record { obeys = obeys; continues = continues }
    where
      continues : Continues before after c a
      continues s cs t =
          let e : ◌≡◌ {A = View × Reply} (after, a) (told s (cs ++ c ∷ []), reply s cs c) =
          obeys ∙ ap (λ (v : View). next v c) t.shows ∙ told_more s cs c in (
            ap (λ (x : View × Reply). x.1) e,
            record { sensible = t.sensible; shows = ap (λ (x : View × Reply). x.0) e },
            lawful s t.sensible (cs ++ c ∷ []),
          )

  -- the same from what the rules make of the call
  pub works_by : (before after : View) (c : Call) (o : Outcome) → ruling before c ≡ o → after ≡ view_by before o
      → Works before after c (answer_by o)
  works_by before after c o e same =
      works before after c (answer_by o)
      (ap (λ (v : View). (v, answer_by o)) same ∙ ap (λ (x : Outcome). (view_by before x, answer_by x)) (sym e))

  pub continues_none : (v : View) → ContinuesAll v v [] []
  continues_none v s cs t = (
    append-nil (answers s cs) ∙ ap (answers s) (sym (append-nil cs)),
    subst (Tells v s) (sym (append-nil cs)) t,
    lawful s t.sensible (cs ++ []),
  )

  pub continues_more : (u v w : View) (ds : List Call) (ws : List Reply) (c : Call) (a : Reply)
      → ContinuesAll u v ds ws → Works v w c a → ContinuesAll u w (ds ++ c ∷ []) (ws ++ a ∷ [])
  continues_more u v w ds ws c a h k s cs t =
      let b = h s cs t in
      let m = worked_more s (cs ++ ds) v w (answers s cs ++ ws) c a b.0 b.1 k in
      let e = append_assoc cs ds (c ∷ []) in (
        sym (append_assoc (answers s cs) ws (a ∷ [])) ∙ m.0 ∙ ap (answers s) e,
        subst (Tells w s) e m.1,
        lawful s t.sensible (cs ++ (ds ++ c ∷ [])),
      )

  -- a whole list of calls on a new register
  pub worked : (s : Start) (cs : List Call) (v : View) (ws : List Reply) → ws ≡ answers s cs → Tells v s cs → Worked s cs v ws
  worked s cs v ws e t =
      record {
        replies = e;
        tells = t;
        lawful = lawful s t.sensible cs;
        throughout = λ n. (ap (take n) e ∙ answers_take s new_past n cs, lawful s t.sensible (take n cs));
      }
