-- What every call keeps: each leg is one accepted instruction's, each return has its first leg before it.
use Rattle.std.proofs.Common.{◌≡◌, ℕ, ◌+◌, ◌≤◌, false, ◌&&◌, ltb, List, [], ◌∷◌, ◌++◌, sym, refl, ap, ◌∙◌, subst, arith}
use Rattle.std.specs.List.{AllByRecursion}
use Rattle.std.proofs.lemmas.List.{append-nil, append_assoc}
use Rattle.std.proofs.ByRecursion.{All-append, All-weaker}
use Rattle.std.proofs.lemmas.Bool.{ne_eqb, and_left}
use Rattle.rulebook.specs.declared.Order.{Order}
use Rattle.rulebook.specs.declared.Fate.TheVariants as fate
use Rattle.rulebook.specs.declared.Call.{Call}
use Rattle.rulebook.specs.States.{Standing, opened}
use Rattle.rulebook.specs.Words.{first, one_if, total, return, Movement, placed, settled, redeemed, Instruction, Setting, Start}
use Rattle.rulebook.specs.Checks.{today, has_serial}
use Rattle.rulebook.specs.Matching.{arrive, wake_all, leaves, leavers, stayers, cancelled_in}
use Rattle.rulebook.specs.Rounds.{ended_all}
use Rattle.rulebook.specs.Rules.{incoming, rounded as round_of}
use Rattle.rulebook.specs.Journal.{Journal, times, reads, setting_of, Past, step, history}
use Rattle.rulebook.specs.Laws.{with_serial, Sensible, carries_out, is_settlement, ReturnsBehind}
use Rattle.rulebook.proofs.Totals.{total_append, total_push, total_split, member_le, all_front, all_both, Member}
use Rattle.rulebook.proofs.Roll.{bare, bares, arrive_bare, wake_all_bare, total_bare, total_roll}
use Rattle.rulebook.proofs.Punctual.{Well, due_day}
use Rattle.rulebook.proofs.Endings.{well_holds, out_holds}
use Rattle.rulebook.proofs.Settling.{Within, Proper, Rounded, rounded, carries_bare, Apt}
use Rattle.rulebook.proofs.Steps.{each_call, each_history, plain_times}
use Rattle.rulebook.proofs.Partners.{remembered, kin}
use Rattle.rulebook.proofs.Turns.{cancelled_bare, ended_bare, rounds_bare}

-- what is kept, of the instructions, their next number, the journal, and those that left
pub record Steady (s : Start) (xs : List Instruction) (next : ℕ) (j : Journal) (gone : List Instruction) : Type 0 where
  pub proper : AllByRecursion (Proper (setting_of s) (xs ++ gone) next) j
  pub returns : ReturnsBehind [] j

abbrev pub Kept : Start → Past → Type 0
Kept s h = Steady s h.book.instructions.standing h.book.instructions.next h.journal h.departed

behind_append : (seen xs ys : Journal) → ReturnsBehind seen xs → ReturnsBehind (seen ++ xs) ys → ReturnsBehind seen (xs ++ ys)
behind_append seen [] ys h g = rw append-nil at g
behind_append seen (x ∷ xs) ys h g =
    (h.0, behind_append (seen ++ x ∷ []) xs ys h.1 (subst (λ (l : Journal). ReturnsBehind l ys) (sym (append_assoc seen (x ∷ []) xs)) g))

zeros : (xs : List Instruction) → total (λ (_ : Instruction). one_if false) xs ≡ 0
zeros [] = refl
zeros (x ∷ xs) = omega (arith, zeros xs)

-- movements that are no legs
plain_proper : (st : Setting) (ns : List Instruction) (next : ℕ) (v : Movement) → is_settlement v ≡ false → Proper st ns next v
plain_proper st ns next (placed d p n y) e = (tt, zeros ns)
plain_proper st ns next (settled d n l g r m y) e = let z : ◌≡◌ {A = ℕ} 0 1 = cc in absurd (omega arith)
plain_proper st ns next (redeemed d p i u c y) e = (tt, zeros ns)

plain_behind : (seen vs : Journal) → AllByRecursion (λ v. is_settlement v ≡ false) vs → ReturnsBehind seen vs
plain_behind seen [] e = tt
plain_behind seen (v ∷ vs) e =
    (λ n. omega (arith, plain_times (v ∷ []) (e.0, tt) n return), plain_behind (seen ++ v ∷ []) vs e.1)

-- a new serial carries out no leg that stands in the journal
wider : (st : Setting) (next : ℕ) (x : Instruction) (v : Movement) → x.serial ≡ next → Within next v
    → Within (next + 1) v × (one_if (carries_out st v x) ≡ 0)
wider st next x (placed d p n y) e w = (w, refl)
wider st next x (settled d n l g r m y) e w =
    (omega (arith, w), ap one_if (and_left (has_serial n x) _ (ne_eqb x.serial n (λ z. omega (arith, w)))))
wider st next x (redeemed d p i u c y) e w = (w, refl)

below_next : (n next : ℕ) → one_if (ltb 0 n && ltb n next) ≤ one_if (ltb n next)
below_next n next = grind arith

module _ (s : Start) (h : Past) (k : Kept s h)
    (known : (n : ℕ) → with_serial h n ≡ one_if (ltb 0 n && ltb n h.book.instructions.next))
    (apt : AllByRecursion (Apt (today h.book) h.journal) h.book.instructions.standing) where
  abbrev sd : Standing
  sd = h.book.standing

  abbrev xs : List Instruction
  xs = h.book.instructions.standing

  abbrev next : ℕ
  next = h.book.instructions.next

  abbrev gone : List Instruction
  gone = h.departed

  abbrev carried : Movement → Instruction → ℕ
  carried v i = one_if (carries_out (setting_of s) v i)

  -- other fates, on the same roll, and more in the journal
  turns : (ys : List Instruction) (vs : List Movement) → bares ys ≡ bares xs
      → AllByRecursion (Proper (setting_of s) (xs ++ gone) next) vs → ReturnsBehind h.journal vs → Steady s ys next (h.journal ++ vs) gone
  turns ys vs b p r =
      record {
        proper = All-weaker
            (Proper (setting_of s) (xs ++ gone) next)
            (Proper (setting_of s) (ys ++ gone) next)
            (λ v q. (q.0, omega (arith, q.1, total_append (carried v) ys gone, total_append (carried v) xs gone, total_roll (carried v) (carries_bare (setting_of s) v) xs ys b)))
            (h.journal ++ vs)
            (All-append _ h.journal vs k.proper p);
        returns = behind_append [] h.journal vs k.returns r;
      }

  -- a round, and closing after it
  abbrev made : List Instruction × List Movement
  made = round_of (setting_of s) (reads s.funds h.journal) h.book

  made_bare : bares made.0 ≡ bares xs
  made_bare = rounds_bare (setting_of s) sd.day h.book.blockings.standing xs (reads s.funds h.journal)

  went : Rounded (setting_of s) (xs ++ gone) next h.journal made.1
  went =
      rounded (setting_of s) sd.day h.book.blockings.standing (xs ++ gone) next
      (λ n. omega (arith, known n, below_next n next))
      xs h.journal (reads s.funds h.journal) apt (all_front (Member (xs ++ gone)) xs gone (member_le (xs ++ gone)))

  -- one more instruction
  instructs : (o : Order) → Steady s (arrive sd.day xs (incoming h.book o)) (next + 1) (h.journal ++ []) gone
  instructs o =
      subst (λ (j : Journal). Steady s ys (next + 1) j gone) (sym (append-nil h.journal))
      record {
        proper = All-weaker
            (Proper (setting_of s) (xs ++ gone) next)
            (Proper (setting_of s) (ys ++ gone) (next + 1))
            (λ v q. let z = wider (setting_of s) next (bare x) v refl q.0 in (z.0, omega (arith, q.1, z.1, more v)))
            h.journal
            k.proper;
        returns = k.returns;
      }
    where
      x : Instruction
      x = incoming h.book o

      ys : List Instruction
      ys = arrive sd.day xs x

      more : (v : Movement) → total (carried v) (ys ++ gone) ≡ total (carried v) (xs ++ gone) + carried v (bare x)
      more v =
          omega (
            arith,
            total_append (carried v) ys gone,
            total_append (carried v) xs gone,
            total_bare (carried v) (carries_bare (setting_of s) v) ys,
            total_bare (carried v) (carries_bare (setting_of s) v) xs,
            ap (total (carried v)) (arrive_bare sd.day xs x),
            total_push (carried v) (bares xs) (bare x),
          )

  -- opening
  opens_up : Steady s (wake_all (opened s.days sd).day [] (stayers xs)) next (h.journal ++ []) (leavers xs ++ gone)
  opens_up =
      subst (λ (j : Journal). Steady s ys next j (leavers xs ++ gone)) (sym (append-nil h.journal))
      record {
        proper = All-weaker
            (Proper (setting_of s) (xs ++ gone) next)
            (Proper (setting_of s) (ys ++ (leavers xs ++ gone)) next)
            (λ v q. (q.0, omega (arith, q.1, whole v)))
            h.journal
            k.proper;
        returns = k.returns;
      }
    where
      ys : List Instruction
      ys = wake_all (opened s.days sd).day [] (stayers xs)

      whole : (v : Movement) → total (carried v) (ys ++ (leavers xs ++ gone)) ≡ total (carried v) (xs ++ gone)
      whole v =
          omega (
            arith,
            total_append (carried v) ys (leavers xs ++ gone),
            total_append (carried v) (leavers xs) gone,
            total_append (carried v) xs gone,
            total_roll (carried v) (carries_bare (setting_of s) v) (stayers xs) ys (wake_all_bare (opened s.days sd).day [] (stayers xs)),
            total_split (carried v) (leaves xs) xs,
          )

  kept_step : (c : Call) → Kept s (step s h c)
  kept_step =
      each_call s h (λ _ is j left. Steady s is.standing is.next j left)
      record {
        plain = λ vs e.
            turns xs vs refl
            (All-weaker (λ v. is_settlement v ≡ false) (Proper (setting_of s) (xs ++ gone) next) (plain_proper (setting_of s) (xs ++ gone) next) vs e)
            (plain_behind h.journal vs e);
        opening = λ _. opens_up;
        instructing = λ o _. instructs o;
        cancelling = λ p n. turns (cancelled_in p n xs) [] (cancelled_bare p n xs) tt tt;
        round = turns made.0 made.1 made_bare went.proper went.returns;
        closing = λ _.
            turns (ended_all sd.day made.0) made.1 (ended_bare sd.day made.0 ∙ made_bare) went.proper went.returns;
        resting = λ _. turns xs [] refl tt tt;
      }

apt_holds : (s : Start) → Sensible s → (cs : List Call)
    → AllByRecursion (Apt (today (history s cs).book) (history s cs).journal) (history s cs).book.instructions.standing
apt_holds s w cs =
    All-weaker _ (Apt (today h.book) h.journal) (λ x p. (due_day s.days h.book.standing x p.0, p.1)) h.book.instructions.standing
    (all_both (Well s.days h.book.standing) (λ x. x.fate ≡ fate.RepoOut → 1 ≤ times h.journal x.serial first) h.book.instructions.standing
    (well_holds s w cs)
    (out_holds s w cs))
  where
    h : Past
    h = history s cs

pub kept : (s : Start) → Sensible s → (cs : List Call) → Kept s (history s cs)
kept s w =
    each_history s (Kept s) record { proper = tt; returns = tt }
    (λ cs c k. kept_step s (history s cs) k (remembered (history s cs) (kin s cs)) (apt_holds s w cs) c)
