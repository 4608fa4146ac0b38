-- What matching does to the sums over instructions.
use Rattle.std.proofs.Common.{◌≡◌, ℕ, ◌+◌, ◌<◌, ◌≤◌, Bool, true, false, not, ◌&&◌, eqb, List, [], ◌∷◌, ◌++◌, Some, None, Option, sym, refl, ap, ◌∙◌, subst, arith}
use Rattle.std.specs.List.{AllByRecursion}
use Rattle.std.proofs.lemmas.List.{map-append}
use Rattle.std.proofs.ByRecursion.{All-push, All-weaker}
use Rattle.std.proofs.lemmas.Bool.{false≢true, cond_both, and_parts}
use Rattle.std.proofs.lemmas.Bool.Decides.{nat_tests}
use Rattle.rulebook.specs.declared.Order.{Order}
use Rattle.rulebook.specs.declared.Fate.{Fate}
use Rattle.rulebook.specs.declared.Fate.TheVariants as fate
use Rattle.rulebook.specs.Words.{one_if, total, Instruction, turned, alike}
use Rattle.rulebook.specs.Checks.{is_inside}
use Rattle.rulebook.specs.Matching.{joins, same_order, counter, is_partner, pair_up, met, arrive, wake, wake_all}
use Rattle.rulebook.specs.Laws.{was_matched}
use Rattle.rulebook.proofs.Totals.{total_push, total_append, one_if_none}
use Rattle.rulebook.proofs.Turns.{Fixed, weigh, answering, joined_to, leading, Calm, Fits}
use Rattle.rulebook.proofs.Ways.{arrive_both}
use Rattle.rulebook.proofs.Roll.{bare, bares, serials, serials_roll, total_roll, wake_bare}

-- numbers that rise above one and stay below another
abbrev pub Between : ℕ → ℕ → List ℕ → Type 0
Between low high [] = low < high
Between low high (n ∷ ns) = (low < n) × Between n high ns

-- 1 if that serial was found
abbrev hit : Option ℕ → ℕ → ℕ
hit None n = 0
hit (Some s) n = one_if (eqb s n)

-- what seeking a partner does
record Paired (o : Order) (xs : List Instruction) (r : List Instruction × Option ℕ) : Type 0 where
  joined : (n : ℕ) → total (joined_to n) r.0 ≡ total (joined_to n) xs
  led : (n : ℕ) → total (leading n) r.0 ≡ total (leading n) xs + hit r.1 n
  found : (n : ℕ) → hit r.1 n ≤ total (weigh (answering n o)) xs
  lower : (m n : ℕ) → AllByRecursion (λ s. s < m) (serials xs) → 1 ≤ hit r.1 n → n < m
  calm : AllByRecursion Calm xs → AllByRecursion Calm r.0
  fits : (c : ℕ → Order → ℕ) → AllByRecursion (Fits c) xs → AllByRecursion (Fits c) r.0

alone : (o : Order) (xs : List Instruction) → Paired o xs (xs, None)
alone o xs =
    record {
      joined = λ n. refl;
      led = λ n. omega arith;
      found = λ n. omega arith;
      lower = λ m n a h. absurd (omega arith);
      calm = λ a. a;
      fits = λ c a. a;
    }

same_inside : (o q : Order) → same_order o q ≡ true → is_inside o ≡ is_inside q
same_inside o q h = grind (arith, nat_tests)

unmatched_joins : (n : ℕ) (f : Fate) → alike f fate.Unmatched ≡ true → joins n f ≡ false
unmatched_joins n f h = grind arith

unmatched_before : (x : Instruction) → alike x.fate fate.Unmatched ≡ true → was_matched x ≡ false
unmatched_before x h = grind arith

hit_is : (a n : ℕ) → 1 ≤ one_if (eqb a n) → a ≡ n
hit_is a n h = grind (arith, nat_tests)

-- the partner becomes one that leads
now_leads : (v m b : Bool) → m ≡ false → b ≡ false
    → ◌≡◌ {A = ℕ} (one_if (v && (true && not b))) (one_if (v && (m && not b)) + one_if v)
now_leads v m b h k = grind arith

paired_here : (o : Order) → is_inside o ≡ false → (x : Instruction) (xs : List Instruction) → is_partner o x ≡ true
    → Paired o (x ∷ xs) (turned x fate.Matched None ∷ xs, Some x.serial)
paired_here o p x xs e =
    record {
      joined = λ n. omega (arith, ap one_if (unmatched_joins n x.fate u.0));
      led = λ n. omega (arith, now_leads (eqb x.serial n) (was_matched x) (is_inside x.order) (unmatched_before x u.0) inside);
      found = λ n. omega (arith, ap (λ v. one_if (eqb x.serial n && v)) u.1, and_one (eqb x.serial n));
      lower = λ m n a h. omega (arith, a.0, hit_is x.serial n h);
      calm = λ a. (λ _. refl, a.1);
      fits = λ c a. (λ n h. absurd (false≢true h), a.1);
    }
  where
    u : (alike x.fate fate.Unmatched ≡ true) × (same_order x.order (counter o) ≡ true)
    u = and_parts (alike x.fate fate.Unmatched) (same_order x.order (counter o)) e

    inside : is_inside x.order ≡ false
    inside = same_inside x.order (counter o) u.1 ∙ p

    and_one : (v : Bool) → ◌≡◌ {A = ℕ} (one_if (v && true)) (one_if v)
    and_one v = grind arith

paired_behind : (o : Order) (x : Instruction) (xs : List Instruction) (r : List Instruction × Option ℕ) → Paired o xs r
    → Paired o (x ∷ xs) (x ∷ r.0, r.1)
paired_behind o x xs r y =
    record {
      joined = λ n. omega (arith, y.joined n);
      led = λ n. omega (arith, y.led n);
      found = λ n. omega (arith, y.found n);
      lower = λ m n a h. y.lower m n a.1 h;
      calm = λ a. (a.0, y.calm a.1);
      fits = λ c a. (a.0, y.fits c a.1);
    }

paired : (o : Order) → is_inside o ≡ false → (xs : List Instruction) → Paired o xs (pair_up o xs)
paired o p [] = alone o []
paired o p (x ∷ xs) =
    cond_both
    (is_partner o x)
    (turned x fate.Matched None ∷ xs, Some x.serial)
    (x ∷ (pair_up o xs).0, (pair_up o xs).1)
    (Paired o (x ∷ xs))
    (paired_here o p x xs)
    (λ _. paired_behind o x xs (pair_up o xs) (paired o p xs))

-- behind xs come the instructions is, and the list is ys
pub record Came (xs is ys : List Instruction) : Type 0 where
  pub led : (n : ℕ) → total (joined_to n) ys + (total (leading n) xs + total (leading n) is)
      ≡ (total (joined_to n) xs + total (joined_to n) is) + total (leading n) ys
  pub calm : AllByRecursion Calm xs → AllByRecursion Calm is → AllByRecursion Calm ys
  pub fits : (c : ℕ → Order → ℕ) (low high : ℕ)
      → ((n : ℕ) (o : Order) → total (weigh (answering n o)) xs + total (weigh (answering n o)) is ≤ c n o)
      → AllByRecursion (λ s. s ≤ low) (serials xs) → Between low high (serials is)
      → AllByRecursion (Fits c) xs → AllByRecursion (Fits c) is → AllByRecursion (Fits c) ys

-- the roll says the rest: serials, and what reads serial and order alone
pub came_serials : (xs is ys : List Instruction) → bares ys ≡ bares xs ++ bares is → serials ys ≡ serials xs ++ serials is
came_serials xs is ys e = serials_roll (xs ++ is) ys (e ∙ sym (map-append bare xs is)) ∙ map-append (λ (x : Instruction). x.serial) xs is

pub came_fixed : (g : Fixed) (xs is ys : List Instruction) → bares ys ≡ bares xs ++ bares is
    → total (weigh g) ys ≡ total (weigh g) xs + total (weigh g) is
came_fixed g xs is ys e =
    total_roll (weigh g) (λ _. refl) (xs ++ is) ys (e ∙ sym (map-append bare xs is)) ∙ total_append (weigh g) xs is

came_none : (xs : List Instruction) → Came xs [] xs
came_none xs =
    record {
      led = λ n. omega arith;
      calm = λ a _. a;
      fits = λ c low high _ _ _ a _. a;
    }

came_more : (xs : List Instruction) (i : Instruction) (is ys zs : List Instruction) → bares ys ≡ bares xs ++ bare i ∷ []
    → Came xs (i ∷ []) ys → Came ys is zs → Came xs (i ∷ is) zs
came_more xs i is ys zs roll a b =
    record {
      led = λ n. omega (arith, a.led n, b.led n);
      calm = λ h k. b.calm (a.calm h (k.0, tt)) k.1;
      fits = λ c low high l h w u v.
          b.fits c i.serial high
          (λ n o. omega (arith, l n o, came_fixed (answering n o) xs (i ∷ []) ys roll))
          (up_to low h w.0)
          w.1
          (a.fits c low (i.serial + 1) (λ n o. omega (arith, l n o)) h (w.0, omega arith) u (v.0, tt))
          v.1;
    }
  where
    up_to : (low : ℕ) → AllByRecursion (λ s. s ≤ low) (serials xs) → low < i.serial → AllByRecursion (λ s. s ≤ i.serial) (serials ys)
    up_to low h l =
        subst
        (AllByRecursion (λ s. s ≤ i.serial))
        (sym (came_serials xs (i ∷ []) ys roll))
        (All-push (λ s. s ≤ i.serial) (serials xs) i.serial
        (All-weaker (λ s. s ≤ low) (λ s. s ≤ i.serial) (λ s e. omega arith) (serials xs) h)
        (omega arith))

-- an instruction comes as it is
came_one : (xs : List Instruction) (i : Instruction) → Came xs (i ∷ []) (xs ++ i ∷ [])
came_one xs i =
    record {
      led = λ n. omega (arith, total_push (joined_to n) xs i, total_push (leading n) xs i);
      calm = λ a k. All-push Calm xs i a k.0;
      fits = λ c low high _ _ _ a k. All-push (Fits c) xs i a k.0;
    }

kept_joins : (n : ℕ) (i : Instruction) → alike i.fate fate.Kept ≡ true → joined_to n i ≡ 0
kept_joins n i h = grind arith

pub kept_leads : (n : ℕ) (i : Instruction) → alike i.fate fate.Kept ≡ true → leading n i ≡ 0
kept_leads n i h = grind arith

-- a kept one comes with another fate, behind a list in which it may have found its partner
came_turned : (xs ys : List Instruction) (r : Option ℕ) (i : Instruction) (f : Fate) → alike i.fate fate.Kept ≡ true
    → Paired i.order xs (ys, r) → ((n : ℕ) → one_if (joins n f) ≡ hit r n) → ((n : ℕ) → leading n (turned i f None) ≡ 0)
    → Came xs (i ∷ []) (ys ++ turned i f None ∷ [])
came_turned xs ys r i f k p js ls =
    record {
      led = λ n. omega (arith, total_push (joined_to n) ys new, total_push (leading n) ys new, p.joined n, p.led n, js n, ls n, kept_joins n i k, kept_leads n i k);
      calm = λ a _. All-push Calm ys new (p.calm a) (λ _. refl);
      fits = λ c low high l h w a _. All-push (Fits c) ys new (p.fits c a) (λ n e.
          let one : 1 ≤ hit r n = omega (arith, js n, ap one_if e) in (
            p.lower i.serial n (All-weaker (λ s. s ≤ low) (λ s. s < i.serial) (λ s e. omega (arith, w.0)) (serials xs) h) one,
            omega (arith, one, p.found n, l n i.order),
          ));
    }
  where
    new : Instruction
    new = turned i f None

pub arrived : (d : ℕ) (xs : List Instruction) (i : Instruction) → alike i.fate fate.Kept ≡ true → Came xs (i ∷ []) (arrive d xs i)
arrived d xs i k =
    arrive_both d xs i (Came xs (i ∷ []))
    (λ _ e. came_turned xs xs None i fate.Matched k (alone i.order xs) (λ n. refl)
    (λ n. ap (λ v. one_if (eqb i.serial n && not v)) e ∙ one_if_none (eqb i.serial n)))
    (λ _ e. sought (pair_up i.order xs).0 (pair_up i.order xs).1 (paired i.order e xs))
    (λ _. came_turned xs xs None i fate.Kept k (alone i.order xs) (λ n. refl) (λ n. one_if_none (eqb i.serial n)))
  where
    sought : (ys : List Instruction) (r : Option ℕ) → Paired i.order xs (ys, r) → Came xs (i ∷ []) (ys ++ met i r ∷ [])
    sought ys None p = came_turned xs ys None i fate.Unmatched k p (λ n. refl) (λ n. one_if_none (eqb i.serial n))
    sought ys (Some s) p = came_turned xs ys (Some s) i (fate.Joined s) k p (λ n. refl) (λ n. one_if_none (eqb i.serial n))

woken : (d : ℕ) (xs : List Instruction) (i : Instruction) → Came xs (i ∷ []) (wake d xs i)
woken d xs i =
    cond_both (alike i.fate fate.Kept) (arrive d xs i) (xs ++ i ∷ []) (Came xs (i ∷ [])) (arrived d xs i) (λ _. came_one xs i)

pub all_woken : (d : ℕ) (xs is : List Instruction) → Came xs is (wake_all d xs is)
all_woken d xs [] = came_none xs
all_woken d xs (i ∷ is) = came_more xs i is (wake d xs i) (wake_all d (wake d xs i) is) (wake_bare d xs i) (woken d xs i) (all_woken d (wake d xs i) is)
