-- Fields read in turn are the call that their forms allow.
use Rattle.std.proofs.Common.{◌≡◌, ℕ, zero, suc, Bool, true, false, cond, ◌&&◌, ◌||◌, eqb, leb, List, [], ◌∷◌, length, is_some, Some, None, Ok, Err, Option, Result, ok_or, option_map, unwrap_or, sym, refl, ap, ◌∙◌, subst, arith}
use Rattle.std.proofs.lemmas.Bool.{eqb-true}
use Rattle.calendar.specs.declared.Date as calendar
use Rattle.refusals.specs.declared.Refusal.TheVariants.{FieldCount, FieldForm, LineLength}
use Rattle.rulebook.specs.declared.Side as sides
use Rattle.rulebook.specs.declared.Side.TheVariants.{Own}
use Rattle.rulebook.specs.declared.Sender as senders
use Rattle.rulebook.specs.declared.Sender.TheVariants.{Transferor}
use Rattle.rulebook.specs.declared.Order.{Order}
use Rattle.rulebook.specs.declared.Placement.{Placement}
use Rattle.rulebook.specs.declared.Pledge.{Pledge}
use Rattle.rulebook.specs.declared.Call.TheVariants.{NewIssue, Placing, Instructing, Cancelling, Blocking, Releasing, Redeeming, AskingStatus, AskingHolding}
use Rattle.dayfile.specs.declared.kinds.Kind.{Kind}
use Rattle.dayfile.specs.declared.kinds.Kind.TheVariants as kind
use Rattle.rulebook.specs.declared.Fault.{Fault}
use Rattle.dayfile.specs.Text.{fields, rest_of, if_ok}
use Rattle.dayfile.specs.Looks.{Look, blank, date, number, letter, look_of, numbered, line_looks}
use Rattle.dayfile.specs.Readers.{line_fields}
use Rattle.dayfile.specs.Kinds.{Form, Number, Date, Side, Sender, NumberOrBlank, DateOrBlank, forms, kind_in, counted_kind, fields_kind}
use Rattle.dayfile.specs.Values.{number_of, date_of, side_of, sender_of, is_blank, or_blank, fits}
use Rattle.dayfile.specs.Calls.{first_fault, faultless, of_no_field, kind_call, fields_call, call_of, read_call}
use Rattle.dayfile.specs.Turns.{then, call_in_turn}
use Rattle.dayfile.proofs.Numbers.{numbered_length}

-- what a field of each form says, and what stands in for it where it is not of the form
abbrev Val : Form → Type 0
Val Number = ℕ
Val Date = calendar.Date
Val Side = sides.Side
Val Sender = senders.Sender
Val NumberOrBlank = Option ℕ
Val DateOrBlank = Option calendar.Date

abbrev said : (f : Form) → Look → Option (Val f)
said Number = number_of
said Date = date_of
said Side = side_of
said Sender = sender_of
said NumberOrBlank = or_blank number_of
said DateOrBlank = or_blank date_of

abbrev value : (f : Form) → Look → Val f
value Number l = unwrap_or (number_of l) 0
value Date l = unwrap_or (date_of l) (record { number = 0 })
value Side l = unwrap_or (side_of l) Own
value Sender l = unwrap_or (sender_of l) Transferor
value NumberOrBlank l = number_of l
value DateOrBlank l = date_of l

-- a field that may be blank
some_some : {X : Type 0} (o : Option X) → is_some o ≡ is_some (option_map (λ x. Some x) o)
some_some None = refl
some_some (Some x) = refl

blank_fits : {X : Type 0} (f : Look → Option X) (l : Look) → (is_blank l || is_some (f l)) ≡ is_some (or_blank f l)
blank_fits f blank = refl
blank_fits f (date bs) = some_some (f (date bs))
blank_fits f (number bs) = some_some (f (number bs))
blank_fits f (letter bs) = some_some (f (letter bs))

said_some : {X : Type 0} (o p : Option X) → option_map (λ x. Some x) o ≡ Some p → o ≡ p
said_some None p e = let z : ◌≡◌ {A = ℕ} 0 1 = cc in absurd (omega arith)
said_some (Some x) p e = cc

said_blank : {X : Type 0} (f : Look → Option X) (l : Look) (o : Option X) → f blank ≡ None → or_blank f l ≡ Some o → f l ≡ o
said_blank f blank o n e = n ∙ cc
said_blank f (date bs) o n e = said_some (f (date bs)) o e
said_blank f (number bs) o n e = said_some (f (number bs)) o e
said_blank f (letter bs) o n e = said_some (f (letter bs)) o e

-- a field is of a form exactly if it says something of it, and that is its value
fits_said : (f : Form) (l : Look) → fits f l ≡ is_some (said f l)
fits_said Number l = refl
fits_said Date l = refl
fits_said Side l = refl
fits_said Sender l = refl
fits_said NumberOrBlank l = blank_fits number_of l
fits_said DateOrBlank l = blank_fits date_of l

value_said : (f : Form) (l : Look) (x : Val f) → said f l ≡ Some x → value f l ≡ x
value_said Number l x e = ap (λ o. unwrap_or o 0) e
value_said Date l x e = ap (λ o. unwrap_or o (record { number = 0 })) e
value_said Side l x e = ap (λ o. unwrap_or o Own) e
value_said Sender l x e = ap (λ o. unwrap_or o Transferor) e
value_said NumberOrBlank l x e = said_blank number_of l x refl e
value_said DateOrBlank l x e = said_blank date_of l x refl e

-- what is made of a value for each form
abbrev Made : List Form → Type 0 → Type 0
Made [] Y = Y
Made (f ∷ fm) Y = Val f → Made fm Y

module _ {Y : Type 0} where
  -- made of the fields read in turn; made of their values
  abbrev in_turn : (fm : List Form) → Made fm Y → List (ℕ × Look) → Result Y Fault
  in_turn [] y fs = Ok y
  in_turn (f ∷ fm) make fs = then (said f) fs (λ x fs. in_turn fm (make x) fs)

  abbrev of_values : (fm : List Form) → Made fm Y → List (ℕ × Look) → Y
  of_values [] y fs = y
  of_values (f ∷ fm) make [] = of_values fm (make (value f blank)) []
  of_values (f ∷ fm) make (x ∷ xs) = of_values fm (make (value f x.1)) xs

  -- where there is a field for each form, both are the same
  both : (fm : List Form) (make : Made fm Y) (fs : List (ℕ × Look)) → length fs ≡ length fm
      → in_turn fm make fs ≡ faultless (first_fault fm fs) (of_values fm make fs)
  both [] y fs e = refl
  both (f ∷ fm) make [] e = absurd (omega (arith, e))
  both (f ∷ fm) make (x ∷ xs) e =
      go (said f x.1) refl (λ v. both fm (make v) xs (omega (arith, e)))
      ∙ ap (λ t. faultless (cond t (first_fault fm xs) (Some x.0)) (of_values fm (make (value f x.1)) xs)) (sym (fits_said f x.1))
    where
      go : (o : Option (Val f)) → said f x.1 ≡ o
          → ((v : Val f) → in_turn fm (make v) xs ≡ faultless (first_fault fm xs) (of_values fm (make v) xs))
          → if_ok (ok_or o (record { refusal = FieldForm; field = Some x.0 })) (λ v. in_turn fm (make v) xs)
          ≡ faultless (cond (is_some o) (first_fault fm xs) (Some x.0)) (of_values fm (make (value f x.1)) xs)
      go None h more = refl
      go (Some v) h more =
          more v ∙ ap (λ w. faultless (first_fault fm xs) (of_values fm (make w) xs)) (sym (value_said f x.1 v h))

-- so many fields, one by one
abbrev Each : ℕ → (List (List ℕ) → Type 0) → Type 0
Each zero P = P []
Each (suc n) P = (q : List ℕ) → Each n (λ qs. P (q ∷ qs))

each : (n : ℕ) (P : List (List ℕ) → Type 0) → Each n P → (qs : List (List ℕ)) → length qs ≡ n → P qs
each zero P a [] e = a
each zero P a (q ∷ qs) e = absurd (omega (arith, e))
each (suc n) P a [] e = absurd (omega (arith, e))
each (suc n) P a (q ∷ qs) e = each n (λ qs. P (q ∷ qs)) (a q) qs (omega (arith, e))

-- what is made of a call's part is made of the call
wrapped : {X Y : Type 0} (f : X → Y) (m : Option ℕ) (x : X) → if_ok (faultless m x) (λ y. Ok (f y)) ≡ faultless m (f x)
wrapped f None x = refl
wrapped f (Some n) x = refl

-- the fields behind a kind, read in turn and by their forms
abbrev Same : Kind → List ℕ → List (List ℕ) → Type 0
Same k p qs =
    call_in_turn k (numbered 2 qs) ≡ faultless (first_fault (forms k) (numbered 2 qs)) (call_of k (numbered 1 (p ∷ qs)))

same : (k : Kind) (p : List ℕ) → Each (length (forms k)) (Same k p)
same kind.Opening p = refl
same kind.NewIssue p = λ a b. both (forms kind.NewIssue) NewIssue (numbered 2 (a ∷ b ∷ [])) refl
same kind.Placing p = λ a b c d e.
    let fs = numbered 2 (a ∷ b ∷ c ∷ d ∷ e ∷ []) in
    let make : Made (forms kind.Placing) Placement = λ i q s n y. record { issue = i; participant = q; side = s; nominal = n; price = y } in
    ap (λ r. if_ok r (λ x. Ok (Placing x))) (both (forms kind.Placing) make fs refl)
    ∙ wrapped Placing (first_fault (forms kind.Placing) fs) (of_values (forms kind.Placing) make fs)
same kind.Instructing p = λ a b c d e f g h i j k.
    let fs = numbered 2 (a ∷ b ∷ c ∷ d ∷ e ∷ f ∷ g ∷ h ∷ i ∷ j ∷ k ∷ []) in
    let make : Made (forms kind.Instructing) Order = λ who t from u to s n y v r ry. record {
      sender = who;
      transferor = t;
      transferor_side = from;
      acquirer = u;
      acquirer_side = to;
      issue = s;
      nominal = n;
      price = y;
      value_date = v;
      return_date = r;
      return_price = ry;
    } in
    ap (λ r. if_ok r (λ x. Ok (Instructing x))) (both (forms kind.Instructing) make fs refl)
    ∙ wrapped Instructing (first_fault (forms kind.Instructing) fs) (of_values (forms kind.Instructing) make fs)
same kind.Cancelling p = λ a b. both (forms kind.Cancelling) Cancelling (numbered 2 (a ∷ b ∷ [])) refl
same kind.Blocking p = λ a b c d.
    let fs = numbered 2 (a ∷ b ∷ c ∷ d ∷ []) in
    let make : Made (forms kind.Blocking) Pledge = λ q s i n. record { participant = q; side = s; issue = i; nominal = n } in
    ap (λ r. if_ok r (λ x. Ok (Blocking x))) (both (forms kind.Blocking) make fs refl)
    ∙ wrapped Blocking (first_fault (forms kind.Blocking) fs) (of_values (forms kind.Blocking) make fs)
same kind.Releasing p = λ a b. both (forms kind.Releasing) Releasing (numbered 2 (a ∷ b ∷ [])) refl
same kind.Round p = refl
same kind.Closing p = refl
same kind.Redeeming p = λ a b. both (forms kind.Redeeming) Redeeming (numbered 2 (a ∷ b ∷ [])) refl
same kind.AskingStatus p = λ a. both (forms kind.AskingStatus) AskingStatus (numbered 2 (a ∷ [])) refl
same kind.AskingHolding p = λ a b. both (forms kind.AskingHolding) AskingHolding (numbered 2 (a ∷ b ∷ [])) refl

-- a kind that is found has a field for each form
kind_counts : (o : Option Kind) (n : ℕ) (k : Kind) → counted_kind o n ≡ Ok k → n ≡ length (forms k)
kind_counts None n k e = let z : ◌≡◌ {A = ℕ} 0 1 = cc in absurd (omega arith)
kind_counts (Some j) n k e = go (eqb n (length (forms j))) refl e
  where
    go : (t : Bool) → eqb n (length (forms j)) ≡ t → cond t (Ok j) (Err FieldCount) ≡ Ok k → n ≡ length (forms k)
    go true h f = let i : j ≡ k = cc in eqb-true n (length (forms j)) h ∙ ap (λ x. length (forms x)) i
    go false h f = let z : ◌≡◌ {A = ℕ} 0 1 = cc in absurd (omega arith)

-- behind a kind that was found, what is read in turn is what the rules of the line define
fields_in_turn : (ps : List (List ℕ)) (k : Kind) → fields_kind (numbered 1 ps) ≡ Ok k
    → call_in_turn k (rest_of (numbered 1 ps)) ≡ kind_call (numbered 1 ps) k
fields_in_turn [] k e = let z : ◌≡◌ {A = ℕ} 0 1 = cc in absurd (omega arith)
fields_in_turn (p ∷ qs) k e =
    let n = kind_counts (kind_in (look_of p)) (length (numbered 2 qs)) k e in
    each (length (forms k)) (Same k p) (same k p) qs (sym (numbered_length 2 qs) ∙ n)

-- the fields of a line of a fitting length
these_fields : (t : Bool) (fs gs : List (ℕ × Look)) → Ok fs ≡ cond t (Ok gs) (Err LineLength) → fs ≡ gs
these_fields true fs gs e = cc
these_fields false fs gs e = let z : ◌≡◌ {A = ℕ} 0 1 = cc in absurd (omega arith)

pub line_in_turn : (line : List ℕ) (fs : List (ℕ × Look)) (k : Kind) → Ok fs ≡ line_fields line → Ok k ≡ fields_kind fs
    → call_in_turn k (rest_of fs) ≡ read_call line
line_in_turn line fs k e h =
    let same_fields = these_fields (leb 1 (length line) && leb (length line) 120) fs (line_looks line) e in
    subst (λ gs. fields_kind gs ≡ Ok k → call_in_turn k (rest_of gs) ≡ kind_call gs k) (sym same_fields) (fields_in_turn (fields line) k) (sym h)
    ∙ ap (λ r. if_ok (of_no_field r) (kind_call fs)) h
    ∙ ap (λ r. if_ok (of_no_field r) fields_call) e
