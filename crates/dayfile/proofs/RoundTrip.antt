-- Every call is read back from its line.
use Rattle.std.proofs.Common.{◌≡◌, ℕ, ◌^◌, ◌<◌, ◌≤◌, true, cond, ◌&&◌, leb, List, [], ◌∷◌, length, is_some, Some, None, Ok, Err, decimal, Option, unwrap_or, sym, refl, ap, ◌∙◌, subst, arith}
use Rattle.std.specs.List.{AllByRecursion}
use Rattle.std.proofs.lemmas.Bool.{le-leb, and_from, or_right, cond-true}
use Rattle.std.proofs.lemmas.Fmt.{digits_decimal}
use Rattle.calendar.specs.declared.Date as calendar
use Rattle.refusals.specs.declared.Refusal.TheVariants.{LineLength}
use Rattle.rulebook.specs.declared.Side as sides
use Rattle.rulebook.specs.declared.Side.TheVariants.{Own, Customer}
use Rattle.rulebook.specs.declared.Sender as senders
use Rattle.rulebook.specs.declared.Sender.TheVariants.{Transferor, Acquirer}
use Rattle.rulebook.specs.declared.Call.{Call}
use Rattle.rulebook.specs.declared.Call.TheVariants.{Opening, NewIssue, Placing, Instructing, Cancelling, Blocking, Releasing, Round, Closing, Redeeming, AskingStatus, AskingHolding}
use Rattle.dayfile.specs.Kinds.{Form, Number, Date, Side, Sender, NumberOrBlank, DateOrBlank}
use Rattle.dayfile.specs.declared.kinds.Kind.{Kind}
use Rattle.dayfile.specs.declared.kinds.Kind.TheVariants as kind
use Rattle.dayfile.specs.Text.{commas, if_ok}
use Rattle.dayfile.specs.Looks.{Look, look_of, numbered, next_number, line_looks}
use Rattle.dayfile.specs.Readers.{line_fields}
use Rattle.dayfile.specs.Kinds.{kind_letter, forms, fields_kind}
use Rattle.dayfile.specs.Values.{number_of, date_of, side_of, sender_of, is_blank, fits}
use Rattle.dayfile.specs.Calls.{number_at, first_fault, call_of, of_no_field, faultless, kind_call, fields_call, read_call}
use Rattle.dayfile.specs.Spelling.{figures, item_text, Bounded, side_letter, sender_letter, number_or_nothing, date_or_nothing, ReadSpelled}
use Rattle.dayfile.proofs.Figures.{own}
use Rattle.dayfile.proofs.Spelled.{Plain, plain_digits, fields_commas, digits_figures, number_back, date_back}

-- texts that are of their forms
abbrev Formed : List Form → List (List ℕ) → Type 0
Formed [] ts = Unit {0}
Formed (f ∷ fm) [] = Unit {0}
Formed (f ∷ fm) (t ∷ ts) = (fits f (look_of t) ≡ true) × Formed fm ts

faultless_texts : (fm : List Form) (n : ℕ) (ts : List (List ℕ)) → Formed fm ts → first_fault fm (numbered n ts) ≡ None
faultless_texts [] n ts w = refl
faultless_texts (f ∷ fm) n [] w = refl
faultless_texts (f ∷ fm) n (t ∷ ts) w =
    ap (λ b. cond b (first_fault fm (numbered (next_number n) ts)) (Some n)) w.0 ∙ faultless_texts fm (next_number n) ts w.1

some_byte : (b : ℕ) (ts : List (List ℕ)) → 1 ≤ length (commas (b ∷ []) ts)
some_byte b [] = omega arith
some_byte b (t ∷ ts) = omega arith

-- a line of a kind's letter and plain texts
plain_letter : (k : Kind) → Plain (kind_letter k ∷ [])
plain_letter kind.Opening = (λ e. omega arith, tt)
plain_letter kind.NewIssue = (λ e. omega arith, tt)
plain_letter kind.Placing = (λ e. omega arith, tt)
plain_letter kind.Instructing = (λ e. omega arith, tt)
plain_letter kind.Cancelling = (λ e. omega arith, tt)
plain_letter kind.Blocking = (λ e. omega arith, tt)
plain_letter kind.Releasing = (λ e. omega arith, tt)
plain_letter kind.Round = (λ e. omega arith, tt)
plain_letter kind.Closing = (λ e. omega arith, tt)
plain_letter kind.Redeeming = (λ e. omega arith, tt)
plain_letter kind.AskingStatus = (λ e. omega arith, tt)
plain_letter kind.AskingHolding = (λ e. omega arith, tt)

module _ (k : Kind) (ts : List (List ℕ)) (plain : AllByRecursion Plain ts) (short : length (commas (kind_letter k ∷ []) ts) ≤ 120) where
  looks : line_fields (commas (kind_letter k ∷ []) ts) ≡ Ok (numbered 1 ((kind_letter k ∷ []) ∷ ts))
  looks =
      let line = commas (kind_letter k ∷ []) ts in
      cond-true (leb 1 (length line) && leb (length line) 120) (Ok (line_looks line)) (Err LineLength) (and_from (leb 1 (length line)) (leb (length line) 120) (le-leb 1 (length line) (some_byte (kind_letter k) ts)) (le-leb (length line) 120 short))
      ∙ ap (λ fs. Ok (numbered 1 fs)) (fields_commas (kind_letter k ∷ []) ts (plain_letter k) plain)

  pub reads : (c : Call) → fields_kind (numbered 1 ((kind_letter k ∷ []) ∷ ts)) ≡ Ok k → Formed (forms k) ts → call_of k (numbered 1 ((kind_letter k ∷ []) ∷ ts)) ≡ c → read_call (commas (kind_letter k ∷ []) ts) ≡ Ok c
  reads c named formed called =
      let fs = numbered 1 ((kind_letter k ∷ []) ∷ ts) in
      ap (λ r. if_ok (of_no_field r) fields_call) looks
      ∙ ap (λ r. if_ok (of_no_field r) (kind_call fs)) named
      ∙ ap (λ o. faultless o (call_of k fs)) (faultless_texts (forms k) 2 ts formed)
      ∙ ap Ok called

-- numbers, dates, letters and blanks: plain, of their forms, read back
plain_number : (n : ℕ) → n < 10 ^ 16 → Plain (decimal n)
plain_number n h = plain_digits (decimal n) (digits_decimal own n (omega arith))

plain_date : (d : calendar.Date) → Plain (figures 8 d.number)
plain_date d = plain_digits (figures 8 d.number) (digits_figures 8 d.number)

plain_side : (s : sides.Side) → Plain (side_letter s ∷ [])
plain_side Own = (λ e. omega arith, tt)
plain_side Customer = (λ e. omega arith, tt)

plain_sender : (s : senders.Sender) → Plain (sender_letter s ∷ [])
plain_sender Transferor = (λ e. omega arith, tt)
plain_sender Acquirer = (λ e. omega arith, tt)

plain_maybe : (o : Option ℕ) → Bounded (number_or_nothing o) → Plain (item_text (number_or_nothing o))
plain_maybe None h = tt
plain_maybe (Some n) h = plain_number n h

plain_maybe_date : (o : Option calendar.Date) → Plain (item_text (date_or_nothing o))
plain_maybe_date None = tt
plain_maybe_date (Some d) = plain_date d

number_fits : (n : ℕ) → n < 10 ^ 16 → fits Number (look_of (decimal n)) ≡ true
number_fits n h = ap is_some (number_back n h)

date_fits : (d : calendar.Date) → d.number < 10 ^ 8 → fits Date (look_of (figures 8 d.number)) ≡ true
date_fits d h = ap is_some (date_back d h)

side_fits : (s : sides.Side) → fits Side (look_of (side_letter s ∷ [])) ≡ true
side_fits Own = refl
side_fits Customer = refl

sender_fits : (s : senders.Sender) → fits Sender (look_of (sender_letter s ∷ [])) ≡ true
sender_fits Transferor = refl
sender_fits Acquirer = refl

maybe_fits : (o : Option ℕ) → Bounded (number_or_nothing o) → fits NumberOrBlank (look_of (item_text (number_or_nothing o))) ≡ true
maybe_fits None h = refl
maybe_fits (Some n) h = or_right (is_blank (look_of (decimal n))) (is_some (number_of (look_of (decimal n)))) (number_fits n h)

maybe_date_fits : (o : Option calendar.Date) → Bounded (date_or_nothing o) → fits DateOrBlank (look_of (item_text (date_or_nothing o))) ≡ true
maybe_date_fits None h = refl
maybe_date_fits (Some d) h = or_right (is_blank (look_of (figures 8 d.number))) (is_some (date_of (look_of (figures 8 d.number)))) (date_fits d h)

number_is : (n : ℕ) → n < 10 ^ 16 → unwrap_or (number_of (look_of (decimal n))) 0 ≡ n
number_is n h = ap (λ o. unwrap_or o 0) (number_back n h)

date_is : (d : calendar.Date) → d.number < 10 ^ 8 → unwrap_or (date_of (look_of (figures 8 d.number))) (record { number = 0 }) ≡ d
date_is d h = ap (λ o. unwrap_or o (record { number = 0 })) (date_back d h)

side_is : (s : sides.Side) → unwrap_or (side_of (look_of (side_letter s ∷ []))) Own ≡ s
side_is Own = refl
side_is Customer = refl

sender_is : (s : senders.Sender) → unwrap_or (sender_of (look_of (sender_letter s ∷ []))) Transferor ≡ s
sender_is Transferor = refl
sender_is Acquirer = refl

maybe_is : (o : Option ℕ) → Bounded (number_or_nothing o) → number_of (look_of (item_text (number_or_nothing o))) ≡ o
maybe_is None h = refl
maybe_is (Some n) h = number_back n h

maybe_date_is : (o : Option calendar.Date) → Bounded (date_or_nothing o) → date_of (look_of (item_text (date_or_nothing o))) ≡ o
maybe_date_is None h = refl
maybe_date_is (Some d) h = date_back d h

-- a call of two numbers
two_read : (k : Kind) (make : ℕ → ℕ → Call) (a b : ℕ) → a < 10 ^ 16 → b < 10 ^ 16 → length (commas (kind_letter k ∷ []) (decimal a ∷ decimal b ∷ [])) ≤ 120 → fields_kind (numbered 1 ((kind_letter k ∷ []) ∷ decimal a ∷ decimal b ∷ [])) ≡ Ok k → forms k ≡ Number ∷ Number ∷ [] → ((fs : List (ℕ × Look)) → call_of k fs ≡ make (number_at 2 fs) (number_at 3 fs)) → read_call (commas (kind_letter k ∷ []) (decimal a ∷ decimal b ∷ [])) ≡ Ok (make a b)
two_read k make a b ha hb short named two called =
    let ts = decimal a ∷ decimal b ∷ [] in
    reads k ts (plain_number a ha, (plain_number b hb, tt)) short (make a b) named
    (subst (λ fm. Formed fm ts) (sym two) (number_fits a ha, (number_fits b hb, tt)))
    (called (numbered 1 ((kind_letter k ∷ []) ∷ ts)) ∙ (λ j. make (number_is a ha j) (number_is b hb j)))

pub read_spelled : ReadSpelled
read_spelled Opening w = reads kind.Opening [] tt w.short Opening refl tt refl
read_spelled (NewIssue i d) w =
    let b = w.bounded in
    reads kind.NewIssue (decimal i ∷ figures 8 d.number ∷ []) (plain_number i b.0, (plain_date d, tt)) w.short (NewIssue i d) refl
    (number_fits i b.0, (date_fits d b.1.0, tt))
    (λ j. NewIssue (number_is i b.0 j) (date_is d b.1.0 j))
read_spelled (Placing p) w =
    let h2 = w.bounded.0 in
    let h3 = w.bounded.1.0 in
    let h5 = w.bounded.1.1.1.0 in
    let h6 = w.bounded.1.1.1.1.0 in
    reads kind.Placing (decimal p.issue ∷ decimal p.participant ∷ (side_letter p.side ∷ []) ∷ decimal p.nominal ∷ decimal p.price ∷ [])
    (plain_number p.issue h2, (plain_number p.participant h3, (plain_side p.side, (plain_number p.nominal h5, (plain_number p.price h6, tt)))))
    w.short (Placing p) refl
    (number_fits p.issue h2, (number_fits p.participant h3, (side_fits p.side, (number_fits p.nominal h5, (number_fits p.price h6, tt)))))
    (λ j. Placing (record { issue = number_is p.issue h2 j; participant = number_is p.participant h3 j; side = side_is p.side j; nominal = number_is p.nominal h5 j; price = number_is p.price h6 j }))
read_spelled (Instructing o) w =
    let h3 = w.bounded.1.0 in
    let h5 = w.bounded.1.1.1.0 in
    let h7 = w.bounded.1.1.1.1.1.0 in
    let h8 = w.bounded.1.1.1.1.1.1.0 in
    let h9 = w.bounded.1.1.1.1.1.1.1.0 in
    let h10 = w.bounded.1.1.1.1.1.1.1.1.0 in
    let h11 = w.bounded.1.1.1.1.1.1.1.1.1.0 in
    let h12 = w.bounded.1.1.1.1.1.1.1.1.1.1.0 in
    let texts : List (List ℕ) = (sender_letter o.sender ∷ []) ∷ decimal o.transferor ∷ (side_letter o.transferor_side ∷ []) ∷ decimal o.acquirer ∷ (side_letter o.acquirer_side ∷ []) ∷ decimal o.issue ∷ decimal o.nominal ∷ item_text (number_or_nothing o.price) ∷ figures 8 o.value_date.number ∷ item_text (date_or_nothing o.return_date) ∷ item_text (number_or_nothing o.return_price) ∷ [] in
    reads kind.Instructing texts
    (plain_sender o.sender, (plain_number o.transferor h3, (plain_side o.transferor_side, (plain_number o.acquirer h5, (plain_side o.acquirer_side, (plain_number o.issue h7, (plain_number o.nominal h8, (plain_maybe o.price h9, (plain_date o.value_date, (plain_maybe_date o.return_date, (plain_maybe o.return_price h12, tt)))))))))))
    w.short (Instructing o) refl
    (sender_fits o.sender, (number_fits o.transferor h3, (side_fits o.transferor_side, (number_fits o.acquirer h5, (side_fits o.acquirer_side, (number_fits o.issue h7, (number_fits o.nominal h8, (maybe_fits o.price h9, (date_fits o.value_date h10, (maybe_date_fits o.return_date h11, (maybe_fits o.return_price h12, tt)))))))))))
    (λ j. Instructing (record { sender = sender_is o.sender j; transferor = number_is o.transferor h3 j; transferor_side = side_is o.transferor_side j; acquirer = number_is o.acquirer h5 j; acquirer_side = side_is o.acquirer_side j; issue = number_is o.issue h7 j; nominal = number_is o.nominal h8 j; price = maybe_is o.price h9 j; value_date = date_is o.value_date h10 j; return_date = maybe_date_is o.return_date h11 j; return_price = maybe_is o.return_price h12 j }))
read_spelled (Cancelling p s) w = two_read kind.Cancelling Cancelling p s w.bounded.0 w.bounded.1.0 w.short refl refl (λ fs. refl)
read_spelled (Blocking p) w =
    let h2 = w.bounded.0 in
    let h4 = w.bounded.1.1.0 in
    let h5 = w.bounded.1.1.1.0 in
    reads kind.Blocking (decimal p.participant ∷ (side_letter p.side ∷ []) ∷ decimal p.issue ∷ decimal p.nominal ∷ [])
    (plain_number p.participant h2, (plain_side p.side, (plain_number p.issue h4, (plain_number p.nominal h5, tt))))
    w.short (Blocking p) refl
    (number_fits p.participant h2, (side_fits p.side, (number_fits p.issue h4, (number_fits p.nominal h5, tt))))
    (λ j. Blocking (record { participant = number_is p.participant h2 j; side = side_is p.side j; issue = number_is p.issue h4 j; nominal = number_is p.nominal h5 j }))
read_spelled (Releasing p b) w = two_read kind.Releasing Releasing p b w.bounded.0 w.bounded.1.0 w.short refl refl (λ fs. refl)
read_spelled Round w = reads kind.Round [] tt w.short Round refl tt refl
read_spelled Closing w = reads kind.Closing [] tt w.short Closing refl tt refl
read_spelled (Redeeming i p) w = two_read kind.Redeeming Redeeming i p w.bounded.0 w.bounded.1.0 w.short refl refl (λ fs. refl)
read_spelled (AskingStatus s) w =
    reads kind.AskingStatus (decimal s ∷ []) (plain_number s w.bounded.0, tt) w.short (AskingStatus s) refl (number_fits s w.bounded.0, tt) (λ j. AskingStatus (number_is s w.bounded.0 j))
read_spelled (AskingHolding p i) w = two_read kind.AskingHolding AskingHolding p i w.bounded.0 w.bounded.1.0 w.short refl refl (λ fs. refl)
