-- The numbers in texts, and the half messages that records name.
use Rattle.std.proofs.Common.{◌≡◌, inl, inr, refl, ap, sym, ◌∙◌, arith, ℕ, ◌-◌, ◌<◌, ◌^◌, List, Bool, true, false, Option, Some, None, cond}
use Rattle.std.specs.Prelude.{ℤ, pos, neg_ℤ, nat_lt, nat_le, nat_eq, ◌&&◌, not, ◌==◌, ◌||◌, IsSome, IfSome, length, drop, slice_index, option_map, if◌then◌else◌}
use Rattle.std.specs.Str.{bytes_eq, all_ascii_digits, is_utf8}
use Rattle.std.specs.Str.Parse.{digits_value, starts_with_minus}
use Rattle.std.proofs.lemmas.Bool.{ltb-true, leb-true, and_parts, eqb-true, eq-eqb, ne_eqb, cases_eq, cases_Bool}
use Rattle.std.proofs.lemmas.Fmt.{decimal-digits_value}
use Rattle.std.proofs.lemmas.Str.Parse.{IsNumeralModel, numerals_by_value, tells_all_ascii_digits}
use Rattle.std.proofs.lemmas.Slice.Eq.{bytes_eq-Decides}
use Rattle.mq_bytes.specs.Decimal.{digits_of, decimal_value, number_up_to}
use Rattle.mq_bytes.proofs.DecimalLaws.{digits_of_are_plain}
use Rattle.record_codec.specs.Entry.{Entry}
use Rattle.log_model.specs.Admissible.{is_bare, low_number, number_in, number_of, number_at}
use Rattle.log_model.specs.Kinds.{is_op, is_text}

-- ---- a number below 2^62 that a bare text writes has that text

model : IsNumeralModel (λ ds. all_ascii_digits ds ≡ true) (digits_value 10)
model = numerals_by_value (λ ds. all_ascii_digits ds ≡ true) tells_all_ascii_digits

something : (a : Bool) (o : Option ℕ) → IsSome (if a then o else None) → a ≡ true
something true o is = refl
something false o is = absurd (cc)

by_parts : (a b c : Bool) (x : Option ℤ) (n : ℕ) → b ≡ false
    → IsSome (if a then low_number (if b then x else option_map pos (if c then Some n else None)) else None) → c ≡ true
by_parts a true c x n plain is = absurd (cc)
by_parts true false true x n plain is = refl
by_parts true false false x n plain is = absurd (cc)
by_parts false false c x n plain is = absurd (cc)

by_value : (a b c : Bool) (x : Option ℤ) (n : ℕ) → b ≡ false
    → IsSome (if a then low_number (if b then x else option_map pos (if c then Some n else None)) else None)
    → (if a then low_number (if b then x else option_map pos (if c then Some n else None)) else None) ≡ Some n
by_value a true c x n plain is = absurd (cc)
by_value true false true x n plain is = low (nat_lt n (2 ^ 62)) is
  where
    low : (b : Bool) → IsSome (if b then Some n else None) → (if b then Some n else None) ≡ Some n
    low true some = refl
    low false some = absurd (cc)
by_value true false false x n plain is = absurd (cc)
by_value false false c x n plain is = absurd (cc)

bare_parts : (a b c d : Bool) → (a && not b && (not c || d)) ≡ true → (a ≡ true) × (b ≡ false) × (c ≡ true → d ≡ true)
bare_parts true false true true is = (refl, refl, λ e. refl)
bare_parts true false false d is = (refl, refl, λ e. absurd (cc))
bare_parts true false true false is = absurd (cc)
bare_parts true true c d is = absurd (cc)
bare_parts false b c d is = absurd (cc)

-- the value of a number's text is the number
pub number_value : (k : ℕ) → k < 2 ^ 64 → digits_value 10 (digits_of k) ≡ k
number_value k low = (digits_of_are_plain k low).1

-- the text is the digits of its value
number_text : (text : List ℕ) → IsSome (number_in text) → (digits_value 10 text < 2 ^ 64) × (text ≡ digits_of (digits_value 10 text))
unfolding decimal_value
number_text text is =
    let bare = bare_parts (nat_lt 0 (length text)) (slice_index text 0 == 45) (slice_index text 0 == 48) (length text == 1)
    (something (is_bare text) (low_number (decimal_value text)) is) in
    let test = by_parts (is_bare text) (starts_with_minus text)
    (nat_lt 0 (length text) && all_ascii_digits text && nat_le (digits_value 10 text) (2 ^ 63 - 1))
    (option_map (λ n. neg_ℤ (pos n)) (number_up_to (2 ^ 63) (drop 1 text))) (digits_value 10 text) bare.1 is in
    let outer = and_parts (nat_lt 0 (length text) && all_ascii_digits text) (nat_le (digits_value 10 text) (2 ^ 63 - 1)) test in
    let digits = (and_parts (nat_lt 0 (length text)) (all_ascii_digits text) outer.0).1 in
    let low = leb-true (digits_value 10 text) (2 ^ 63 - 1) outer.1 in
    let small : digits_value 10 text < 2 ^ 64 = omega (arith, low) in (
      small,
      sym (decimal-digits_value model text digits (ltb-true 0 (length text) bare.0) (λ e. eqb-true (length text) 1 (bare.2 (eq-eqb (slice_index text 0) 48 e))) small),
    )

pub number_is : (text : List ℕ) → IsSome (number_in text) → number_in text ≡ Some (digits_value 10 text)
unfolding decimal_value
number_is text is =
    let bare = bare_parts (nat_lt 0 (length text)) (slice_index text 0 == 45) (slice_index text 0 == 48) (length text == 1)
    (something (is_bare text) (low_number (decimal_value text)) is) in
    by_value (is_bare text) (starts_with_minus text)
    (nat_lt 0 (length text) && all_ascii_digits text && nat_le (digits_value 10 text) (2 ^ 63 - 1))
    (option_map (λ n. neg_ℤ (pos n)) (number_up_to (2 ^ 63) (drop 1 text))) (digits_value 10 text) bare.1 is

-- equal to the digits of a number is what has it as its value
pub text_names : (text : List ℕ) (h : ℕ) → h < 2 ^ 64 → IsSome (number_in text) → bytes_eq text (digits_of h) ≡ nat_eq (digits_value 10 text) h
text_names text h low is =
    let own = number_text text is in
    elim (cases_eq (digits_value 10 text) h) [
      | inl same ↦ (bytes_eq-Decides text (digits_of h)).1 (own.1 ∙ ap (λ (n : ℕ). digits_of n) same) ∙ sym (eq-eqb (digits_value 10 text) h same)
      | inr differs ↦ elim (cases_Bool (bytes_eq text (digits_of h))) [
        | inl equal ↦ absurd (differs (ap (digits_value 10) ((bytes_eq-Decides text (digits_of h)).0 equal) ∙ number_value h low))
        | inr unequal ↦ unequal ∙ sym (ne_eqb (digits_value 10 text) h differs)
      ]
    ]

-- ---- which half message a record names

-- it is this one
unfoldable pub names : Option ℕ → ℕ → Bool
names None h = false
names (Some n) h = nat_eq n h

-- a renewal by its text
pub renewal_names : (text : Option (List ℕ)) (h : ℕ) → h < 2 ^ 64 → IfSome text (λ t. IsSome (number_in t)) → is_text (digits_of h) text ≡ names (option_map (digits_value 10) text) h
unfolding names
renewal_names None h low is = refl
renewal_names (Some text) h low is = text_names text h low is

-- what a program reads of it
pub renewal_read : (text : Option (List ℕ)) → IfSome text (λ t. IsSome (number_in t)) → number_at text ≡ option_map (digits_value 10) text
renewal_read None is = refl
renewal_read (Some text) is = number_is text is

-- an op record by its body
op_by : (op utf : Bool) (body : List ℕ) (h : ℕ) → h < 2 ^ 64 → (op ≡ true → IsSome (cond utf (number_in body) None))
    → (op && bytes_eq body (digits_of h)) ≡ names (cond op (cond utf (number_in body) None) None) h
unfolding names
op_by false utf body h low is = refl
op_by true true body h low is = text_names body h low (is refl) ∙ ap (λ (o : Option ℕ). names o h) (sym (number_is body (is refl)))
op_by true false body h low is = absurd (let e = is refl in cc)

pub op_names : (r : Entry) (h : ℕ) → h < 2 ^ 64 → (is_op r ≡ true → IsSome (number_of r.body)) → (is_op r && bytes_eq r.body (digits_of h)) ≡ names (cond (is_op r) (number_of r.body) None) h
op_names r h low is = op_by (is_op r) (is_utf8 r.body) r.body h low is
