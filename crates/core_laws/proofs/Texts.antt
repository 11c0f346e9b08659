-- Number texts, flags, and what is found in lists.
use Rattle.std.proofs.Common.{◌≡◌, refl, ap, sym, ◌∙◌, subst, arith, ℕ, suc, ◌-◌, ◌<◌, ◌^◌, List, [], ◌∷◌, Bool, true, false, Option, Some, None, find, slice_get, if◌then◌else◌, cond}
use Rattle.std.specs.Prelude.{bit_and, ℤ, pos, neg_ℤ, nat_lt, nat_le, ◌&&◌, not, ◌==◌, IsSome, length, drop, slice_index, ◌||◌}
use Rattle.std.specs.Str.{bytes_eq, all_ascii_digits}
use Rattle.std.specs.Str.Parse.{digits_value, starts_with_minus}
use Rattle.std.specs.Option.{option_map}
use Rattle.std.proofs.lemmas.Bool.{ltb-true, leb-true, and_parts, eqb-true, eq-eqb}
use Rattle.std.proofs.lemmas.Nat.{and_assoc, and_le_r}
use Rattle.std.proofs.lemmas.Fmt.{decimal-digits_value}
use Rattle.std.proofs.lemmas.Str.Parse.{IsNumeralModel, numerals_by_value, tells_all_ascii_digits}
use Rattle.std.proofs.lemmas.Slice.Eq.{bytes_eq-Decides}
use Rattle.std.proofs.lemmas.Option.{same_Some}
use Rattle.mq_bytes.specs.Decimal.{digits_of, decimal_value, number_up_to}
use Rattle.mq_bytes.proofs.DecimalLaws.{digits_of_are_plain}
use Rattle.log_model.specs.Admissible.{is_bare, low_number, number_in}
use Rattle.log_model.specs.Drafts.{plain_flag}
use Rattle.core_laws.specs.Kept.{IsNumberText}

-- equal texts are one, and one text is equal to itself
pub same_text : (a b : List ℕ) → bytes_eq a b ≡ true → a ≡ b
same_text a b is = (bytes_eq-Decides a b).0 is

pub text_equal : (a b : List ℕ) → a ≡ b → bytes_eq a b ≡ true
text_equal a b is = (bytes_eq-Decides a b).1 is

-- the first record that passes is there
found_or : {A : Type 0} (p : A → Bool) (x : A) (xs : List A) (y : A) (b : Bool) → p x ≡ b
    → (find p xs ≡ Some y → (k : ℕ) × (slice_get xs k ≡ Some y) × (p y ≡ true))
    → cond b (Some x) (find p xs) ≡ Some y → (k : ℕ) × (slice_get (x ∷ xs) k ≡ Some y) × (p y ≡ true)
found_or {A = A} p x xs y true is rest got = let same = same_Some x y got in (0, got, subst (λ (z : A). p z ≡ true) same is)
found_or p x xs y false is rest got = let there = rest got in (suc there.0, there.1, there.2)

pub found_at : {A : Type 0} (p : A → Bool) (xs : List A) (y : A) → find p xs ≡ Some y → (k : ℕ) × (slice_get xs k ≡ Some y) × (p y ≡ true)
found_at p [] y got = absurd (cc)
found_at p (x ∷ xs) y got = found_or p x xs y (p x) refl (λ later. found_at p xs y later) got

-- a plain flag has no transaction bit
pub plain_bits : (flag : ℕ) → bit_and (plain_flag flag) 12 ≡ 0
plain_bits flag = omega (arith, and_assoc 12 flag 0xFFFF_FFF3, and_le_r flag 0)

-- ---- numbers

-- the value of a number's text is the number
pub number_value : (k : ℕ) → k < 2 ^ 64 → digits_value 10 (digits_of k) ≡ k
number_value k low = (digits_of_are_plain k low).1

-- one text writes one number
pub number_once : (j k : ℕ) → j < 2 ^ 64 → k < 2 ^ 64 → digits_of j ≡ digits_of k → j ≡ k
number_once j k low also same = sym (number_value j low) ∙ (ap (digits_value 10) same ∙ number_value k also)

-- a number below 2^62 that a bare text writes has that text
pub model : IsNumeralModel (λ ds. all_ascii_digits ds ≡ true) (digits_value 10)
model = numerals_by_value (λ ds. all_ascii_digits ds ≡ true) tells_all_ascii_digits

something : (a : Bool) (o : Option ℕ) → IsSome (if a then o else None) → a ≡ true
something true o is = refl
something false o is = absurd (cc)

by_parts : (a b c : Bool) (x : Option ℤ) (n : ℕ) → b ≡ false
    → IsSome (if a then low_number (if b then x else option_map pos (if c then Some n else None)) else None) → c ≡ true
by_parts a true c x n plain is = absurd (cc)
by_parts true false true x n plain is = refl
by_parts true false false x n plain is = absurd (cc)
by_parts false false c x n plain is = absurd (cc)

-- and that number is the value
by_value : (a b c : Bool) (x : Option ℤ) (n : ℕ) → b ≡ false
    → IsSome (if a then low_number (if b then x else option_map pos (if c then Some n else None)) else None)
    → (if a then low_number (if b then x else option_map pos (if c then Some n else None)) else None) ≡ Some n
by_value a true c x n plain is = absurd (cc)
by_value true false true x n plain is = low (nat_lt n (2 ^ 62)) is
  where
    low : (b : Bool) → IsSome (if b then Some n else None) → (if b then Some n else None) ≡ Some n
    low true some = refl
    low false some = absurd (cc)
by_value true false false x n plain is = absurd (cc)
by_value false false c x n plain is = absurd (cc)

-- a bare text of one byte, if it begins with 0, and never with a minus
bare_parts : (a b c d : Bool) → (a && not b && (not c || d)) ≡ true → (a ≡ true) × (b ≡ false) × (c ≡ true → d ≡ true)
bare_parts true false true true is = (refl, refl, λ e. refl)
bare_parts true false false d is = (refl, refl, λ e. absurd (cc))
bare_parts true false true false is = absurd (cc)
bare_parts true true c d is = absurd (cc)
bare_parts false b c d is = absurd (cc)

pub number_text : (text : List ℕ) → IsSome (number_in text) → IsNumberText (Some text)
unfolding decimal_value
number_text text is =
    let bare = bare_parts (nat_lt 0 (length text)) (slice_index text 0 == 45) (slice_index text 0 == 48) (length text == 1)
    (something (is_bare text) (low_number (decimal_value text)) is) in
    let test = by_parts (is_bare text) (starts_with_minus text)
    (nat_lt 0 (length text) && all_ascii_digits text && nat_le (digits_value 10 text) (2 ^ 63 - 1))
    (option_map (λ n. neg_ℤ (pos n)) (number_up_to (2 ^ 63) (drop 1 text))) (digits_value 10 text) bare.1 is in
    let outer = and_parts (nat_lt 0 (length text) && all_ascii_digits text) (nat_le (digits_value 10 text) (2 ^ 63 - 1)) test in
    let digits = (and_parts (nat_lt 0 (length text)) (all_ascii_digits text) outer.0).1 in
    let low = leb-true (digits_value 10 text) (2 ^ 63 - 1) outer.1 in
    let small : digits_value 10 text < 2 ^ 64 = omega (arith, low) in (
      digits_value 10 text,
      small,
      sym (decimal-digits_value model text digits (ltb-true 0 (length text) bare.0) (λ e. eqb-true (length text) 1 (bare.2 (eq-eqb (slice_index text 0) 48 e))) small),
    )

pub number_is : (text : List ℕ) → IsSome (number_in text) → number_in text ≡ Some (digits_value 10 text)
unfolding decimal_value
number_is text is =
    let bare = bare_parts (nat_lt 0 (length text)) (slice_index text 0 == 45) (slice_index text 0 == 48) (length text == 1)
    (something (is_bare text) (low_number (decimal_value text)) is) in
    by_value (is_bare text) (starts_with_minus text)
    (nat_lt 0 (length text) && all_ascii_digits text && nat_le (digits_value 10 text) (2 ^ 63 - 1))
    (option_map (λ n. neg_ℤ (pos n)) (number_up_to (2 ^ 63) (drop 1 text))) (digits_value 10 text) bare.1 is
