-- Numbers as texts, the four topics of the broker, and the bits of a transaction.
use Rattle.std.proofs.Common.{◌≡◌, ◌≢◌, ◌∙◌, refl, ap, sym, subst, arith, ℕ, zero, suc, ◌*◌, ◌+◌, ◌/◌, ◌%◌, ◌^◌, ◌<◌, Bool, true, false, List, [], ◌∷◌, length, get_or, Option, Some, None, pos}
use Rattle.std.specs.Prelude.{◌||◌, nat_eq, bit_and, bit_or, unwrap_or, IsSome, IfSome, if◌then◌else◌}
use Rattle.std.specs.Str.{bytes_eq}
use Rattle.std.specs.Str.Parse.{digits_value}
use Rattle.std.specs.Fmt.{digits}
use Rattle.std.specs.Int.Bits.{and_zero_r}
use Rattle.std.proofs.lemmas.Bool.{lt-ltb, ne_eqb, eq-eqb}
use Rattle.std.proofs.lemmas.Nat.{and_or_self, and_or_apart, and_block, and_assoc, and_le_r}
use Rattle.std.proofs.lemmas.Str.{IsUtf8-from_ascii, is_utf8-from_IsUtf8}
use Rattle.std.proofs.lemmas.Fmt.{IsAscii-decimal}
use Rattle.std.proofs.lemmas.Slice.Eq.{bytes_eq-Decides}
use Rattle.mq_bytes.specs.Decimal.{digits_of, decimal_value}
use Rattle.mq_bytes.proofs.DecimalLaws.{digits_of_are_plain, decimal_value-decimal}
use Rattle.log_model.specs.Admissible.{level_topic, half_topic, op_topic, discard_topic, is_system_topic, is_bare, low_number, number_in, number_of, IsBelow}
use Rattle.log_model.specs.Drafts.{plain_flag}
use Rattle.half_view.proofs.NumberLemmas.{number_is, text_names}

-- ---- numbers as texts

first_bare : (text : List ℕ) → 48 < get_or text 0 0 → is_bare text ≡ true
first_bare [] digit = absurd (omega (arith, digit))
first_bare (c ∷ text) digit =
    let minus = ne_eqb c 45 (λ e. omega (arith, e, digit)) in
    let zero_digit = ne_eqb c 48 (λ e. omega (arith, e, digit)) in
    let some = lt-ltb 0 (suc (length text)) (omega arith) in
    rw (some, minus, zero_digit) refl

bare : (n : ℕ) → n < 2 ^ 64 → is_bare (digits_of n) ≡ true
unfolding digits
bare zero low = refl
bare (suc n) low = first_bare (digits_of (suc n)) ((digits_of_are_plain (suc n) low).2 (omega arith))

-- a number's text is read as that number
pub number_in_digits : (n : ℕ) → n < 2 ^ 62 → number_in (digits_of n) ≡ Some n
number_in_digits n low =
    ap (λ (b : Bool). if b then low_number (decimal_value (digits_of n)) else None) (bare n (omega (arith, low)))
    ∙ ap low_number (decimal_value-decimal (pos n) (omega (arith, low)))
    ∙ ap (λ (b : Bool). if b then Some n else None) (lt-ltb n (2 ^ 62) low)

-- also where it is a body
pub number_of_digits : (n : ℕ) → n < 2 ^ 62 → number_of (digits_of n) ≡ Some n
number_of_digits n low =
    ap (λ (b : Bool). if b then number_in (digits_of n) else None)
    (is_utf8-from_IsUtf8 (digits_of n) (IsUtf8-from_ascii (digits_of n) (IsAscii-decimal n (omega (arith, low)))))
    ∙ number_in_digits n low

of_number : (bound : ℕ) (o : Option ℕ) (n : ℕ) → IfSome o (λ k. k < bound) → o ≡ Some n → n < bound
of_number bound o n low is = subst (λ (p : Option ℕ). IfSome p (λ k. k < bound)) is low

-- a number below a bound has that value
pub below_read : (text : List ℕ) (bound : ℕ) → IsBelow bound text → digits_value 10 text < bound
below_read text bound is = of_number bound (number_in text) (digits_value 10 text) is.0 (number_is text is.1)

-- a number's text is its digits
pub low_text : (text : List ℕ) → IsBelow 1024 text → text ≡ digits_of (digits_value 10 text)
low_text text is =
    let low = below_read text 1024 is in
    let h = digits_value 10 text in
    (bytes_eq-Decides text (digits_of h)).0 (text_names text h (omega (arith, low)) is.1 ∙ eq-eqb h h refl)

-- ---- texts that may be absent

pub text_holds : (o : Option (List ℕ)) (P : List ℕ → Type 0) → IsSome o → IfSome o P → P (unwrap_or o [])
text_holds None P there is = absurd (cc)
text_holds (Some text) P there is = is

pub some_text : (o : Option (List ℕ)) → IsSome o → o ≡ Some (unwrap_or o [])
some_text None there = absurd (cc)
some_text (Some text) there = refl

-- ---- topics

pub differ : (a b : List ℕ) → bytes_eq a b ≡ false → a ≢ b
differ a b apart same = let bad : false ≡ true = sym apart ∙ (bytes_eq-Decides a b).1 same in cc bad

pub never : {A : Type 0} (b : Bool) → b ≡ false → b ≡ true → A
never b fails holds = let e : false ≡ true = sym fails ∙ holds in absurd (cc)

-- a topic of clients is none of the broker's
pub record IsApart (topic : List ℕ) : Type 0 where
  pub level : bytes_eq topic level_topic ≡ false
  pub half : bytes_eq topic half_topic ≡ false
  pub op : bytes_eq topic op_topic ≡ false
  pub discard : bytes_eq topic discard_topic ≡ false

four : (a b c d : Bool) → (a || b || c || d) ≡ false → (a ≡ false) × (b ≡ false) × (c ≡ false) × (d ≡ false)
four true b c d fails = absurd (cc)
four false true c d fails = absurd (cc)
four false false true d fails = absurd (cc)
four false false false true fails = absurd (cc)
four false false false false fails = (refl, refl, refl, refl)

pub apart_of : (topic : List ℕ) → is_system_topic topic ≡ false → IsApart topic
apart_of topic plain =
    let h = four (bytes_eq topic level_topic) (bytes_eq topic half_topic) (bytes_eq topic op_topic) (bytes_eq topic discard_topic) plain in
    record { level = h.0; half = h.1; op = h.2; discard = h.3 }

-- ---- the bits of a transaction

-- with the bit 8 and without the bit 4 the bits of a transaction are 8
eight_bits : (y : ℕ) → bit_and y 8 ≡ 8 → bit_and y 4 ≡ 0 → bit_and y 12 ≡ 8
eight_bits y eight four =
    let whole : y ≡ y / 8 * 2 ^ 3 + y % 8 = omega arith in
    let low : y % 8 < 2 ^ 3 = omega arith in
    let a = and_block 3 (y / 8) 1 (y % 8) 0 low (omega arith) in
    let b = and_block 3 (y / 8) 0 (y % 8) 4 low (omega arith) in
    let c = and_block 3 (y / 8) 1 (y % 8) 4 low (omega arith) in
    omega (
      arith,
      a,
      b,
      c,
      eight,
      four,
      ap (λ (n : ℕ). bit_and n 8) whole,
      ap (λ (n : ℕ). bit_and n 4) whole,
      ap (λ (n : ℕ). bit_and n 12) whole,
      and_le_r (y % 8) 0,
      and_le_r (y / 8) 0,
    )

-- a committed copy has the bit 8 alone
pub copy_bits : (flag : ℕ) → bit_and (bit_or (plain_flag flag) 8) 12 ≡ 8
copy_bits flag = eight_bits (bit_or (plain_flag flag) 8) (and_or_self 8 (plain_flag flag))
    (and_or_apart 4 (plain_flag flag) 8 refl ∙ omega (arith, and_assoc 4 flag 0xFFFF_FFF3, and_le_r flag 0))

-- a plain flag has none
pub no_bits : (flag : ℕ) → bit_and (plain_flag flag) 12 ≡ 0
no_bits flag = and_assoc 12 flag 0xFFFF_FFF3 ∙ and_zero_r flag

-- which isn't that of a copy
pub no_eight : {A : Type 0} (n : ℕ) → n ≡ 0 → n ≡ 8 → A
no_eight n none eight = let bad : 0 ≡ 8 = sym none ∙ eight in absurd (let e : ⊥ = omega (arith, bad) in e)

pub not_eight : (n : ℕ) → n ≡ 0 → nat_eq n 8 ≡ false
not_eight n none = ne_eqb n 8 (λ eight. no_eight n none eight)
