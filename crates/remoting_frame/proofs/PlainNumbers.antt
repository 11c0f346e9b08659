-- A number's text with neither a sign nor a zero in front of other digits is the one that is written for it.
use Rattle.std.specs.Prelude.{nat_lt, nat_le}
use Rattle.std.proofs.Common.{◌≡◌, ℕ, ◌-◌, ◌<◌, ◌≤◌, ◌^◌, Bool, true, false, ◌&&◌, cond, List, length, get_or, ℤ, pos, Some, None, sym, ap, ◌∙◌, refl, arith}
use Rattle.std.specs.Option.{option_map}
use Rattle.std.specs.Str.{all_ascii_digits}
use Rattle.std.specs.Str.Parse.{starts_with_minus, digits_value}
use Rattle.std.proofs.lemmas.Bool.{and_parts}
use Rattle.std.proofs.lemmas.Bool.Decides.{nat_tests}
use Rattle.std.proofs.lemmas.Option.{same_Some}
use Rattle.std.proofs.lemmas.Str.Parse.{IsNumeralModel, numerals_by_value, tells_all_ascii_digits}
use Rattle.std.proofs.lemmas.Fmt.{decimal-digits_value}
use Rattle.mq_bytes.specs.Decimal.{decimal, number_up_to, decimal_value}

model : IsNumeralModel (λ ds. all_ascii_digits ds ≡ true) (digits_value 10)
model = numerals_by_value (λ ds. all_ascii_digits ds ≡ true) tells_all_ascii_digits

module _ (ds : List ℕ) (lead : get_or ds 0 0 ≡ 48 → length ds ≡ 1) (z : ℤ) where
  of_test : (b : Bool) → (b ≡ true → (all_ascii_digits ds ≡ true) × (0 < length ds) × (digits_value 10 ds ≤ 2 ^ 63 - 1))
      → option_map pos (cond b (Some (digits_value 10 ds)) None) ≡ Some z → ds ≡ decimal z
  of_test true parts e =
      let is = parts refl in
      sym (decimal-digits_value model ds is.0 is.1 lead (omega (arith, is.2))) ∙ ap decimal (same_Some (pos (digits_value 10 ds)) z e)
  of_test false parts e = absurd cc

  bare : option_map pos (number_up_to (2 ^ 63 - 1) ds) ≡ Some z → ds ≡ decimal z
  bare e = of_test (nat_lt 0 (length ds) && all_ascii_digits ds && nat_le (digits_value 10 ds) (2 ^ 63 - 1))
      (λ test. let outer = and_parts (nat_lt 0 (length ds) && all_ascii_digits ds) (nat_le (digits_value 10 ds) (2 ^ 63 - 1)) test in
      let inner = and_parts (nat_lt 0 (length ds)) (all_ascii_digits ds) outer.0 in
      let some = inner.0 in let within = outer.1 in
      (inner.1, grind (arith, nat_tests), grind (arith, nat_tests))) e

no_minus : (text : List ℕ) → 48 ≤ get_or text 0 0 → starts_with_minus text ≡ false
no_minus text first =
    let apart : get_or text 0 0 ≡ 45 → ⊥ = λ e. absurd (omega (arith, first, e)) in
    grind (arith, nat_tests)

pub bare_is_decimal : (text : List ℕ) (z : ℤ) → 48 ≤ get_or text 0 0 → (get_or text 0 0 ≡ 48 → length text ≡ 1) → decimal_value text ≡ Some z → text ≡ decimal z
unfolding decimal_value
bare_is_decimal text z first lead e = bare text lead z (rw (no_minus text first) at e)
