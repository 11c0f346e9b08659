-- What the texts of deliveries tell.
use Rattle.std.proofs.Common.{◌≡◌, inl, inr, refl, ap, sym, ◌∙◌, arith, ℕ, ◌<◌, ◌≤◌, ◌^◌, List, [], ◌∷◌, ◌++◌, Bool, true, false, cond, Some, None}
use Rattle.std.specs.Prelude.{◌==◌, not}
use Rattle.std.specs.Str.{bytes_eq, all_ascii_digits}
use Rattle.std.proofs.lemmas.Bool.{cases_Bool, and_from, eqb-true, cond-true}
use Rattle.std.proofs.lemmas.Option.{same_Some}
use Rattle.std.proofs.lemmas.Str.Parse.{tells_all_ascii_digits}
use Rattle.mq_bytes.specs.Decimal.{digits_of}
use Rattle.mq_bytes.proofs.DecimalLaws.{digits_of_are_plain}
use Rattle.record_codec.specs.Props.{value_of, lacks, until}
use Rattle.record_codec.proofs.PairTexts.{until-first}
use Rattle.log_model.specs.Drafts.{delivery_text}
use Rattle.core_laws.proofs.Texts.{model, number_once, text_equal}

-- digits have no dash
no_dash : (text : List ℕ) → all_ascii_digits text ≡ true → lacks 45 text ≡ true
no_dash [] digits = refl
no_dash (c ∷ text) digits =
    let parts = tells_all_ascii_digits.parts c text digits in
    and_from (not (c == 45)) (lacks 45 text) (apart parts.0.0) (no_dash text parts.1)
  where
    apart : 48 ≤ c → not (c == 45) ≡ true
    apart low = elim (cases_Bool (c == 45)) [
      | inl same ↦ absurd (omega (arith, low, eqb-true c 45 same))
      | inr differs ↦ ap not differs
    ]

-- a level, a dash, and a number
pub text_parts : (level number : ℕ) → level < 2 ^ 64 → until 45 (delivery_text level number) ≡ Some (digits_of level, digits_of number)
text_parts level number low =
    until-first 45 (digits_of level) (digits_of number) (no_dash (digits_of level) (model.from (digits_of level) (digits_of_are_plain level low).0.1))

-- one text is of one level and number
pub same_delivery : (a m b n : ℕ) → a < 2 ^ 64 → m < 2 ^ 64 → b < 2 ^ 64 → n < 2 ^ 64 → delivery_text a m ≡ delivery_text b n → (a ≡ b) × (m ≡ n)
same_delivery a m b n a_low m_low b_low n_low same =
    let pairs = same_Some (digits_of a, digits_of m) (digits_of b, digits_of n) (sym (text_parts a m a_low) ∙ (ap (until 45) same ∙ text_parts b n b_low)) in
    (number_once a b a_low b_low (ap (λ (p : List ℕ × List ℕ). p.0) pairs), number_once m n m_low n_low (ap (λ (p : List ℕ × List ℕ). p.1) pairs))

-- a property behind others, where none of these has its name
end_step : (name value : List ℕ) (p : List ℕ × List ℕ) (ps : List (List ℕ × List ℕ)) (b : Bool)
    → (value_of name ps ≡ None → value_of name (ps ++ (name, value) ∷ []) ≡ Some value)
    → cond b (Some p.1) (value_of name ps) ≡ None → cond b (Some p.1) (value_of name (ps ++ (name, value) ∷ [])) ≡ Some value
end_step name value p ps true rest none = absurd (cc)
end_step name value p ps false rest none = rest none

pub end_value : (name value : List ℕ) (ps : List (List ℕ × List ℕ)) → value_of name ps ≡ None → value_of name (ps ++ (name, value) ∷ []) ≡ Some value
end_value name value [] none = cond-true (bytes_eq name name) (Some value) None (text_equal name name refl)
end_value name value (p ∷ ps) none = end_step name value p ps (bytes_eq name p.0) (λ e. end_value name value ps e) none
