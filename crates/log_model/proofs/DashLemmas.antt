-- What stands before the first byte x of a text, and behind it.
use Rattle.std.proofs.Common.{◌≡◌, ℕ, suc, ◌+◌, ◌<◌, List, [], ◌∷◌, length, true, false, eqb, Option, Some, None, option_map, Bor, MatchOption, refl, sym, ◌∙◌, ⊎_elim, arith}
use Rattle.std.specs.List.{position_or_len, before_first, after_first}
use Rattle.std.proofs.lemmas.Bool.{cases_Bool}
use Rattle.record_codec.specs.Props.{until}

abbrev first_of : ℕ → List ℕ → ℕ
first_of x text = position_or_len (λ b. eqb b x) text

pub until-found : (x : ℕ) (text : List ℕ) → first_of x text < length text → until x text ≡ Some (before_first (λ b. eqb b x) text, after_first (λ b. eqb b x) text)
unfolding until
until-found x [] low = absurd (omega (arith, low))
until-found x (b ∷ text) low = ⊎_elim
    (λ (here : eqb b x ≡ true). rw here refl)
    (λ (later : eqb b x ≡ false).
    let less : first_of x text < length text = omega (arith, rw later at low) in
    let one : 1 + first_of x text ≡ suc (first_of x text) = omega arith in
    let behind : suc (first_of x text) + 1 ≡ suc (first_of x text + 1) = omega arith in
    rw (later, until-found x text less, one, behind) refl)
    (cases_Bool (eqb b x))

pub until-absent : (x : ℕ) (text : List ℕ) → first_of x text ≡ length text → until x text ≡ None
unfolding until
until-absent x [] all = refl
until-absent x (b ∷ text) all = ⊎_elim
    (λ (here : eqb b x ≡ true). absurd (omega (arith, rw here at all)))
    (λ (later : eqb b x ≡ false).
    let rest : first_of x text ≡ length text = omega (arith, rw later at all) in
    rw (later, until-absent x text rest) refl)
    (cases_Bool (eqb b x))

-- what `split_once` gives
pub split_is : (x : ℕ) (text : List ℕ) (r : Option (Bor (List ℕ) × Bor (List ℕ)))
    → MatchOption r (first_of x text ≡ length text) (λ p. (first_of x text < length text) × (p.0.now ≡ before_first (λ b. eqb b x) text) × (p.1.now ≡ after_first (λ b. eqb b x) text))
    → option_map (λ p. (p.0.now, p.1.now)) r ≡ until x text
split_is x text None none = sym (until-absent x text none)
split_is x text (Some p) found = (λ i. Some (found.1 i, found.2 i)) ∙ sym (until-found x text found.0)
