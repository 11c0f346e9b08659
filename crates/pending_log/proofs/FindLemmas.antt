-- Where a search by place ends.
use Rattle.std.proofs.Common.{◌≡◌, ⊎_elim, refl, ap, sym, ◌∙◌, subst, arith, ℕ, zero, suc, ◌+◌, ◌<◌, ◌≤◌, not, cond, nat_le, Bool, true, false, List, [], ◌∷◌, length, take, get_or, slice_get, Some}
use Rattle.std.specs.List.{position_or_len}
use Rattle.std.specs.List.Sorted.{IsNonDecreasingBy}
use Rattle.std.proofs.Math.Seq.{take-length}
use Rattle.std.proofs.lemmas.Bool.{le-leb, leb-true, leb-false, cases_Bool}
use Rattle.std.proofs.lemmas.Option.{get_or_from_slice_get}
use Rattle.pending_log.specs.declared.rows.Row.{Row}
use Rattle.pending_log.proofs.Lists.{some_one, get_within}

-- those before the first that passes don't pass
before_first : {A : Type 0} (p : A → Bool) (xs : List A) (k : ℕ) (x : A) → k < position_or_len p xs → slice_get xs k ≡ Some x → p x ≡ true → ⊥
before_first p [] k x low at passes = cc at
before_first p (y ∷ xs) zero x low at passes =
    let here : p y ≡ true = ap p (some_one at) ∙ passes in
    let none : 0 < cond (not true) (1 + position_or_len p xs) 0 = subst (λ b. 0 < cond (not b) (1 + position_or_len p xs) 0) here low in
    absurd (let no_one : ⊥ = omega (arith, none) in no_one)
before_first p (y ∷ xs) (suc k) x low at passes =
    (elim (p y) as (λ b. suc k < cond (not b) (1 + position_or_len p xs) 0 → ⊥) [
      | true ↦ λ none. absurd (let no_one : ⊥ = omega (arith, none) in no_one)
      | false ↦ λ more. before_first p xs k x (omega (arith, more)) at passes
    ]) low

-- the first that passes does
at_first : {A : Type 0} (p : A → Bool) (xs : List A) (k : ℕ) (x : A) → k ≡ position_or_len p xs → slice_get xs k ≡ Some x → p x ≡ true
at_first p [] k x is at = cc at
at_first p (y ∷ xs) zero x is at =
    (elim (p y) as (λ b. p y ≡ b → 0 ≡ cond (not b) (1 + position_or_len p xs) 0 → p x ≡ true) [
      | true ↦ λ e z. ap p (sym (some_one at)) ∙ e
      | false ↦ λ e z. absurd (let none : ⊥ = omega (arith, z) in none)
    ]) refl is
at_first p (y ∷ xs) (suc k) x is at =
    (elim (p y) as (λ b. suc k ≡ cond (not b) (1 + position_or_len p xs) 0 → p x ≡ true) [
      | true ↦ λ z. absurd (let none : ⊥ = omega (arith, z) in none)
      | false ↦ λ z. at_first p xs k x (omega (arith, z)) at
    ]) is

-- where the search ends behind the rows, no row has this place
pub absent_behind : (rows : List Row) (bound m n : ℕ) → m ≡ length rows → n ≡ position_or_len (λ (row : Row). nat_le bound row.place) (take m rows) → length rows ≤ n
    → (k : ℕ) (row : Row) → slice_get rows k ≡ Some row → row.place ≡ bound → ⊥
absent_behind rows bound m n all is past k row at same =
    let whole : take m rows ≡ rows = ap (λ i. take i rows) all ∙ take-length rows in
    let first : n ≡ position_or_len (λ (x : Row). nat_le bound x.place) rows = is ∙ ap (λ (xs : List Row). position_or_len (λ (x : Row). nat_le bound x.place) xs) whole in
    let within = get_within rows k row at in
    before_first (λ (x : Row). nat_le bound x.place) rows k row (omega (arith, within, past, first)) at (le-leb bound row.place (omega (arith, same)))

-- nor where it ends at a row with another place
pub absent_at : (rows : List Row) (bound m n : ℕ) → m ≡ length rows → n ≡ position_or_len (λ (row : Row). nat_le bound row.place) (take m rows)
    → IsNonDecreasingBy (λ (row : Row). row.place) (take m rows) → (found : Row) → slice_get rows n ≡ Some found → (found.place ≡ bound → ⊥)
    → (k : ℕ) (row : Row) → slice_get rows k ≡ Some row → row.place ≡ bound → ⊥
absent_at rows bound m n all is rising found at_n other k row at same =
    let whole : take m rows ≡ rows = ap (λ i. take i rows) all ∙ take-length rows in
    let first : n ≡ position_or_len (λ (x : Row). nat_le bound x.place) rows = is ∙ ap (λ (xs : List Row). position_or_len (λ (x : Row). nat_le bound x.place) xs) whole in
    let order : IsNonDecreasingBy (λ (x : Row). x.place) rows = subst (λ (xs : List Row). IsNonDecreasingBy (λ (x : Row). x.place) xs) whole rising in
    let passes : bound ≤ found.place = leb-true bound found.place (at_first (λ (x : Row). nat_le bound x.place) rows n found first at_n) in
    let within = get_within rows k row at in
    ⊎_elim (λ (before : nat_le n k ≡ true).
    let up = order n k row (leb-true n k before) within in
    let low : get_or rows n row ≡ found = get_or_from_slice_get rows n found row at_n in
    let high : get_or rows k row ≡ row = get_or_from_slice_get rows k row row at in
    let ordered : found.place ≤ row.place = subst (λ (z : Row). found.place ≤ z.place) high (subst (λ (z : Row). z.place ≤ (get_or rows k row).place) low up) in
    other (omega (arith, ordered, passes, same)))
    (λ (after : nat_le n k ≡ false).
    let early : k < n = leb-false n k after in
    before_first (λ (x : Row). nat_le bound x.place) rows k row (omega (arith, early, first)) at (le-leb bound row.place (omega (arith, same))))
    (cases_Bool (nat_le n k))
