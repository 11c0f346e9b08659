-- Of several values of one name the last one counts.
use Rattle.std.proofs.Common.{◌≡◌, ◌≢◌, ◌++◌, List, [], ◌∷◌, ℕ, true, false, cond, Some, None, refl, sym, ap, ◌∙◌, inl, inr, append_assoc}
use Rattle.std.specs.Prelude.{reverse}
use Rattle.std.specs.Str.{bytes_eq}
use Rattle.std.proofs.lemmas.Bool.{cases_Bool, false_from_ne_true}
use Rattle.std.proofs.lemmas.List.{reverse-append, append-nil}
use Rattle.std.proofs.lemmas.Slice.Eq.{bytes_eq-Decides}
use Rattle.record_codec.specs.Props.{value_of, with_prop, without, are_distinct}
use Rattle.record_codec.specs.LaxProps.{with_all}
use Rattle.record_codec.proofs.PutLemmas.{are_distinct-with_prop}

-- two names that differ are told apart
apart : (a b : List ℕ) → a ≢ b → bytes_eq a b ≡ false
apart a b other = false_from_ne_true _ (λ same. other ((bytes_eq-Decides a b).0 same))

-- a name has the value that was put
pub value_of-put : (name value : List ℕ) (ps : List (List ℕ × List ℕ)) → value_of name (with_prop name value ps) ≡ Some value
value_of-put name value [] = rw ((bytes_eq-Decides name name).1 refl) refl
value_of-put name value (p ∷ ps) =
    elim (cases_Bool (bytes_eq name p.0)) [
      | inl here ↦ rw (here, here) refl
      | inr later ↦ rw (later, later) (value_of-put name value ps)
    ]

-- the other names keep their values
pub value_of-other : (other name value : List ℕ) (ps : List (List ℕ × List ℕ)) → other ≢ name → value_of other (with_prop name value ps) ≡ value_of other ps
value_of-other other name value [] differs = rw (apart other name differs) refl
value_of-other other name value (p ∷ ps) differs =
    elim (cases_Bool (bytes_eq name p.0)) [
      | inl here ↦
          let not_this : bytes_eq other p.0 ≡ false = apart other p.0 (λ same. differs (same ∙ sym ((bytes_eq-Decides name p.0).0 here))) in
          rw (here, not_this) refl
      | inr later ↦ rw later (ap (cond (bytes_eq other p.0) (Some p.1)) (value_of-other other name value ps differs))
    ]

-- a name that was dropped has no value
pub value_of-dropped : (name : List ℕ) (ps : List (List ℕ × List ℕ)) → value_of name (without name ps) ≡ None
value_of-dropped name [] = refl
value_of-dropped name (p ∷ ps) =
    elim (cases_Bool (bytes_eq name p.0)) [
      | inl here ↦ rw here (value_of-dropped name ps)
      | inr later ↦ rw (later, later) (value_of-dropped name ps)
    ]

-- the other names keep their values
pub value_of-kept : (other name : List ℕ) (ps : List (List ℕ × List ℕ)) → other ≢ name → value_of other (without name ps) ≡ value_of other ps
value_of-kept other name [] differs = refl
value_of-kept other name (p ∷ ps) differs =
    elim (cases_Bool (bytes_eq name p.0)) [
      | inl here ↦
          let not_this : bytes_eq other p.0 ≡ false = apart other p.0 (λ same. differs (same ∙ sym ((bytes_eq-Decides name p.0).0 here))) in
          rw (here, not_this) (value_of-kept other name ps differs)
      | inr later ↦ rw later (ap (cond (bytes_eq other p.0) (Some p.1)) (value_of-kept other name ps differs))
    ]

-- a pair that is put counts as if it stood in front
pub value_of-front : (name : List ℕ) (p : List ℕ × List ℕ) (ps : List (List ℕ × List ℕ)) → value_of name (with_prop p.0 p.1 ps) ≡ value_of name (p ∷ ps)
value_of-front name p ps =
    elim (cases_Bool (bytes_eq name p.0)) [
      | inl here ↦ rw here (ap (λ (n : List ℕ). value_of n (with_prop p.0 p.1 ps)) ((bytes_eq-Decides name p.0).0 here) ∙ value_of-put p.0 p.1 ps)
      | inr other ↦
          let differs : name ≢ p.0 = λ same. let full : false ≡ true = sym other ∙ (bytes_eq-Decides name p.0).1 same in absurd (cc) in
          rw other (value_of-other name p.0 p.1 ps differs)
    ]

-- what stands in front of two lists with the same value leaves it the same
value_of-behind : (name : List ℕ) (front a b : List (List ℕ × List ℕ)) → value_of name a ≡ value_of name b → value_of name (front ++ a) ≡ value_of name (front ++ b)
value_of-behind name [] a b same = same
value_of-behind name (p ∷ front) a b same = ap (cond (bytes_eq name p.0) (Some p.1)) (value_of-behind name front a b same)

-- so do several, the last of them first
value_of-onto : (name : List ℕ) (ps more : List (List ℕ × List ℕ)) → value_of name (with_all ps more) ≡ value_of name (reverse more ++ ps)
value_of-onto name ps [] = refl
value_of-onto name ps (p ∷ more) =
    let turned : reverse (p ∷ more) ++ ps ≡ reverse more ++ (p ∷ ps) =
    ap (λ (l : List (List ℕ × List ℕ)). l ++ ps) (reverse-append (p ∷ []) more) ∙ append_assoc (reverse more) (p ∷ []) ps in
    value_of-onto name (with_prop p.0 p.1 ps) more ∙ value_of-behind name (reverse more) _ _ (value_of-front name p ps) ∙ ap (value_of name) (sym turned)

-- after several were put, the last value of a name counts
pub value_of-last : (name : List ℕ) (ps : List (List ℕ × List ℕ)) → value_of name (with_all [] ps) ≡ value_of name (reverse ps)
value_of-last name ps = value_of-onto name [] ps ∙ ap (value_of name) (append-nil (reverse ps))

-- names stay distinct
distinct_onto : (ps more : List (List ℕ × List ℕ)) → are_distinct ps ≡ true → are_distinct (with_all ps more) ≡ true
distinct_onto ps [] distinct = distinct
distinct_onto ps (p ∷ more) distinct = distinct_onto (with_prop p.0 p.1 ps) more (are_distinct-with_prop p.0 p.1 ps distinct)

-- and no name stands twice
pub are_distinct-with_all : (ps : List (List ℕ × List ℕ)) → are_distinct (with_all [] ps) ≡ true
are_distinct-with_all ps = distinct_onto [] ps refl
