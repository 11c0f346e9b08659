-- How long the properties of a record are once one of them is dropped or put.
use Rattle.std.proofs.Common.{◌≡◌, ℕ, ◌+◌, ◌≤◌, ◌++◌, List, [], ◌∷◌, length, true, false, Some, sym, ap, ⊎_elim, arith, length-append}
use Rattle.std.specs.Str.{bytes_eq}
use Rattle.std.proofs.lemmas.Bool.{cases_Bool}
use Rattle.std.proofs.lemmas.Slice.Eq.{bytes_eq-Decides}
use Rattle.record_codec.specs.Entry.{Entry}
use Rattle.record_codec.specs.Layout.{size}
use Rattle.record_codec.specs.Props.{value_of, written, pair_text, with_prop, without}
use Rattle.log_model.specs.Made.{prop_size}

length-pair : (p : List ℕ × List ℕ) → length (pair_text p) ≡ length p.0 + length p.1 + 2
length-pair p = omega (arith, length-append p.0 (1 ∷ (p.1 ++ 2 ∷ [])), length-append p.1 (2 ∷ []))

length-written : (p : List ℕ × List ℕ) (ps : List (List ℕ × List ℕ)) → length (written (p ∷ ps)) ≡ length p.0 + length p.1 + 2 + length (written ps)
length-written p ps = omega (arith, length-append (pair_text p) (written ps), length-pair p)

same_length : (a b : List ℕ) → bytes_eq a b ≡ true → length a ≡ length b
same_length a b same = ap (λ (t : List ℕ). length t) ((bytes_eq-Decides a b).0 same)

-- without a property the others have the rest of the bytes at most
pub length-without : (name : List ℕ) (ps : List (List ℕ × List ℕ)) → length (written (without name ps)) + prop_size name (value_of name ps) ≤ length (written ps)
length-without name [] = omega arith
length-without name (p ∷ ps) = ⊎_elim
    (λ (here : bytes_eq name p.0 ≡ true). rw here (omega (arith, length-without name ps, same_length name p.0 here, length-written p ps)))
    (λ (later : bytes_eq name p.0 ≡ false). rw later (omega (arith, length-without name ps, length-written p ps, length-written p (without name ps))))
    (cases_Bool (bytes_eq name p.0))

-- so one property has no more bytes than all
pub prop_within : (name : List ℕ) (ps : List (List ℕ × List ℕ)) → prop_size name (value_of name ps) ≤ length (written ps)
prop_within name ps = omega (arith, length-without name ps)

-- a value that is put takes its bytes in the place of the old one's
pub length-with_prop : (name value : List ℕ) (ps : List (List ℕ × List ℕ))
    → length (written (with_prop name value ps)) + prop_size name (value_of name ps) ≡ length (written ps) + length name + length value + 2
length-with_prop name value [] = omega (arith, length-written (name, value) [])
length-with_prop name value (p ∷ ps) = ⊎_elim
    (λ (here : bytes_eq name p.0 ≡ true). rw here (omega (arith, same_length name p.0 here, length-written p ps, length-written (p.0, value) ps)))
    (λ (later : bytes_eq name p.0 ≡ false). rw later (omega (arith, length-with_prop name value ps, length-written p ps, length-written p (with_prop name value ps))))
    (cases_Bool (bytes_eq name p.0))

-- one pair more, at the end
pub length-push : (name value : List ℕ) (ps : List (List ℕ × List ℕ)) → length (written (ps ++ (name, value) ∷ [])) ≡ length (written ps) + length name + length value + 2
length-push name value [] = omega (arith, length-written (name, value) [])
length-push name value (p ∷ ps) = omega (arith, length-push name value ps, length-written p ps, length-written p (ps ++ (name, value) ∷ []))

-- a property that a record has is no longer than the record
pub prop_low : (name value : List ℕ) (r : Entry) → Some value ≡ value_of name r.props → length name + length value + 2 ≤ size r
prop_low name value r is =
    let here : prop_size name (value_of name r.props) ≡ length name + length value + 2 = ap (prop_size name) (sym is) in
    omega (arith, prop_within name r.props, here)
