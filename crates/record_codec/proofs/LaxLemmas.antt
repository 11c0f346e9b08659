-- Reading the properties of a request piece by piece.
use Rattle.std.proofs.Common.{◌≡◌, ℕ, ◌<◌, List, [], ◌∷◌, length, Bool, true, false, cond, eqb, Option, Some, None, option_map, refl, sym, ap, subst, ◌∙◌, inl, inr, arith, length-append}
use Rattle.std.specs.Prelude.{unwrap_or}
use Rattle.std.specs.List.{filter_map, cons_option}
use Rattle.std.specs.Str.{IsUtf8}
use Rattle.std.proofs.lemmas.Str.{IsUtf8-nil}
use Rattle.record_codec.specs.Props.{is_pair, until, pair_in, with_prop}
use Rattle.record_codec.specs.LaxProps.{in_front, pieces, first_piece, with_all}
use Rattle.record_codec.proofs.PairTexts.{chosen, map_some, some_is, until-parts, pair_takes}
use Rattle.record_codec.proofs.TextLemmas.{IsUtf8-parts}

pieces_some : (x : ℕ) (t a rest : List ℕ) → until x t ≡ Some (a, rest) → pieces x t ≡ a ∷ pieces x rest
unfolding until pieces
pieces_some x [] a rest h = absurd cc
pieces_some x (b ∷ t) a rest h =
    elim (chosen (eqb b x) (Some ([], t)) (option_map (λ p. (b ∷ p.0, p.1)) (until x t)) (Some (a, rest)) h) [
      | inl here ↦
          let same : ([], t) ≡ (a, rest) = some_is ([], t) (a, rest) here.1 in
          rw here.0 (ap (λ (p : List ℕ × List ℕ). p.0 ∷ pieces x p.1) same)
      | inr later ↦
          let v = map_some (until x t) (λ p. (b ∷ p.0, p.1)) (a, rest) later.1 in
          rw later.0 (ap (in_front b) (pieces_some x t v.0.0 v.0.1 v.1) ∙ ap (λ (p : List ℕ × List ℕ). p.0 ∷ pieces x p.1) v.2)
    ]

none_parts : {A : Type 0} (t : Bool) (p : A) (f : A → A) (o : Option A) → cond t (Some p) (option_map f o) ≡ None → (t ≡ false) × (o ≡ None)
none_parts true p f o h = absurd cc
none_parts false p f None h = (refl, refl)
none_parts false p f (Some q) h = absurd cc

pieces_none : (x : ℕ) (t : List ℕ) → until x t ≡ None → pieces x t ≡ t ∷ []
unfolding until pieces
pieces_none x [] h = refl
pieces_none x (b ∷ t) h =
    let n = none_parts (eqb b x) ([], t) (λ p. (b ∷ p.0, p.1)) (until x t) h in
    rw n.0 (ap (in_front b) (pieces_none x t n.1))

-- the pairs of a text's pieces
abbrev pub pairs_of : List ℕ → List (List ℕ × List ℕ)
pairs_of t = filter_map pair_in (pieces 2 t)

pub pairs_of-nil : pairs_of [] ≡ []
unfolding pieces pair_in until
pairs_of-nil = refl

-- what the first piece of a text is, and what is left
pub record IsFirst (t piece after : List ℕ) : Type 0 where
  pub pairs : pairs_of t ≡ cons_option (pair_in piece) (pairs_of after)
  pub smaller : 0 < length t → length after < length t
  pub utf8 : IsUtf8 t → IsUtf8 piece × IsUtf8 after

first_some : (t : List ℕ) (q : List ℕ × List ℕ) → until 2 t ≡ Some q → IsFirst t q.0 q.1
first_some t q h =
    let parts = until-parts 2 t q.0 q.1 h in
    record {
      pairs = ap (filter_map pair_in) (pieces_some 2 t q.0 q.1 h);
      smaller = λ some. omega (arith, ap (λ (w : List ℕ). length w) parts.0, length-append q.0 (2 ∷ q.1));
      utf8 = λ u. IsUtf8-parts q.0 2 q.1 (omega arith) (subst IsUtf8 parts.0 u);
    }

first_none : (t : List ℕ) → until 2 t ≡ None → IsFirst t t []
first_none t h = record {
  pairs = ap (filter_map pair_in) (pieces_none 2 t h) ∙ ap (cons_option (pair_in t)) (sym pairs_of-nil);
  smaller = λ some. some;
  utf8 = λ u. (u, IsUtf8-nil);
}

first_by : (t : List ℕ) (o : Option (List ℕ × List ℕ)) → until 2 t ≡ o → (let p = unwrap_or o (t, []) in IsFirst t p.0 p.1)
first_by t None h = first_none t h
first_by t (Some q) h = first_some t q h

pub first_is : (t : List ℕ) (p : List ℕ × List ℕ) → p ≡ first_piece t → IsFirst t p.0 p.1
first_is t p e = subst (λ (w : List ℕ × List ℕ). IsFirst t w.0 w.1) (sym e) (first_by t (until 2 t) refl)

-- a piece with a pair
pub with_pair : (t piece after : List ℕ) (ps : List (List ℕ × List ℕ)) (p : List ℕ × List ℕ) → IsFirst t piece after → pair_in piece ≡ Some p → with_all (with_prop p.0 p.1 ps) (pairs_of after) ≡ with_all ps (pairs_of t)
with_pair t piece after ps p first h = sym (ap (with_all ps) (first.pairs ∙ ap (λ (o : Option (List ℕ × List ℕ)). cons_option o (pairs_of after)) h))

-- a piece that is dropped
pub without_pair : (t piece after : List ℕ) (ps : List (List ℕ × List ℕ)) → IsFirst t piece after → pair_in piece ≡ None → with_all ps (pairs_of after) ≡ with_all ps (pairs_of t)
without_pair t piece after ps first h = sym (ap (with_all ps) (first.pairs ∙ ap (λ (o : Option (List ℕ × List ℕ)). cons_option o (pairs_of after)) h))

-- the texts of a pair
pub IsUtf8-piece : (piece : List ℕ) (p : List ℕ × List ℕ) → pair_in piece ≡ Some p → IsUtf8 piece → (is_pair p ≡ true) × IsUtf8 p.0 × IsUtf8 p.1
IsUtf8-piece piece p h u =
    let t = pair_takes piece p h in
    let parts = IsUtf8-parts p.0 1 p.1 (omega arith) (subst IsUtf8 t.0 u) in
    (t.1, parts.0, parts.1)
