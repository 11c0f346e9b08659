-- The words of a text, piece by piece.
use Rattle.std.proofs.Common.{◌≡◌, ◌∙◌, ℕ, zero, suc, ◌<◌, List, [], ◌∷◌, ◌++◌, length, map, filter, Bool, true, false, cond, eqb, Option, Some, None, option_map, refl, sym, ap, subst, inl, inr, append_assoc, arith, length-append}
use Rattle.std.specs.Prelude.{unwrap_or, nat_lt}
use Rattle.std.specs.Str.{IsUtf8}
use Rattle.std.proofs.lemmas.Bool.{cond-true, lt-ltb, eqb-true}
use Rattle.std.proofs.lemmas.Str.{IsUtf8-nil}
use Rattle.record_codec.specs.Props.{until}
use Rattle.record_codec.specs.LaxProps.{in_front, pieces}
use Rattle.record_codec.proofs.PairTexts.{chosen, map_some, some_is, until-parts}
use Rattle.record_codec.proofs.TextLemmas.{IsUtf8-parts}
use Rattle.log_model.specs.Keys.{hash_of, words}
use Rattle.log_replay.specs.Words.{first_word}

pieces_some : (x : ℕ) (t a rest : List ℕ) → until x t ≡ Some (a, rest) → pieces x t ≡ a ∷ pieces x rest
unfolding until pieces
pieces_some x [] a rest h = absurd cc
pieces_some x (b ∷ t) a rest h =
    elim (chosen (eqb b x) (Some ([], t)) (option_map (λ p. (b ∷ p.0, p.1)) (until x t)) (Some (a, rest)) h) [
      | inl here ↦
          let same : ([], t) ≡ (a, rest) = some_is ([], t) (a, rest) here.1 in
          rw here.0 (ap (λ (p : List ℕ × List ℕ). p.0 ∷ pieces x p.1) same)
      | inr later ↦
          let v = map_some (until x t) (λ p. (b ∷ p.0, p.1)) (a, rest) later.1 in
          rw later.0 (ap (in_front b) (pieces_some x t v.0.0 v.0.1 v.1) ∙ ap (λ (p : List ℕ × List ℕ). p.0 ∷ pieces x p.1) v.2)
    ]

none_parts : {A : Type 0} (t : Bool) (p : A) (f : A → A) (o : Option A) → cond t (Some p) (option_map f o) ≡ None → (t ≡ false) × (o ≡ None)
none_parts true p f o h = absurd cc
none_parts false p f None h = (refl, refl)
none_parts false p f (Some q) h = absurd cc

pieces_none : (x : ℕ) (t : List ℕ) → until x t ≡ None → pieces x t ≡ t ∷ []
unfolding until pieces
pieces_none x [] h = refl
pieces_none x (b ∷ t) h =
    let n = none_parts (eqb b x) ([], t) (λ p. (b ∷ p.0, p.1)) (until x t) h in
    rw n.0 (ap (in_front b) (pieces_none x t n.1))

-- the words of a text, as a list
abbrev pub words_in : List ℕ → List (List ℕ)
words_in text = words (Some text)

pub words_in-nil : words_in [] ≡ []
unfolding pieces
words_in-nil = refl

-- the word in front of others, if it has a byte
abbrev pub word_before : List ℕ → List (List ℕ) → List (List ℕ)
word_before word more = cond (nat_lt 0 (length word)) (word ∷ more) more

-- what the first piece of a text is, and what is left
pub record IsFirst (t piece after : List ℕ) : Type 0 where
  pub words : words_in t ≡ word_before piece (words_in after)
  pub smaller : 0 < length t → length after < length t
  pub utf8 : IsUtf8 t → IsUtf8 piece × IsUtf8 after

first_some : (t : List ℕ) (q : List ℕ × List ℕ) → until 32 t ≡ Some q → IsFirst t q.0 q.1
first_some t q h =
    let parts = until-parts 32 t q.0 q.1 h in
    record {
      words = ap (λ (ws : List (List ℕ)). filter (λ (word : List ℕ). nat_lt 0 (length word)) ws) (pieces_some 32 t q.0 q.1 h);
      smaller = λ some. omega (arith, ap (λ (w : List ℕ). length w) parts.0, length-append q.0 (32 ∷ q.1));
      utf8 = λ u. IsUtf8-parts q.0 32 q.1 (omega arith) (subst IsUtf8 parts.0 u);
    }

first_none : (t : List ℕ) → until 32 t ≡ None → IsFirst t t []
first_none t h = record {
  words = ap (λ (ws : List (List ℕ)). filter (λ (word : List ℕ). nat_lt 0 (length word)) ws) (pieces_none 32 t h) ∙ ap (word_before t) (sym words_in-nil);
  smaller = λ some. some;
  utf8 = λ u. (u, IsUtf8-nil);
}

first_by : (t : List ℕ) (o : Option (List ℕ × List ℕ)) → until 32 t ≡ o → (let p = unwrap_or o (t, []) in IsFirst t p.0 p.1)
first_by t None h = first_none t h
first_by t (Some q) h = first_some t q h

pub first_is : (t : List ℕ) (p : List ℕ × List ℕ) → p ≡ first_word t → IsFirst t p.0 p.1
first_is t p e = subst (λ (w : List ℕ × List ℕ). IsFirst t w.0 w.1) (sym e) (first_by t (until 32 t) refl)

keeps_word : (piece : List ℕ) (more : List (List ℕ)) → 0 < length piece → word_before piece more ≡ piece ∷ more
keeps_word piece more some = cond-true (nat_lt 0 (length piece)) (piece ∷ more) more (lt-ltb 0 (length piece) some)

-- the hashes so far and those of the words that are left, one word on
pub with_word : (topic : List ℕ) (hashes : List ℕ) (t piece after : List ℕ) → IsFirst t piece after → 0 < length piece
    → (hashes ++ hash_of topic piece ∷ []) ++ map (hash_of topic) (words_in after) ≡ hashes ++ map (hash_of topic) (words_in t)
with_word topic hashes t piece after first some =
    append_assoc hashes (hash_of topic piece ∷ []) (map (hash_of topic) (words_in after))
    ∙ ap (λ (ws : List (List ℕ)). hashes ++ map (hash_of topic) ws) (sym (first.words ∙ keeps_word piece (words_in after) some))

pub without_word : (topic : List ℕ) (hashes : List ℕ) (t piece after : List ℕ) → IsFirst t piece after → length piece ≡ 0
    → hashes ++ map (hash_of topic) (words_in after) ≡ hashes ++ map (hash_of topic) (words_in t)
without_word topic hashes t [] after first none = ap (λ (ws : List (List ℕ)). hashes ++ map (hash_of topic) ws) (sym first.words)
without_word topic hashes t (b ∷ piece) after first none = absurd (omega (arith, none))

-- what the test says of a word's length
pub has_bytes : (b : Bool) (n : ℕ) → b ≡ eqb n 0 → b ≡ false → 0 < n
has_bytes b zero e t = absurd (cc)
has_bytes b (suc n) e t = omega arith

pub has_none : (b : Bool) (n : ℕ) → b ≡ eqb n 0 → b ≡ true → n ≡ 0
has_none b n e t = eqb-true n 0 (sym e ∙ t)
