-- Texts that are known to be in written form, and pieces between bytes 2.
use Rattle.std.proofs.Common.{◌≡◌, ℕ, ◌<◌, ◌++◌, List, [], ◌∷◌, length, Bool, true, false, cond, not, ◌&&◌, eqb, ltb, Option, Some, None, option_map, refl, sym, ap, subst, ◌∙◌, append_assoc, arith}
use Rattle.std.proofs.lemmas.Bool.{and_parts, and_from}
use Rattle.record_codec.specs.Props.{written, lacks, is_pair, are_pairs, until, pair_in, pairs_in, next_written}
use Rattle.record_codec.proofs.PairTexts.{bind_some, map_some, some_is, pairs_take, pairs_again, until-first, until-parts, pair_facts}
use Rattle.record_codec.proofs.ScanLemmas.{until_shorter}

-- ---- texts that are known to be in written form

pub written_smaller : (t : List ℕ) (r : List ℕ × List ℕ × List ℕ) → next_written t ≡ Some r → length r.2 < length t
unfolding next_written
written_smaller t r h =
    let a = bind_some (until 1 t) (λ a. option_map (λ b. (a.0, b.0, b.1)) (until 2 a.1)) r h in
    let b = map_some (until 2 a.0.1) (λ b. (a.0.0, b.0, b.1)) r a.2 in
    let one = until_shorter 1 t a.0 a.1 in
    let two = until_shorter 2 a.0.1 b.0 b.1 in
    let rest : b.0.1 ≡ r.2 = ap (λ (w : List ℕ × List ℕ × List ℕ). w.2) b.2 in
    omega (arith, one, two, ap (λ (w : List ℕ). length w) rest)

next_of_written : (p : List ℕ × List ℕ) (ps : List (List ℕ × List ℕ)) → is_pair p ≡ true → next_written (written (p ∷ ps)) ≡ Some (p.0, p.1, written ps)
unfolding next_written
next_of_written p ps h =
    let f = pair_facts p h in
    let regrouped : written (p ∷ ps) ≡ p.0 ++ 1 ∷ (p.1 ++ 2 ∷ written ps) = simp append_assoc in
    let one = ap (until 1) regrouped ∙ until-first 1 p.0 (p.1 ++ 2 ∷ written ps) f.name_1 in
    let two = until-first 2 p.1 (written ps) f.value_2 in
    rw (one, two) refl

-- a text is that of its pairs
abbrev Reads : List ℕ → List (List ℕ × List ℕ) → Type 0
Reads t ps = pairs_in (length t) t ≡ Some ps

first_written : (t : List ℕ) (ps : List (List ℕ × List ℕ)) → 0 < length t → Reads t ps
    → (p : List ℕ × List ℕ) × (qs : List (List ℕ × List ℕ)) × (ps ≡ p ∷ qs) × (next_written t ≡ Some (p.0, p.1, written qs)) × Reads (written qs) qs
first_written t [] lt all = absurd (omega (arith, ap (λ (w : List ℕ). length w) (pairs_take (length t) t [] all).0))
first_written t (p ∷ qs) lt all =
    let take = pairs_take (length t) t (p ∷ qs) all in
    let parts = and_parts (is_pair p) (are_pairs qs) take.1 in
    (p, qs, refl, ap next_written take.0 ∙ next_of_written p qs parts.0, pairs_again (length (written qs)) qs parts.1 (omega arith))

pub written_goes : (t : List ℕ) (r : List ℕ × List ℕ × List ℕ) (ps : List (List ℕ × List ℕ)) → 0 < length t → next_written t ≡ Some r → pairs_in (length t) t ≡ Some ps
    → (qs : List (List ℕ × List ℕ)) × (pairs_in (length r.2) r.2 ≡ Some qs) × (ps ≡ (r.0, r.1) ∷ qs)
written_goes t r ps lt h all =
    let f = first_written t ps lt all in
    let same : (f.0.0, f.0.1, written f.1) ≡ r = some_is (f.0.0, f.0.1, written f.1) r (sym f.3 ∙ h) in
    subst (λ (w : List ℕ × List ℕ × List ℕ). (qs : List (List ℕ × List ℕ)) × (pairs_in (length w.2) w.2 ≡ Some qs) × (ps ≡ (w.0, w.1) ∷ qs)) same (f.1, f.4, f.2)

none_next : (r : List ℕ × List ℕ × List ℕ) → None ≡ Some r → ⊥
none_next r e = absurd cc

pub written_stuck : (t : List ℕ) (ps : List (List ℕ × List ℕ)) → 0 < length t → next_written t ≡ None → pairs_in (length t) t ≡ Some ps → ⊥
written_stuck t ps lt h all = let f = first_written t ps lt all in none_next (f.0.0, f.0.1, written f.1) (sym h ∙ f.3)

-- ---- pieces between bytes 2

pub until_lacks : (x : ℕ) (t : List ℕ) (p : List ℕ × List ℕ) → until x t ≡ Some p → lacks x p.0 ≡ true
until_lacks x t p h = (until-parts x t p.0 p.1 h).1

none_lacks : (t : Bool) (p : List ℕ × List ℕ) (f : List ℕ × List ℕ → List ℕ × List ℕ) (o : Option (List ℕ × List ℕ)) → cond t (Some p) (option_map f o) ≡ None → (t ≡ false) × (o ≡ None)
none_lacks true p f o h = absurd cc
none_lacks false p f None h = (refl, refl)
none_lacks false p f (Some q) h = absurd cc

pub until_none : (x : ℕ) (t : List ℕ) → until x t ≡ None → lacks x t ≡ true
unfolding until
until_none x [] h = refl
until_none x (b ∷ t) h =
    let n = none_lacks (eqb b x) ([], t) (λ p. (b ∷ p.0, p.1)) (until x t) h in
    and_from _ _ (ap not n.0) (until_none x t n.1)

lacks-parts : (x : ℕ) (a b : List ℕ) → lacks x (a ++ b) ≡ true → (lacks x a ≡ true) × (lacks x b ≡ true)
lacks-parts x [] b h = (refl, h)
lacks-parts x (c ∷ a) b h =
    let parts = and_parts (not (eqb c x)) (lacks x (a ++ b)) h in
    let rec = lacks-parts x a b parts.1 in
    (and_from _ _ parts.0 rec.0, rec.1)

tests : (a b c d e : Bool) → b ≡ true → c ≡ true → e ≡ true → (a && b && c && d && e) ≡ (a && d)
tests a b c d e hb hc he = rw (hb, hc, he) (by_first a d) where
  by_first : (a d : Bool) → (a && true && true && d && true) ≡ (a && d)
  by_first true true = refl
  by_first true false = refl
  by_first false d = refl

-- of a piece only the name's length and the value's bytes 1 are left to test
is_pair_by : (piece : List ℕ) (p : List ℕ × List ℕ) → until 1 piece ≡ Some p → lacks 2 piece ≡ true → is_pair p ≡ (ltb 0 (length p.0) && lacks 1 p.1)
is_pair_by piece p h two =
    let parts = until-parts 1 piece p.0 p.1 h in
    let both = lacks-parts 2 p.0 (1 ∷ p.1) (sym (ap (lacks 2) parts.0) ∙ two) in
    let value = and_parts (not (eqb 1 2)) (lacks 2 p.1) both.1 in
    tests (ltb 0 (length p.0)) (lacks 1 p.0) (lacks 2 p.0) (lacks 1 p.1) (lacks 2 p.1) parts.1 both.0 value.1

pub piece_none : (piece : List ℕ) → until 1 piece ≡ None → pair_in piece ≡ None
unfolding pair_in
piece_none piece h = rw h refl

pub piece_pair : (piece : List ℕ) (p : List ℕ × List ℕ) → until 1 piece ≡ Some p → lacks 2 piece ≡ true → pair_in piece ≡ cond (ltb 0 (length p.0) && lacks 1 p.1) (Some p) None
unfolding pair_in
piece_pair piece p h two = rw h (ap (λ (t : Bool). cond t (Some p) None) (is_pair_by piece p h two))
