-- Pairs are read as they were written, and no other way.
use Rattle.std.proofs.Common.{◌≡◌, ℕ, zero, suc, ◌<◌, ◌≤◌, ◌++◌, List, [], ◌∷◌, length, Bool, true, false, cond, not, eqb, ltb, Option, Some, None, option_map, option_and_then, ◌⊎◌, inl, inr, refl, ap, subst, ◌∙◌, append_assoc, arith, length-append, eq-eqb}
use Rattle.std.proofs.lemmas.Bool.{and_parts, and_from, eqb-true, ltb-true, not-true}
use Rattle.record_codec.specs.Props.{pair_text, written, lacks, is_pair, are_pairs, until, pair_in, pairs_in}

-- ---- steps that did not fail

pub chosen : {A : Type 0} (c : Bool) (p q z : A) → cond c p q ≡ z → ((c ≡ true) × (p ≡ z)) ⊎ ((c ≡ false) × (q ≡ z))
chosen true p q z e = inl (refl, e)
chosen false p q z e = inr (refl, e)

pub past_test : {A : Type 0} (c : Bool) (x y : A) → cond c (Some x) None ≡ Some y → (c ≡ true) × (x ≡ y)
past_test true x y e = (refl, cc)
past_test false x y e = absurd cc

pub past_fault : {A : Type 0} (c : Bool) (o : Option A) (y : A) → cond c None o ≡ Some y → (c ≡ false) × (o ≡ Some y)
past_fault true o y e = absurd cc
past_fault false o y e = (refl, e)

pub bind_some : {A B : Type 0} (o : Option A) (f : A → Option B) (y : B) → option_and_then f o ≡ Some y → (x : A) × (o ≡ Some x) × (f x ≡ Some y)
bind_some (Some x) f y e = (x, refl, e)
bind_some None f y e = absurd cc

pub map_some : {A B : Type 0} (o : Option A) (f : A → B) (y : B) → option_map f o ≡ Some y → (x : A) × (o ≡ Some x) × (f x ≡ y)
map_some (Some x) f y e = (x, refl, cc)
map_some None f y e = absurd cc

pub some_is : {A : Type 0} (x y : A) → Some x ≡ Some y → x ≡ y
some_is x y e = cc

-- ---- up to a byte

pub until-first : (x : ℕ) (a rest : List ℕ) → lacks x a ≡ true → until x (a ++ x ∷ rest) ≡ Some (a, rest)
unfolding until
until-first x [] rest h = rw (eq-eqb x x refl) refl
until-first x (b ∷ a) rest h =
    let parts = and_parts (not (eqb b x)) (lacks x a) h in
    rw (not-true (eqb b x) parts.0, until-first x a rest parts.1) refl

pub until-parts : (x : ℕ) (t a rest : List ℕ) → until x t ≡ Some (a, rest) → (t ≡ a ++ x ∷ rest) × (lacks x a ≡ true)
unfolding until
until-parts x [] a rest h = absurd cc
until-parts x (b ∷ t) a rest h =
    elim (chosen (eqb b x) (Some ([], t)) (option_map (λ p. (b ∷ p.0, p.1)) (until x t)) (Some (a, rest)) h) [
      | inl here ↦
          let same : ([], t) ≡ (a, rest) = some_is ([], t) (a, rest) here.1 in
          subst (λ (w : List ℕ × List ℕ). (b ∷ t ≡ w.0 ++ x ∷ w.1) × (lacks x w.0 ≡ true)) same (ap (λ (n : ℕ). n ∷ t) (eqb-true b x here.0), refl)
      | inr later ↦
          let v = map_some (until x t) (λ p. (b ∷ p.0, p.1)) (a, rest) later.1 in
          let rec = until-parts x t v.0.0 v.0.1 v.1 in
          subst (λ (w : List ℕ × List ℕ). (b ∷ t ≡ w.0 ++ x ∷ w.1) × (lacks x w.0 ≡ true)) v.2 (ap (λ (w : List ℕ). b ∷ w) rec.0, and_from _ _ (ap not later.0) rec.1)
    ]

lacks-append : (x : ℕ) (a b : List ℕ) → lacks x a ≡ true → lacks x b ≡ true → lacks x (a ++ b) ≡ true
lacks-append x [] b h k = k
lacks-append x (c ∷ a) b h k =
    let parts = and_parts (not (eqb c x)) (lacks x a) h in
    and_from _ _ parts.0 (lacks-append x a b parts.1 k)

-- ---- a pair

pub record IsPair (p : List ℕ × List ℕ) : Type 0 where
  pub named : 0 < length p.0
  pub name_1 : lacks 1 p.0 ≡ true
  pub name_2 : lacks 2 p.0 ≡ true
  pub value_1 : lacks 1 p.1 ≡ true
  pub value_2 : lacks 2 p.1 ≡ true

pub pair_facts : (p : List ℕ × List ℕ) → is_pair p ≡ true → IsPair p
pair_facts p h =
    let e = and_parts _ (lacks 2 p.1) h in
    let d = and_parts _ (lacks 1 p.1) e.0 in
    let c = and_parts _ (lacks 2 p.0) d.0 in
    let b = and_parts (ltb 0 (length p.0)) (lacks 1 p.0) c.0 in
    record { named = ltb-true _ _ b.0; name_1 = b.1; name_2 = c.1; value_1 = d.1; value_2 = e.1 }

-- the pair of a piece is its name and value, with a byte 1 between
pub pair_takes : (piece : List ℕ) (p : List ℕ × List ℕ) → pair_in piece ≡ Some p → (piece ≡ p.0 ++ 1 ∷ p.1) × (is_pair p ≡ true)
unfolding pair_in
pair_takes piece p h =
    let q = bind_some (until 1 piece) (λ q. cond (is_pair q) (Some q) None) p h in
    let ok = past_test (is_pair q.0) q.0 p q.2 in
    let parts = until-parts 1 piece q.0.0 q.0.1 q.1 in
    subst (λ (w : List ℕ × List ℕ). (piece ≡ w.0 ++ 1 ∷ w.1) × (is_pair w ≡ true)) ok.1 (parts.0, ok.0)

pair_again : (p : List ℕ × List ℕ) → is_pair p ≡ true → pair_in (p.0 ++ 1 ∷ p.1) ≡ Some p
unfolding pair_in
pair_again p h = rw (until-first 1 p.0 p.1 (pair_facts p h).name_1, h) refl

-- ---- all pairs

pub pairs_step : (n : ℕ) (t : List ℕ) → 0 < length t → pairs_in (suc n) t ≡ option_and_then (λ piece. option_and_then (λ p. option_map (λ ps. p ∷ ps) (pairs_in n piece.1)) (pair_in piece.0)) (until 2 t)
unfolding pairs_in
pairs_step n [] lt = absurd (omega arith)
pairs_step n (b ∷ t) lt = refl

pub pairs_again : (n : ℕ) (ps : List (List ℕ × List ℕ)) → are_pairs ps ≡ true → length (written ps) ≤ n → pairs_in n (written ps) ≡ Some ps
unfolding pairs_in
pairs_again n [] h le = refl
pairs_again zero (p ∷ ps) h le =
    let parts = and_parts (is_pair p) (are_pairs ps) h in
    let facts = pair_facts p parts.0 in
    absurd (omega (arith, facts.named, length-append (pair_text p) (written ps), length-append p.0 (1 ∷ (p.1 ++ 2 ∷ []))))
pairs_again (suc n) (p ∷ ps) h le =
    let parts = and_parts (is_pair p) (are_pairs ps) h in
    let facts = pair_facts p parts.0 in
    let len = length-append (pair_text p) (written ps) in
    let len2 = length-append p.0 (1 ∷ (p.1 ++ 2 ∷ [])) in
    let some : 0 < length (written (p ∷ ps)) = omega (arith, facts.named, len, len2) in
    let regrouped : written (p ∷ ps) ≡ (p.0 ++ 1 ∷ p.1) ++ 2 ∷ written ps = simp append_assoc in
    let piece = until-first 2 (p.0 ++ 1 ∷ p.1) (written ps) (lacks-append 2 p.0 (1 ∷ p.1) facts.name_2 facts.value_2) in
    let first : until 2 (written (p ∷ ps)) ≡ Some (p.0 ++ 1 ∷ p.1, written ps) = ap (until 2) regrouped ∙ piece in
    let others = pairs_again n ps parts.1 (omega (arith, facts.named, len, len2)) in
    pairs_step n (written (p ∷ ps)) some ∙ rw (first, pair_again p parts.0, others) refl

regroup : (p : List ℕ × List ℕ) (t : List ℕ) → (p.0 ++ 1 ∷ p.1) ++ 2 ∷ t ≡ pair_text p ++ t
regroup p t = simp append_assoc

pub pairs_take : (n : ℕ) (t : List ℕ) (ps : List (List ℕ × List ℕ)) → pairs_in n t ≡ Some ps → (t ≡ written ps) × (are_pairs ps ≡ true)
unfolding pairs_in
pairs_take n [] ps h = subst (λ (w : List (List ℕ × List ℕ)). ([] ≡ written w) × (are_pairs w ≡ true)) (some_is [] ps h) (refl, refl)
pairs_take zero (b ∷ t) ps h = absurd cc
pairs_take (suc n) (b ∷ t) ps h =
    let piece = bind_some (until 2 (b ∷ t)) (λ piece. option_and_then (λ p. option_map (λ ps. p ∷ ps) (pairs_in n piece.1)) (pair_in piece.0)) ps h in
    let p = bind_some (pair_in piece.0.0) (λ p. option_map (λ ps. p ∷ ps) (pairs_in n piece.0.1)) ps piece.2 in
    let others = map_some (pairs_in n piece.0.1) (λ ps. p.0 ∷ ps) ps p.2 in
    let parts = until-parts 2 (b ∷ t) piece.0.0 piece.0.1 piece.1 in
    let pair = pair_takes piece.0.0 p.0 p.1 in
    let rec = pairs_take n piece.0.1 others.0 others.1 in
    let whole : b ∷ t ≡ written (p.0 ∷ others.0) =
    parts.0 ∙ ap (λ (w : List ℕ). w ++ 2 ∷ piece.0.1) pair.0 ∙ ap (λ (w : List ℕ). (p.0.0 ++ 1 ∷ p.0.1) ++ 2 ∷ w) rec.0 ∙ regroup p.0 (written others.0) in
    subst (λ (w : List (List ℕ × List ℕ)). (b ∷ t ≡ written w) × (are_pairs w ≡ true)) others.2 (whole, and_from _ _ pair.1 rec.1)
