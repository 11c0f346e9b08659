-- Lists of properties stay such lists when a property is put or dropped.
use Rattle.std.proofs.Common.{◌≡◌, ℕ, zero, suc, ◌+◌, ◌<◌, ◌++◌, List, [], ◌∷◌, length, get_or, set, Bool, true, false, cond, not, Option, Some, None, option_map, Result, Ok, Err, refl, sym, ap, subst, ◌∙◌, inl, inr, ◌⊎◌, arith, add-one}
use Rattle.std.specs.Prelude.{OnOk, OnErr}
use Rattle.std.specs.Borrow.{Bor}
use Rattle.std.specs.BTreeMap.{BTreeMap, get_by, UpdatesBy}
use Rattle.std.specs.Cmp.Lexicographic.{slice_cmp}
use Rattle.std.specs.Map.{update}
use Rattle.std.specs.Ordering.{nat_cmp}
use Rattle.std.specs.Str.{IsUtf8, bytes_eq}
use Rattle.std.proofs.lemmas.Bool.{and_parts, and_from, or_parts, or_from, not-true, cases_Bool, false_from_ne_true}
use Rattle.std.proofs.lemmas.Slice.Eq.{bytes_eq-Decides}
use Rattle.std.proofs.lemmas.Map.Text.{btree_map_updates_str}
use Rattle.std.proofs.lemmas.Str.{IsUtf8-append, IsUtf8-nil, IsUtf8-from_ascii, is_utf8-from_IsUtf8, IsUtf8-from_is_utf8}
use Rattle.record_codec.specs.Props.{pair_text, written, is_pair, are_pairs, has_name, place_in, with_prop, without, are_distinct, AreProps}
use Rattle.record_codec.specs.LaxProps.{ArePlacesIn}
use Rattle.record_codec.proofs.PairTexts.{map_some, some_is}
use Rattle.record_codec.proofs.TextLemmas.{IsUtf8-pair}

-- ---- the place of a name

abbrev pub chosen_place : Bool → Option ℕ → Option ℕ
chosen_place t o = cond t (Some 0) (option_map (λ k. k + 1) o)

place_cases : (t : Bool) (o : Option ℕ) (i : ℕ) → chosen_place t o ≡ Some i → ((t ≡ true) × (i ≡ 0)) ⊎ ((t ≡ false) × ((k : ℕ) × (o ≡ Some k) × (i ≡ suc k)))
place_cases true o i h = inl (refl, sym (some_is 0 i h))
place_cases false o i h = let k = map_some o (λ k. k + 1) i h in inr (refl, (k.0, k.1, sym k.2 ∙ add-one k.0))

pub place_below : (name : List ℕ) (ps : List (List ℕ × List ℕ)) (i : ℕ) → place_in name ps ≡ Some i → i < length ps
place_below name [] i h = absurd cc
place_below name (p ∷ ps) i h =
    elim (place_cases (bytes_eq name p.0) (place_in name ps) i h) [
      | inl first ↦ omega (arith, first.1)
      | inr later ↦ omega (arith, later.1.2, place_below name ps later.1.0 later.1.1)
    ]

pub set_at_place : (name value : List ℕ) (ps : List (List ℕ × List ℕ)) (i : ℕ) (d : List ℕ × List ℕ) → place_in name ps ≡ Some i → set ps i ((get_or ps i d).0, value) ≡ with_prop name value ps
set_at_place name value [] i d h = absurd cc
set_at_place name value (p ∷ ps) i d h =
    elim (place_cases (bytes_eq name p.0) (place_in name ps) i h) [
      | inl first ↦ rw (first.1, first.0) refl
      | inr later ↦ rw (later.1.2, later.0) (ap (λ (w : List (List ℕ × List ℕ)). p ∷ w) (set_at_place name value ps later.1.0 d later.1.1))
    ]

no_place : (t : Bool) (o : Option ℕ) → chosen_place t o ≡ None → (t ≡ false) × (o ≡ None)
no_place true o h = absurd cc
no_place false None h = (refl, refl)
no_place false (Some k) h = absurd cc

pub at_end : (name value : List ℕ) (ps : List (List ℕ × List ℕ)) → place_in name ps ≡ None → ps ++ (name, value) ∷ [] ≡ with_prop name value ps
at_end name value [] h = refl
at_end name value (p ∷ ps) h =
    let n = no_place (bytes_eq name p.0) (place_in name ps) h in
    rw n.0 (ap (λ (w : List (List ℕ × List ℕ)). p ∷ w) (at_end name value ps n.1))

-- ---- the places of all names

places_stay : (name value : List ℕ) (ps : List (List ℕ × List ℕ)) (i : ℕ) → place_in name ps ≡ Some i → (other : List ℕ) → place_in other ps ≡ place_in other (with_prop name value ps)
places_stay name value [] i h other = absurd cc
places_stay name value (p ∷ ps) i h other =
    elim (place_cases (bytes_eq name p.0) (place_in name ps) i h) [
      | inl first ↦ rw first.0 refl
      | inr later ↦ rw later.0 (ap (chosen_place (bytes_eq other p.0)) (places_stay name value ps later.1.0 later.1.1 other))
    ]

places_grow : (name value : List ℕ) (ps : List (List ℕ × List ℕ)) → place_in name ps ≡ None → (other : List ℕ) → update bytes_eq (λ n. place_in n ps) name (Some (length ps)) other ≡ place_in other (with_prop name value ps)
places_grow name value [] h other =
    elim (cases_Bool (bytes_eq name other)) [
      | inl same ↦ let turned : bytes_eq other name ≡ true = (bytes_eq-Decides other name).1 (sym ((bytes_eq-Decides name other).0 same)) in rw (same, turned) refl
      | inr differ ↦ let turned : bytes_eq other name ≡ false = false_from_ne_true _ (λ t. let same : bytes_eq name other ≡ true = (bytes_eq-Decides name other).1 (sym ((bytes_eq-Decides other name).0 t)) in absurd cc) in rw (differ, turned) refl
    ]
places_grow name value (p ∷ ps) h other =
    let n = no_place (bytes_eq name p.0) (place_in name ps) h in
    let rest = places_grow name value ps n.1 other in
    elim (cases_Bool (bytes_eq name other)) [
      | inl same ↦
          let not_this : bytes_eq other p.0 ≡ false = ap (λ (o : List ℕ). bytes_eq o p.0) (sym ((bytes_eq-Decides name other).0 same)) ∙ n.0 in
          rw (n.0, same, not_this, ← add-one) (ap (λ (o : Option ℕ). option_map (λ k. k + 1) o) (rw same at rest))
      | inr differ ↦ rw (n.0, differ) (ap (chosen_place (bytes_eq other p.0)) (rw differ at rest))
    ]

-- a name that is there keeps its place, and so do the others
pub still_placed : (name value : List ℕ) (ps : List (List ℕ × List ℕ)) (places : BTreeMap (Bor (List ℕ)) ℕ) (i : ℕ) → ArePlacesIn ps places → place_in name ps ≡ Some i → ArePlacesIn (with_prop name value ps) places
still_placed name value ps places i placed h other = placed other ∙ places_stay name value ps i h other

-- a new name has the last place, and the others keep theirs
pub newly_placed : (name value : List ℕ) (ps : List (List ℕ × List ℕ)) (places more : BTreeMap (Bor (List ℕ)) ℕ) (n : ℕ)
    → UpdatesBy (λ x y. slice_cmp nat_cmp x.now y.now) (λ k. slice_cmp nat_cmp name k.now) places more (Some n) → n ≡ length ps → ArePlacesIn ps places → place_in name ps ≡ None → ArePlacesIn (with_prop name value ps) more
newly_placed name value ps places more n updates last placed h other =
    let found = btree_map_updates_str name places more _ updates other in
    found ∙ ap (λ (k : ℕ). cond (bytes_eq name other) (Some k) (get_by (λ k. slice_cmp nat_cmp other k.now) places)) last
    ∙ ap (cond (bytes_eq name other) (Some (length ps))) (placed other) ∙ places_grow name value ps h other

-- ---- a property is put

same_name : (a b : List ℕ) → bytes_eq a b ≡ true → a ≡ b
same_name a b h = (bytes_eq-Decides a b).0 h

other_name : (a b : List ℕ) → bytes_eq a b ≡ false → bytes_eq b a ≡ false
other_name a b h = false_from_ne_true _ (λ t. both (bytes_eq a b) h ((bytes_eq-Decides a b).1 (sym (same_name b a t)))) where
  both : (t : Bool) → t ≡ false → t ≡ true → ⊥
  both t f g = absurd cc

are_pairs-with_prop : (name value : List ℕ) (ps : List (List ℕ × List ℕ)) → is_pair (name, value) ≡ true → are_pairs ps ≡ true → are_pairs (with_prop name value ps) ≡ true
are_pairs-with_prop name value [] pair h = and_from _ _ pair refl
are_pairs-with_prop name value (p ∷ ps) pair h =
    let parts = and_parts (is_pair p) (are_pairs ps) h in
    elim (cases_Bool (bytes_eq name p.0)) [
      | inl here ↦ rw here (and_from _ _ (subst (λ (n : List ℕ). is_pair (n, value) ≡ true) (same_name name p.0 here) pair) parts.1)
      | inr other ↦ rw other (and_from _ _ parts.0 (are_pairs-with_prop name value ps pair parts.1))
    ]

has_name-with_prop : (m name value : List ℕ) (ps : List (List ℕ × List ℕ)) → bytes_eq m name ≡ false → has_name m ps ≡ false → has_name m (with_prop name value ps) ≡ false
has_name-with_prop m name value [] e h = or_from _ _ e refl
has_name-with_prop m name value (p ∷ ps) e h =
    let parts = or_parts (bytes_eq m p.0) (has_name m ps) h in
    elim (cases_Bool (bytes_eq name p.0)) [
      | inl here ↦ rw here (or_from _ _ parts.0 parts.1)
      | inr other ↦ rw other (or_from _ _ parts.0 (has_name-with_prop m name value ps e parts.1))
    ]

pub are_distinct-with_prop : (name value : List ℕ) (ps : List (List ℕ × List ℕ)) → are_distinct ps ≡ true → are_distinct (with_prop name value ps) ≡ true
are_distinct-with_prop name value [] h = refl
are_distinct-with_prop name value (p ∷ ps) h =
    let parts = and_parts (not (has_name p.0 ps)) (are_distinct ps) h in
    elim (cases_Bool (bytes_eq name p.0)) [
      | inl here ↦ rw here (and_from _ _ parts.0 parts.1)
      | inr other ↦ rw other (and_from _ _ (ap not (has_name-with_prop p.0 name value ps (other_name name p.0 other) (not-true _ parts.0))) (are_distinct-with_prop name value ps parts.1))
    ]

one_byte : (b : ℕ) → b < 128 → IsUtf8 (b ∷ [])
one_byte b low = IsUtf8-from_ascii (b ∷ []) (by_place b low) where
  by_place : (b : ℕ) → b < 128 → (i : ℕ) → get_or (b ∷ []) i 0 < 128
  by_place b low zero = low
  by_place b low (suc i) = omega arith

pub IsUtf8-pair_text : (p : List ℕ × List ℕ) → IsUtf8 p.0 → IsUtf8 p.1 → IsUtf8 (pair_text p)
IsUtf8-pair_text p name value =
    IsUtf8-append p.0 (1 ∷ (p.1 ++ 2 ∷ [])) name
    (IsUtf8-append (1 ∷ []) (p.1 ++ 2 ∷ []) (one_byte 1 (omega arith)) (IsUtf8-append p.1 (2 ∷ []) value (one_byte 2 (omega arith))))

IsUtf8-with_prop : (name value : List ℕ) (ps : List (List ℕ × List ℕ)) → IsUtf8 name → IsUtf8 value → IsUtf8 (written ps) → IsUtf8 (written (with_prop name value ps))
IsUtf8-with_prop name value [] n v u = IsUtf8-append (pair_text (name, value)) [] (IsUtf8-pair_text (name, value) n v) IsUtf8-nil
IsUtf8-with_prop name value (p ∷ ps) n v u =
    let parts = IsUtf8-pair p (written ps) u in
    elim (cases_Bool (bytes_eq name p.0)) [
      | inl here ↦ rw here (IsUtf8-append (pair_text (p.0, value)) (written ps) (IsUtf8-pair_text (p.0, value) parts.0 v) parts.2)
      | inr other ↦ rw other (IsUtf8-append (pair_text p) (written (with_prop name value ps)) (IsUtf8-pair_text p parts.0 parts.1) (IsUtf8-with_prop name value ps n v parts.2))
    ]

pub AreProps-with_prop : (name value : List ℕ) (ps : List (List ℕ × List ℕ)) → is_pair (name, value) ≡ true → IsUtf8 name → IsUtf8 value → AreProps ps → AreProps (with_prop name value ps)
AreProps-with_prop name value ps pair n v h = record {
  pairs = are_pairs-with_prop name value ps pair h.pairs;
  distinct = are_distinct-with_prop name value ps h.distinct;
  utf8 = is_utf8-from_IsUtf8 _ (IsUtf8-with_prop name value ps n v (IsUtf8-from_is_utf8 _ h.utf8));
}

-- ---- a property is dropped

are_pairs-without : (name : List ℕ) (ps : List (List ℕ × List ℕ)) → are_pairs ps ≡ true → are_pairs (without name ps) ≡ true
are_pairs-without name [] h = refl
are_pairs-without name (p ∷ ps) h =
    let parts = and_parts (is_pair p) (are_pairs ps) h in
    elim (cases_Bool (bytes_eq name p.0)) [
      | inl here ↦ rw here (are_pairs-without name ps parts.1)
      | inr other ↦ rw other (and_from _ _ parts.0 (are_pairs-without name ps parts.1))
    ]

has_name-without : (m name : List ℕ) (ps : List (List ℕ × List ℕ)) → has_name m ps ≡ false → has_name m (without name ps) ≡ false
has_name-without m name [] h = refl
has_name-without m name (p ∷ ps) h =
    let parts = or_parts (bytes_eq m p.0) (has_name m ps) h in
    elim (cases_Bool (bytes_eq name p.0)) [
      | inl here ↦ rw here (has_name-without m name ps parts.1)
      | inr other ↦ rw other (or_from _ _ parts.0 (has_name-without m name ps parts.1))
    ]

are_distinct-without : (name : List ℕ) (ps : List (List ℕ × List ℕ)) → are_distinct ps ≡ true → are_distinct (without name ps) ≡ true
are_distinct-without name [] h = refl
are_distinct-without name (p ∷ ps) h =
    let parts = and_parts (not (has_name p.0 ps)) (are_distinct ps) h in
    elim (cases_Bool (bytes_eq name p.0)) [
      | inl here ↦ rw here (are_distinct-without name ps parts.1)
      | inr other ↦ rw other (and_from _ _ (ap not (has_name-without p.0 name ps (not-true _ parts.0))) (are_distinct-without name ps parts.1))
    ]

IsUtf8-without : (name : List ℕ) (ps : List (List ℕ × List ℕ)) → IsUtf8 (written ps) → IsUtf8 (written (without name ps))
IsUtf8-without name [] u = u
IsUtf8-without name (p ∷ ps) u =
    let parts = IsUtf8-pair p (written ps) u in
    elim (cases_Bool (bytes_eq name p.0)) [
      | inl here ↦ rw here (IsUtf8-without name ps parts.2)
      | inr other ↦ rw other (IsUtf8-append (pair_text p) (written (without name ps)) (IsUtf8-pair_text p parts.0 parts.1) (IsUtf8-without name ps parts.2))
    ]

pub AreProps-without : (name : List ℕ) (ps : List (List ℕ × List ℕ)) → AreProps ps → AreProps (without name ps)
AreProps-without name ps h = record {
  pairs = are_pairs-without name ps h.pairs;
  distinct = are_distinct-without name ps h.distinct;
  utf8 = is_utf8-from_IsUtf8 _ (IsUtf8-without name ps (IsUtf8-from_is_utf8 _ h.utf8));
}

-- what holds of the value after success and after failure
pub either_way : {T E X : Type 0} (P : X → Type 0) (r : Result T E) (x a b : X) → OnOk r (x ≡ a) → OnErr r (x ≡ b) → P a → P b → P x
either_way P (Ok t) x a b ok err pa pb = subst P (sym ok) pa
either_way P (Err e) x a b ok err pa pb = subst P (sym err) pb
