-- Values that are found by their names.
use Rattle.std.proofs.Common.{◌≡◌, List, [], ◌∷◌, ◌++◌, ℕ, Bool, true, false, bytes_eq, Some, Less, Greater, map, refl, sym, ap, ◌∙◌, subst}
use Rattle.std.specs.Ordering.{nat_cmp, ordering_reverse}
use Rattle.std.specs.Cmp.Lexicographic.{slice_cmp}
use Rattle.std.specs.List.{AllByRecursion}
use Rattle.std.specs.List.Sorted.{IsStrictlySortedBy}
use Rattle.std.proofs.lemmas.Cmp.{nat_list_cmp_total}
use Rattle.std.proofs.lemmas.Slice.Eq.{bytes_eq-Decides}
use Rattle.remoting_frame.specs.Head.{IsInOrder}
use Rattle.record_codec.specs.Props.{value_of}

-- a name below another is not the same
apart : (same : Bool) (x y : List ℕ) → bytes_eq x y ≡ same → slice_cmp nat_cmp y x ≡ Less → same ≡ false
apart false x y e less = refl
apart true x y e less =
    let itself : slice_cmp nat_cmp x x ≡ Less = subst (λ (w : List ℕ). slice_cmp nat_cmp w x ≡ Less) (sym ((bytes_eq-Decides x y).0 e)) less in
    let turned : Less ≡ Greater = sym itself ∙ (nat_list_cmp_total.antisymm x x ∙ ap ordering_reverse itself) in
    absurd (cc)

-- the first of the pairs is below each one behind it
below : (p : List ℕ × List ℕ) (before after : List (List ℕ × List ℕ)) (name value : List ℕ) → AllByRecursion (λ y. slice_cmp nat_cmp p.0 y ≡ Less) (map (λ q. q.0) (before ++ (name, value) ∷ after)) → slice_cmp nat_cmp p.0 name ≡ Less
below p [] after name value h = h.0
below p (q ∷ before) after name value h = below p before after name value h.1

-- a pair among pairs in order is found by its name
pub value_found : (before after : List (List ℕ × List ℕ)) (name value : List ℕ) → IsInOrder (before ++ (name, value) ∷ after) → value_of name (before ++ (name, value) ∷ after) ≡ Some value
unfolding IsStrictlySortedBy
value_found [] after name value h = rw ((bytes_eq-Decides name name).1 refl) refl
value_found (p ∷ before) after name value h =
    rw (apart (bytes_eq name p.0) name p.0 refl (below p before after name value h.0)) (value_found before after name value h.1)
