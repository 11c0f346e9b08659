-- Properties from which the seal was dropped have none.
use Rattle.std.proofs.Common.{◌≡◌, ℕ, List, [], ◌∷◌, Bool, true, false, not, ◌||◌, refl, ⊎_elim}
use Rattle.std.specs.Str.{bytes_eq}
use Rattle.std.proofs.lemmas.Bool.{cases_Bool}
use Rattle.record_codec.specs.Props.{without, has_name}

pub has_none : (name : List ℕ) (ps : List (List ℕ × List ℕ)) → has_name name (without name ps) ≡ false
has_none name [] = refl
has_none name (p ∷ ps) = ⊎_elim
    (λ (here : bytes_eq name p.0 ≡ true). rw here (has_none name ps))
    (λ (other : bytes_eq name p.0 ≡ false). rw (other, other) (has_none name ps))
    (cases_Bool (bytes_eq name p.0))
