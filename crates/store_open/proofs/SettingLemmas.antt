-- One option more.
use Rattle.std.proofs.Common.{◌≡◌, List, [], ◌∷◌, ◌++◌, Option, Some, None, refl, ap, ◌∙◌}
use Rattle.std.specs.Prelude.{filter_map}
use Rattle.std.proofs.lemmas.List.{append-nil}
use Rattle.std.proofs.lemmas.List.Elements.{filter_map-append}
use Rattle.store_open.specs.declared.settings.Setting.{Setting}
use Rattle.store_open.specs.Options.{listed}

-- an option of which this says nothing
pub kept : {A : Type 0} (f : Setting → Option A) (said : List Setting) (setting : Setting) (o : Option A) → f setting ≡ None → filter_map f said ≡ listed o → filter_map f (said ++ setting ∷ []) ≡ listed o
kept f said setting o none is = let both = filter_map-append f said (setting ∷ []) in rw (both, none, append-nil (filter_map f said)) is

-- the option that it gives
pub added : {A : Type 0} (f : Setting → Option A) (said : List Setting) (setting : Setting) (o : Option A) (v : A) → f setting ≡ Some v → o ≡ None → filter_map f said ≡ listed o → filter_map f (said ++ setting ∷ []) ≡ listed (Some v)
added f said setting o v some free is = let both = filter_map-append f said (setting ∷ []) in let before = is ∙ ap listed free in rw (both, some, before) refl
