-- What readers of lists give.
use Rattle.std.proofs.Common.{◌≡◌, ◌<◌, ◌≤◌, ◌++◌, ◌∷◌, [], List, Option, Some, None, length, refl, arith}
use Rattle.serde_json.specs.View.{items_view}
use Rattle.serde_json.specs.declared.value.Value.{Value}
use Rattle.std.proofs.lemmas.Bool.{le-leb, lt-leb}
use Rattle.request_fields.specs.Bodies.{count_items, if_few}
use Rattle.remoting_frame.specs.Gives.{◌>>=◌}

-- the values so far, and what is still read
abbrev pub with_front : {X : Type 0} → List X → Option (List X) → Option (List X)
with_front front o = o >>= λ others. Some (front ++ others)

-- the items of a list are as many as its values
pub items_are_counted : (vs : List Value) → count_items (items_view vs) ≡ length vs
unfolding count_items
items_are_counted [] = refl
items_are_counted (v ∷ vs) = rw (items_are_counted vs) (omega arith)

-- more than 4,096 values are no such list
pub too_many : (vs : List Value) → 4096 < length vs → if_few (items_view vs) ≡ None
too_many vs h = rw (items_are_counted vs, lt-leb (length vs) 4096 h) refl

-- at most 4,096 are one
pub few_enough : (vs : List Value) → length vs ≤ 4096 → if_few (items_view vs) ≡ Some (items_view vs)
few_enough vs h = rw (items_are_counted vs, le-leb (length vs) 4096 h) refl
