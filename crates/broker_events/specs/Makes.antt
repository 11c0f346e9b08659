-- Lists of steps that generic code makes. A step is an event with what was said to it.
use Rattle.std.specs.Prelude.{◌≡◌, List, [], ◌∷◌}

-- these steps, in order, lead from the first object to the second
abbrev pub Makes : {C E A : Type 0} → (C → E → A → C → Type 0) → C → List (E × A) → C → Type 0
Makes makes x [] y = x ≡ y
Makes {C} makes x (s ∷ ss) y = (z : C) × makes x s.0 s.1 z × Makes makes z ss y

-- each event with what was said to it, as far as there are both
abbrev pub paired : {E A : Type 0} → List E → List A → List (E × A)
paired [] said = []
paired (e ∷ es) [] = []
paired (e ∷ es) (a ∷ said) = (e, a) ∷ paired es said
