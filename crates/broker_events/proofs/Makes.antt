-- How lists of steps go on.
use Rattle.std.proofs.Common.{◌≡◌, ◌<◌, List, [], ◌∷◌, ◌++◌, length, get_or, refl, sym, ap, subst, arith}
use Rattle.broker_events.specs.Makes.{Makes, paired}

-- a list of steps goes on by one
pub makes_snoc : {C E A : Type 0} (makes : C → E → A → C → Type 0) (x : C) (ss : List (E × A)) (y : C) (event : E) (said : A) (z : C) → Makes makes x ss y → makes y event said z → Makes makes x (ss ++ (event, said) ∷ []) z
makes_snoc makes x [] y event said z all step = subst (λ w. Makes makes w ((event, said) ∷ []) z) (sym all) (z, step, refl)
makes_snoc makes x (s ∷ ss) y event said z all step = (all.0, all.1, makes_snoc makes all.0 ss y event said z all.2 step)

-- two lists of steps are one
pub makes_append : {C E A : Type 0} (makes : C → E → A → C → Type 0) (x : C) (ss : List (E × A)) (y : C) (more : List (E × A)) (z : C) → Makes makes x ss y → Makes makes y more z → Makes makes x (ss ++ more) z
makes_append makes x [] y more z all rest = subst (λ w. Makes makes w more z) (sym all) rest
makes_append makes x (s ∷ ss) y more z all rest = (all.0, all.1, makes_append makes all.0 ss y more z all.2 rest)

-- one event more, and what was said to it
pub paired_snoc : {E A : Type 0} (es : List E) (said : List A) (a : A) (default : E) → length said < length es → paired es (said ++ a ∷ []) ≡ paired es said ++ (get_or es (length said) default, a) ∷ []
paired_snoc [] said a default low = absurd (omega arith)
paired_snoc (e ∷ []) [] a default low = refl
paired_snoc (e ∷ f ∷ es) [] a default low = refl
paired_snoc (e ∷ es) (x ∷ said) a default low = ap (λ l. (e, x) ∷ l) (paired_snoc es said a default (omega arith))

-- before the first event
pub paired_none : {E A : Type 0} (es : List E) (said : List A) → said ≡ [] → paired es said ≡ []
paired_none [] said none = refl
paired_none {E} {A} (e ∷ es) said none = subst (λ (l : List A). paired (e ∷ es) l ≡ []) (sym none) refl
