-- What others added meanwhile has no keyed entry, where each keyed entry of the history is the pass's own.
use Rattle.std.proofs.Common.{◌≡◌, ℕ, suc, ◌+◌, ◌<◌, List, [], ◌∷◌, ◌++◌, length, Bool, true, false, Some, refl, ap, ◌∙◌, arith}
use Rattle.std.specs.Prelude.{slice_get}
use Rattle.story_lock.specs.Counts.{times}
use Rattle.story_lock.specs.Passes.{NoneKeyed}

is_false : (b : Bool) → (b ≡ true → ⊥) → b ≡ false
is_false true n = absurd (n refl)
is_false false n = refl

get_behind : {X : Type 0} (xs ys : List X) (k : ℕ) → slice_get (xs ++ ys) (length xs + k) ≡ slice_get ys k
get_behind [] ys k = ap (slice_get ys) (omega arith)
get_behind (x ∷ xs) ys k = let e : length (x ∷ xs) + k ≡ suc (length xs + k) = omega arith in ap (slice_get (x ∷ (xs ++ ys))) e ∙ get_behind xs ys k

each_false : {E A : Type 0} (keyed : E → A → Bool) (es : List (E × A)) → ((k : ℕ) (e : E × A) → slice_get es k ≡ Some e → keyed e.0 e.1 ≡ true → ⊥) → NoneKeyed keyed es
each_false keyed [] none = tt
each_false keyed (e ∷ es) none = (is_false (keyed e.0 e.1) (none 0 e refl), each_false keyed es (λ k. none (suc k)))

-- places that lie in what was seen before are not behind it
pub none_between : {E A : Type 0} (keyed : E → A → Bool) (seen between log : List (E × A)) (mine : List ℕ) → log ≡ seen ++ between → ((k : ℕ) → 0 < times k mine → k < length seen)
    → ((k : ℕ) (e : E × A) → slice_get log k ≡ Some e → keyed e.0 e.1 ≡ true → 0 < times k mine) → NoneKeyed keyed between
none_between keyed seen between log mine is inside own = each_false keyed between (λ k e here key.
    let at = ap (λ l. slice_get l (length seen + k)) is ∙ (get_behind seen between k ∙ here) in
    let low = inside (length seen + k) (own (length seen + k) e at key) in absurd (omega arith))
