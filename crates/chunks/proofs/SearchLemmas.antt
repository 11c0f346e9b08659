-- What one look in the middle of a list in order tells of the items before it and behind it.
use Rattle.std.proofs.Common.{◌≡◌, refl, ap, sym, ◌∙◌, subst, arith, ℕ, zero, suc, ◌+◌, ◌<◌, ◌≤◌, not, cond, nat_le, List, [], ◌∷◌, length, get_or, take, slice_get, Some}
use Rattle.std.specs.List.{position_or_len}
use Rattle.std.specs.List.Sorted.{IsNonDecreasingBy}
use Rattle.std.proofs.lemmas.List.{get_or-take, length-take-le}
use Rattle.std.proofs.lemmas.Bool.{le-leb, lt-leb}
use Rattle.std.proofs.lemmas.Option.{get_or_from_slice_get}

-- a later item's key is no lower
pub rises : {T : Type 0} (key : T → ℕ) (items : List T) (end : ℕ) → end ≤ length items → IsNonDecreasingBy key (take end items)
    → (i j : ℕ) (x y : T) → i ≤ j → j < end → slice_get items i ≡ Some x → slice_get items j ≡ Some y → key x ≤ key y
rises key items end within rising i j x y before inside at_i at_j =
    let low : get_or (take end items) i x ≡ x = get_or-take end items i x (omega (arith, before, inside)) ∙ get_or_from_slice_get items i x x at_i in
    let high : get_or (take end items) j x ≡ y = get_or-take end items j x inside ∙ get_or_from_slice_get items j y x at_j in
    let long = length-take-le end items within in
    let at = rising i j x before (omega (arith, inside, long)) in
    subst (λ z. key z ≤ key y) low (subst (λ z. key (get_or (take end items) i x) ≤ key z) high at)

-- where the item in the middle is below the bound, so is each before it
pub below_middle : {T : Type 0} (key : T → ℕ) (items : List T) (end middle bound : ℕ) (found : T) → end ≤ length items → IsNonDecreasingBy key (take end items)
    → middle < end → slice_get items middle ≡ Some found → key found < bound → (k : ℕ) (x : T) → k < middle + 1 → slice_get items k ≡ Some x → key x < bound
below_middle key items end middle bound found within rising inside at low k x before at_k =
    let up = rises key items end within rising k middle x found (omega (arith, before)) inside at_k at in
    omega (arith, up, low)

-- where it is at or past the bound, so is each behind it
pub past_middle : {T : Type 0} (key : T → ℕ) (items : List T) (end middle bound : ℕ) (found : T) → end ≤ length items → IsNonDecreasingBy key (take end items)
    → slice_get items middle ≡ Some found → bound ≤ key found → (k : ℕ) (x : T) → middle ≤ k → k < end → slice_get items k ≡ Some x → bound ≤ key x
past_middle key items end middle bound found within rising at high k x behind inside at_k =
    let up = rises key items end within rising middle k found x behind inside at at_k in
    omega (arith, up, high)

-- the place between those below the bound and those at or past it is that of the first at or past it
pub first_is : {T : Type 0} (key : T → ℕ) (items : List T) (end place bound : ℕ) → end ≤ length items → place ≤ end
    → ((k : ℕ) (x : T) → k < place → slice_get items k ≡ Some x → key x < bound)
    → ((k : ℕ) (x : T) → place ≤ k → k < end → slice_get items k ≡ Some x → bound ≤ key x)
    → place ≡ position_or_len (λ item. nat_le bound (key item)) (take end items)
first_is key items zero place bound within most below past = omega (arith, most)
first_is key [] (suc end) place bound within most below past = absurd (let none : ⊥ = omega (arith, within) in none)
first_is key (x ∷ items) (suc end) zero bound within most below past =
    let here = le-leb bound (key x) (past 0 x (omega arith) (omega arith) refl) in
    ap (λ b. cond (not b) (1 + position_or_len (λ item. nat_le bound (key item)) (take end items)) 0) (sym here)
first_is key (x ∷ items) (suc end) (suc place) bound within most below past =
    let here = lt-leb bound (key x) (below 0 x (omega arith) refl) in
    let rest = first_is key items end place bound (omega (arith, within)) (omega (arith, most))
    (λ k y before at. below (suc k) y (omega (arith, before)) at)
    (λ k y behind inside at. past (suc k) y (omega (arith, behind)) (omega (arith, inside)) at) in
    (let e : suc place ≡ 1 + place = omega arith in e) ∙ ap (λ n. 1 + n) rest
    ∙ ap (λ b. cond (not b) (1 + position_or_len (λ item. nat_le bound (key item)) (take end items)) 0) (sym here)
