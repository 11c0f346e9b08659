-- A list that begins with another.
use Rattle.std.proofs.Common.{◌≡◌, refl, ap, sym, ◌∙◌, arith, ℕ, List, [], ◌∷◌, ◌++◌, length, slice_get, Some, append_assoc, length-append}
use Rattle.queue_view.proofs.Lists.{some_one}
use Rattle.table_check.specs.Fronts.{BeginsWith}

pub no_front : {A : Type 0} (list : List A) → BeginsWith list []
no_front list = record { rest = list; is = refl }

-- ---- one item more

record GoesOn {A : Type 0} (rest : List A) (x : A) : Type 0 where
  behind : List A
  is : rest ≡ x ∷ behind

next_item : {A : Type 0} (front rest : List A) (x : A) → slice_get (front ++ rest) (length front) ≡ Some x → GoesOn rest x
next_item [] [] x at = cc at
next_item [] (y ∷ rest) x at = record { behind = rest; is = ap (λ z. z ∷ rest) (some_one at) }
next_item (y ∷ front) rest x at = next_item front rest x at

pub next_front : {A : Type 0} (list front : List A) (k : ℕ) (x : A) → BeginsWith list front → k ≡ length front → slice_get list k ≡ Some x → BeginsWith list (front ++ x ∷ [])
next_front list front k x begins counted at =
    let on = next_item front begins.rest x (ap (λ ys. slice_get ys (length front)) (sym begins.is) ∙ ap (slice_get list) (sym counted) ∙ at) in
    record {
      rest = on.behind;
      is = begins.is ∙ ap (λ ys. front ++ ys) on.is ∙ sym (append_assoc front (x ∷ []) on.behind);
    }

item_behind : {A : Type 0} (front rest : List A) (x : A) → slice_get ((front ++ x ∷ []) ++ rest) (length front) ≡ Some x
item_behind [] rest x = refl
item_behind (y ∷ front) rest x = item_behind front rest x

pub has_next : {A : Type 0} (list front : List A) (k : ℕ) (x : A) → k ≡ length front → BeginsWith list (front ++ x ∷ []) → slice_get list k ≡ Some x
has_next list front k x counted begins = ap (slice_get list) counted ∙ ap (λ ys. slice_get ys (length front)) begins.is ∙ item_behind front begins.rest x

-- ---- parts

pub front_of : {A : Type 0} (list front more : List A) → BeginsWith list (front ++ more) → BeginsWith list front
front_of list front more begins = record { rest = more ++ begins.rest; is = begins.is ∙ append_assoc front more begins.rest }

pub as_front : {A : Type 0} (list front more : List A) → list ≡ front ++ more → BeginsWith list front
as_front list front more is = record { rest = more; is = is }

-- ---- the whole

nothing_left : {A : Type 0} (front rest : List A) → length (front ++ rest) ≡ length front → rest ≡ []
nothing_left front [] long = refl
nothing_left front (x ∷ rest) long = absurd (let e = length-append front (x ∷ rest) in omega (arith, e, long))

append_none : {A : Type 0} (xs : List A) → xs ++ [] ≡ xs
append_none [] = refl
append_none (x ∷ xs) = ap (λ ys. x ∷ ys) (append_none xs)

pub whole_front : {A : Type 0} (list front : List A) → BeginsWith list front → length list ≡ length front → list ≡ front
whole_front list front begins long =
    begins.is ∙ ap (λ ys. front ++ ys) (nothing_left front begins.rest (ap (λ (ys : List _). length ys) (sym begins.is) ∙ long)) ∙ append_none front
