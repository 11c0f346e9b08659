-- Lists of rows: one element on, and filters.
use Rattle.std.proofs.Common.{◌≡◌, ◌∙◌, ℕ, zero, suc, ◌+◌, ◌<◌, ◌&&◌, ◌||◌, Bool, true, false, cond, List, [], ◌∷◌, ◌++◌, length, get_or, take, map, filter, reverse, refl, sym, ap, arith, append_assoc, Some}
use Rattle.std.specs.List.{list_any, flat_map, All, slice_get}
use Rattle.std.proofs.lemmas.List.{map-append, append-nil, reverse-append}
use Rattle.std.proofs.lemmas.List.Elements.{filter-append, filter_agree, All-head, All-tail}
use Rattle.std.proofs.lemmas.List.Folds.{list_any_at}
use Rattle.std.proofs.lemmas.Option.{same_Some}

-- one more, at an index
pub more_in : {A : Type 0} (xs : List A) (i : ℕ) (r : A) → i < length xs → r ≡ get_or xs i r → take (i + 1) xs ≡ take i xs ++ r ∷ []
more_in [] i r low is = absurd (omega (arith, low))
more_in {A = A} (x ∷ xs) zero r low is = ap (λ (y : A). y ∷ []) (sym is)
more_in {A = A} (x ∷ xs) (suc i) r low is =
    let one : suc i + 1 ≡ suc (i + 1) = omega arith in
    ap (λ (n : ℕ). take n (x ∷ xs)) one ∙ ap (λ (l : List A). x ∷ l) (more_in xs i r (omega (arith, low)) is)

-- what is said of each, one on
pub front_more : {A B : Type 0} (f : A → B) (xs : List A) (i : ℕ) (r : A) → i < length xs → r ≡ get_or xs i r → map f (take (i + 1) xs) ≡ map f (take i xs) ++ f r ∷ []
front_more {A = A} f xs i r low is = ap (λ (l : List A). map f l) (more_in xs i r low is) ∙ map-append f (take i xs) (r ∷ [])

pub flat_append : {A B : Type 0} (f : A → List B) (xs ys : List A) → flat_map f (xs ++ ys) ≡ flat_map f xs ++ flat_map f ys
flat_append f [] ys = refl
flat_append {B = B} f (x ∷ xs) ys = ap (λ (l : List B). f x ++ l) (flat_append f xs ys) ∙ sym (append_assoc (f x) (flat_map f xs) (flat_map f ys))

-- what is said of each by several, one on
pub flat_more : {A B : Type 0} (f : A → List B) (xs : List A) (i : ℕ) (r : A) → i < length xs → r ≡ get_or xs i r → flat_map f (take (i + 1) xs) ≡ flat_map f (take i xs) ++ f r
flat_more {A = A} {B = B} f xs i r low is =
    ap (λ (l : List A). flat_map f l) (more_in xs i r low is) ∙ flat_append f (take i xs) (r ∷ [])
    ∙ ap (λ (l : List B). flat_map f (take i xs) ++ l) (append-nil (f r))

filter_step : {A B : Type 0} (f : A → B) (x : A) (ys : List A) (zs : List B) (a b : Bool) → a ≡ b → map f ys ≡ zs → map f (cond a (x ∷ ys) ys) ≡ cond b (f x ∷ zs) zs
filter_step {B = B} f x ys zs true true is rest = ap (λ (l : List B). f x ∷ l) rest
filter_step f x ys zs false false is rest = rest
filter_step f x ys zs true false is rest = absurd cc
filter_step f x ys zs false true is rest = absurd cc

-- a filter of what is said of each, by a test that says the same of it
pub map_filter : {A B : Type 0} (f : A → B) (p : A → Bool) (q : B → Bool) → ((x : A) → p x ≡ q (f x)) → (xs : List A) → map f (filter p xs) ≡ filter q (map f xs)
map_filter f p q same [] = refl
map_filter f p q same (x ∷ xs) = filter_step f x (filter p xs) (filter q (map f xs)) (p x) (q (f x)) (same x) (map_filter f p q same xs)

any_map : {A B : Type 0} (p : B → Bool) (f : A → B) (xs : List A) → list_any p (map f xs) ≡ list_any (λ x. p (f x)) xs
any_map p f [] = refl
any_map p f (x ∷ xs) = ap (λ (b : Bool). p (f x) || b) (any_map p f xs)

-- a test that holds at an index is found
pub found : {A B : Type 0} (p : B → Bool) (f : A → B) (xs : List A) (i : ℕ) (r : A) → i < length xs → r ≡ get_or xs i r → p (f r) ≡ true → true ≡ list_any p (map f xs)
found {A = A} p f xs i r low is holds = sym (any_map p f xs ∙ list_any_at (λ (x : A). p (f x)) xs i r low (ap (λ (x : A). p (f x)) (sym is) ∙ holds))

pub any_append : {A : Type 0} (p : A → Bool) (xs ys : List A) → list_any p (xs ++ ys) ≡ (list_any p xs || list_any p ys)
any_append p [] ys = refl
any_append p (x ∷ xs) ys = by (p x) (any_append p xs ys)
  where
    by : (b : Bool) → list_any p (xs ++ ys) ≡ (list_any p xs || list_any p ys) → (b || list_any p (xs ++ ys)) ≡ ((b || list_any p xs) || list_any p ys)
    by true rest = refl
    by false rest = rest

pub or_false : (b : Bool) → (b || false) ≡ b
or_false true = refl
or_false false = refl

-- any of them, one on
pub any_more : {A : Type 0} (p : A → Bool) (xs : List A) (i : ℕ) (r : A) → i < length xs → r ≡ get_or xs i r → list_any p (take (i + 1) xs) ≡ (list_any p (take i xs) || p r)
any_more {A = A} p xs i r low is =
    ap (λ (l : List A). list_any p l) (more_in xs i r low is) ∙ any_append p (take i xs) (r ∷ []) ∙ ap (λ (b : Bool). list_any p (take i xs) || b) (or_false (p r))

-- any of what is said of them, one on
pub any_map_more : {A B : Type 0} (p : B → Bool) (f : A → B) (xs : List A) (i : ℕ) (r : A) → i < length xs → r ≡ get_or xs i r
    → list_any p (map f (take (i + 1) xs)) ≡ (list_any p (map f (take i xs)) || p (f r))
any_map_more p f xs i r low is =
    any_map p f (take (i + 1) xs) ∙ any_more (λ x. p (f x)) xs i r low is ∙ ap (λ (b : Bool). b || p (f r)) (sym (any_map p f (take i xs)))

-- ---- filters

twice_step : {A : Type 0} (x : A) (q : A → Bool) (ys zs : List A) (a b : Bool) → q x ≡ b → filter q ys ≡ zs → filter q (cond a (x ∷ ys) ys) ≡ cond (a && b) (x ∷ zs) zs
twice_step {A = A} x q ys zs true b is rest = (λ i. cond (is i) (x ∷ rest i) (rest i))
twice_step x q ys zs false b is rest = rest

-- two filters are one by both tests
pub filter_twice : {A : Type 0} (p q : A → Bool) (xs : List A) → filter q (filter p xs) ≡ filter (λ x. p x && q x) xs
filter_twice p q [] = refl
filter_twice p q (x ∷ xs) = twice_step x q (filter p xs) (filter (λ y. p y && q y) xs) (p x) (q x) refl (filter_twice p q xs)

pub and_swap : (a b : Bool) → (a && b) ≡ (b && a)
and_swap true true = refl
and_swap true false = refl
and_swap false true = refl
and_swap false false = refl

-- two filters in either order
pub filter_swap : {A : Type 0} (p q : A → Bool) (xs : List A) → filter q (filter p xs) ≡ filter p (filter q xs)
filter_swap p q xs = filter_twice p q xs ∙ filter_agree (λ x. p x && q x) (λ x. q x && p x) (λ x. and_swap (p x) (q x)) xs ∙ sym (filter_twice q p xs)

-- the first backwards
pub reverse_first : {A : Type 0} (x : A) (xs : List A) → reverse (x ∷ xs) ≡ reverse xs ++ x ∷ []
reverse_first x xs = reverse-append (x ∷ []) xs

reverse_step : {A : Type 0} (x : A) (ys : List A) (b : Bool) → reverse ys ++ cond b (x ∷ []) [] ≡ reverse (cond b (x ∷ ys) ys)
reverse_step x ys true = sym (reverse_first x ys)
reverse_step x ys false = append-nil (reverse ys)

-- a filter of the list backwards
pub filter_reverse : {A : Type 0} (p : A → Bool) (xs : List A) → filter p (reverse xs) ≡ reverse (filter p xs)
filter_reverse p [] = refl
filter_reverse {A = A} p (x ∷ xs) =
    ap (λ (l : List A). filter p l) (reverse_first x xs) ∙ filter-append p (reverse xs) (x ∷ [])
    ∙ ap (λ (l : List A). l ++ cond (p x) (x ∷ []) []) (filter_reverse p xs) ∙ reverse_step x (filter p xs) (p x)

pub map_reverse : {A B : Type 0} (f : A → B) (xs : List A) → map f (reverse xs) ≡ reverse (map f xs)
map_reverse f [] = refl
map_reverse {A = A} {B = B} f (x ∷ xs) =
    ap (λ (l : List A). map f l) (reverse_first x xs) ∙ map-append f (reverse xs) (x ∷ [])
    ∙ ap (λ (l : List B). l ++ f x ∷ []) (map_reverse f xs) ∙ sym (reverse_first (f x) (map f xs))

-- a filter by two tests that agree wherever P holds
pub filter_where : {A : Type 0} (P : A → Type 0) (p q : A → Bool) → ((x : A) → P x → p x ≡ q x) → (xs : List A) → All P xs → filter p xs ≡ filter q xs
filter_where P p q same [] all = refl
filter_where P p q same (x ∷ xs) all =
    let first = same x (All-head P x xs all) in
    let rest = filter_where P p q same xs (All-tail P x xs all) in
    (λ i. cond (first i) (x ∷ rest i) (rest i))

-- all pass
pub filter_all : {A : Type 0} (xs : List A) → filter (λ x. true) xs ≡ xs
filter_all [] = refl
filter_all {A = A} (x ∷ xs) = ap (λ (l : List A). x ∷ l) (filter_all xs)

-- what passes wherever P holds
pub filter_kept : {A : Type 0} (P : A → Type 0) (p : A → Bool) → ((x : A) → P x → p x ≡ true) → (xs : List A) → All P xs → filter p xs ≡ xs
filter_kept P p holds xs all = filter_where P p (λ x. true) holds xs all ∙ filter_all xs

-- what is said of each is the same wherever P holds
pub map_where : {A B : Type 0} (P : A → Type 0) (f g : A → B) → ((x : A) → P x → f x ≡ g x) → (xs : List A) → All P xs → map f xs ≡ map g xs
map_where P f g same [] all = refl
map_where {B = B} P f g same (x ∷ xs) all =
    let first = same x (All-head P x xs all) in
    let rest = map_where P f g same xs (All-tail P x xs all) in
    (λ i. first i ∷ rest i)

pub map_same : {A : Type 0} (xs : List A) → map (λ x. x) xs ≡ xs
map_same [] = refl
map_same {A = A} (x ∷ xs) = ap (λ (l : List A). x ∷ l) (map_same xs)

pub map_twice : {A B C : Type 0} (f : A → B) (g : B → C) (xs : List A) → map g (map f xs) ≡ map (λ x. g (f x)) xs
map_twice f g [] = refl
map_twice {C = C} f g (x ∷ xs) = ap (λ (l : List C). g (f x) ∷ l) (map_twice f g xs)

-- the element at an index, read in two ways
pub at_index : {A : Type 0} (xs : List A) (i : ℕ) (x y : A) → i < length xs → x ≡ get_or xs i x → slice_get xs i ≡ Some y → x ≡ y
at_index [] i x y low is at = absurd (omega (arith, low))
at_index (z ∷ xs) zero x y low is at = is ∙ same_Some z y at
at_index (z ∷ xs) (suc i) x y low is at = at_index xs i x y (omega (arith, low)) is at
