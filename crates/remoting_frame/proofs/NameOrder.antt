-- What putting pairs among others by their names makes.
use Rattle.std.proofs.Common.{◌≡◌, ℕ, zero, suc, ◌+◌, ◌-◌, ◌<◌, ◌≤◌, get_or, take, drop, List, [], ◌∷◌, length, map, ◌++◌, subst, Bool, true, false, cond, Option, Some, None, Ordering, Less, Equal, Greater, nat_cmp, refl, sym, ap, ◌∙◌, arith}
use Rattle.std.specs.Prelude.{All, is_some}
use Rattle.std.specs.Ordering.{match_ordering, ordering_reverse, is_eq}
use Rattle.std.specs.Cmp.Lexicographic.{slice_cmp}
use Rattle.std.specs.BTreeMap.{insert_entry}
use Rattle.std.specs.List.{AllByRecursion}
use Rattle.std.specs.List.Sorted.{IsStrictlySortedBy}
use Rattle.std.proofs.lemmas.Cmp.{nat_list_cmp_total}
use Rattle.std.proofs.lemmas.Map.Lookups.{exact_bytes}
use Rattle.remoting_frame.specs.Head.{IsInOrder, pairs_size}
use Rattle.remoting_frame.specs.Binary.{put_all, by_name}
use Rattle.remoting_frame.specs.BinaryForm.{has_name, value_of, last_value}

abbrev Pair : Type 0
Pair = List ℕ × List ℕ

-- the order of names
abbrev order : List ℕ → List ℕ → Ordering
order = slice_cmp nat_cmp

abbrev put : List Pair → List ℕ → List ℕ → List Pair
put ps k v = insert_entry order ps k v

-- ---- order

abbrev Below : List ℕ → List Pair → Type 0
Below x ps = AllByRecursion (λ y. order x y ≡ Less) (map (λ p. p.0) ps)

below_at : (x : List ℕ) (e : Pair) (es : List Pair) (k v : List ℕ) (r : Ordering) → Below x (e ∷ es) → order x k ≡ Less → Below x (put es k v) → Below x (match_ordering r ((k, v) ∷ e ∷ es) ((e.0, v) ∷ es) (e ∷ put es k v))
below_at x e es k v Less h lt others = (lt, h)
below_at x e es k v Equal h lt others = h
below_at x e es k v Greater h lt others = (h.0, others)

below_put : (x : List ℕ) (ps : List Pair) (k v : List ℕ) → Below x ps → order x k ≡ Less → Below x (put ps k v)
below_put x [] k v h lt = (lt, tt)
below_put x (e ∷ es) k v h lt = below_at x e es k v (order k e.0) h lt (below_put x es k v h.1 lt)

below_through : (x y : List ℕ) (ps : List Pair) → order x y ≡ Less → Below y ps → Below x ps
below_through x y [] lt h = tt
below_through x y (p ∷ ps) lt h = (nat_list_cmp_total.trans x y p.0 lt h.0, below_through x y ps lt h.1)

ordered_at : (e : Pair) (es : List Pair) (k v : List ℕ) (r : Ordering) → order k e.0 ≡ r → Below e.0 es → IsInOrder es → IsInOrder (put es k v) → IsInOrder (match_ordering r ((k, v) ∷ e ∷ es) ((e.0, v) ∷ es) (e ∷ put es k v))
unfolding IsStrictlySortedBy
ordered_at e es k v Less p below h others = ((p, below_through k e.0 es p below), (below, h))
ordered_at e es k v Equal p below h others = (below, h)
ordered_at e es k v Greater p below h others = (below_put e.0 es k v below (nat_list_cmp_total.antisymm e.0 k ∙ ap ordering_reverse p), others)

pub ordered_put : (ps : List Pair) (k v : List ℕ) → IsInOrder ps → IsInOrder (put ps k v)
unfolding IsStrictlySortedBy
ordered_put [] k v h = (tt, tt)
ordered_put (e ∷ es) k v h = ordered_at e es k v (order k e.0) refl h.0 h.1 (ordered_put es k v h.1)

ordered_all : (ps more : List Pair) → IsInOrder ps → IsInOrder (put_all ps more)
ordered_all ps [] h = h
ordered_all ps (p ∷ more) h = ordered_all (put ps p.0 p.1) more (ordered_put ps p.0 p.1 h)

pub by_name_ordered : (ps : List Pair) → IsInOrder (by_name ps)
unfolding IsStrictlySortedBy
by_name_ordered ps = ordered_all [] ps tt

-- ---- where a pair is put

abbrev name_at : List Pair → ℕ → List ℕ
name_at ps i = (get_or ps i ([], [])).0

below_get : (x : List ℕ) (ps : List Pair) (i : ℕ) → Below x ps → i < length ps → order x (name_at ps i) ≡ Less
below_get x [] i h lt = absurd (omega arith)
below_get x (p ∷ ps) zero h lt = h.0
below_get x (p ∷ ps) (suc i) h lt = below_get x ps i h.1 (omega arith)

greater : (x k : List ℕ) → order x k ≡ Less → order k x ≡ Greater
greater x k lt = nat_list_cmp_total.antisymm k x ∙ ap ordering_reverse lt

-- before all, where the first name is greater
put_front : (ps : List Pair) (k v : List ℕ) → (0 < length ps → order k (name_at ps 0) ≡ Less) → put ps k v ≡ (k, v) ∷ ps
put_front [] k v above = refl
put_front (p ∷ ps) k v above = let less : order k p.0 ≡ Less = above (omega arith) in rw less refl

-- behind the last smaller name
put_behind : (ps : List Pair) (k v : List ℕ) (i : ℕ) → IsInOrder ps → i < length ps → order (name_at ps i) k ≡ Less → (suc i < length ps → order k (name_at ps (suc i)) ≡ Less) → put ps k v ≡ take (suc i) ps ++ (k, v) ∷ drop (suc i) ps
unfolding IsStrictlySortedBy
put_behind [] k v i h lt below above = absurd (omega arith)
put_behind (p ∷ ps) k v zero h lt below above =
    let first = greater p.0 k below in
    let others = put_front ps k v (λ some. above (omega arith)) in
    rw (first, others) refl
put_behind (p ∷ ps) k v (suc i) h lt below above =
    let first = greater p.0 k (nat_list_cmp_total.trans p.0 (name_at ps i) k (below_get p.0 ps i h.0 (omega arith)) below) in
    let others = put_behind ps k v i h.1 (omega arith) below (λ some. above (omega arith)) in
    rw (first, others) refl

-- in the place of an equal name
put_same : (ps : List Pair) (k v : List ℕ) (i : ℕ) → IsInOrder ps → i < length ps → order k (name_at ps i) ≡ Equal → put ps k v ≡ take i ps ++ (k, v) ∷ drop (suc i) ps
unfolding IsStrictlySortedBy
put_same [] k v i h lt equal = absurd (omega arith)
put_same (p ∷ ps) k v zero h lt equal = rw equal (ap (λ (n : List ℕ). (n, v) ∷ ps) (sym (exact_bytes k p.0 equal)))
put_same (p ∷ ps) k v (suc i) h lt equal =
    let below = subst (λ (n : List ℕ). order p.0 n ≡ Less) (sym (exact_bytes k (name_at ps i) equal)) (below_get p.0 ps i h.0 (omega arith)) in
    let first = greater p.0 k below in
    let others = put_same ps k v i h.1 (omega arith) equal in
    rw (first, others) refl

-- the same of an index that is one further, and a name that is read there
module _ (ps : List Pair) (k v : List ℕ) (n : ℕ) (name : List ℕ) (h : IsInOrder ps) (some : 0 < n) (le : n ≤ length ps) (named : name ≡ name_at ps (n - 1)) where
  back : suc (n - 1) ≡ n
  back = omega arith

  pub put_same_before : order k name ≡ Equal → put ps k v ≡ take (n - 1) ps ++ (k, v) ∷ drop n ps
  put_same_before equal =
      let same = subst (λ (m : List ℕ). order k m ≡ Equal) named equal in
      subst (λ (m : ℕ). put ps k v ≡ take (n - 1) ps ++ (k, v) ∷ drop m ps) back (put_same ps k v (n - 1) h (omega arith) same)

  pub put_behind_before : order k name ≡ Greater → (n < length ps → order k (name_at ps n) ≡ Less) → put ps k v ≡ take n ps ++ (k, v) ∷ drop n ps
  put_behind_before more above =
      let below : order (name_at ps (n - 1)) k ≡ Less = subst (λ (m : List ℕ). order m k ≡ Less) named (nat_list_cmp_total.antisymm name k ∙ ap ordering_reverse more) in
      let next : suc (n - 1) < length ps → order k (name_at ps (suc (n - 1))) ≡ Less = subst (λ (m : ℕ). m < length ps → order k (name_at ps m) ≡ Less) (sym back) above in
      subst (λ (m : ℕ). put ps k v ≡ take m ps ++ (k, v) ∷ drop m ps) back (put_behind ps k v (n - 1) h (omega arith) below next)

-- ---- values

one_test : (b : Bool) (v w : Option (List ℕ)) (r : Option (List ℕ)) → cond b v r ≡ cond b v (cond b w r)
one_test true v w r = refl
one_test false v w r = refl

two_tests : (b c : Bool) (v w r : Option (List ℕ)) → (b ≡ true → c ≡ true → ⊥) → cond b w (cond c v r) ≡ cond c v (cond b w r)
two_tests true true v w r h = absurd (h refl refl)
two_tests true false v w r h = refl
two_tests false c v w r h = refl

equal_is : (r : Ordering) → is_eq r ≡ true → r ≡ Equal
equal_is Less e = absurd cc
equal_is Equal e = refl
equal_is Greater e = absurd cc

-- names that compare as equal compare alike
alike : (q k e : List ℕ) → order k e ≡ Equal → order q e ≡ order q k
alike q k e p = nat_list_cmp_total.antisymm q e ∙ ap ordering_reverse (sym (nat_list_cmp_total.congr k e q p)) ∙ sym (nat_list_cmp_total.antisymm q k)

apart : (q k e : List ℕ) → order k e ≡ Greater → is_eq (order q e) ≡ true → is_eq (order q k) ≡ true → ⊥
apart q k e p first second =
    let a : order q e ≡ Equal = equal_is (order q e) first in
    let b : order q k ≡ Equal = equal_is (order q k) second in
    let c : order k e ≡ order q e = sym (nat_list_cmp_total.congr q k e b) in
    absurd cc

value_at : (q : List ℕ) (e : Pair) (es : List Pair) (k v : List ℕ) (r : Ordering) → order k e.0 ≡ r → value_of q (put es k v) ≡ cond (is_eq (order q k)) (Some v) (value_of q es)
    → value_of q (match_ordering r ((k, v) ∷ e ∷ es) ((e.0, v) ∷ es) (e ∷ put es k v)) ≡ cond (is_eq (order q k)) (Some v) (value_of q (e ∷ es))
value_at q e es k v Less p others = refl
value_at q e es k v Equal p others = let same = alike q k e.0 p in rw same (one_test (is_eq (order q k)) (Some v) (Some e.1) (value_of q es))
value_at q e es k v Greater p others =
    ap (λ (w : Option (List ℕ)). cond (is_eq (order q e.0)) (Some e.1) w) others ∙ two_tests (is_eq (order q e.0)) (is_eq (order q k)) (Some v) (Some e.1) (value_of q es) (apart q k e.0 p)

value_put : (q : List ℕ) (ps : List Pair) (k v : List ℕ) → value_of q (put ps k v) ≡ cond (is_eq (order q k)) (Some v) (value_of q ps)
value_put q [] k v = refl
value_put q (e ∷ es) k v = value_at q e es k v (order k e.0) refl (value_put q es k v)

or_before : (o last : Option (List ℕ)) (b : Bool) (v : List ℕ) → cond (is_some last) last (cond b (Some v) o) ≡ cond (is_some (cond (is_some last) last (cond b (Some v) None))) (cond (is_some last) last (cond b (Some v) None)) o
or_before o (Some x) b v = refl
or_before o None true v = refl
or_before o None false v = refl

value_all : (q : List ℕ) (ps more : List Pair) → value_of q (put_all ps more) ≡ cond (is_some (last_value q more)) (last_value q more) (value_of q ps)
value_all q ps [] = refl
value_all q ps (p ∷ more) =
    value_all q (put ps p.0 p.1) more ∙ ap (λ (w : Option (List ℕ)). cond (is_some (last_value q more)) (last_value q more) w) (value_put q ps p.0 p.1) ∙ or_before (value_of q ps) (last_value q more) (has_name q p) p.1

if_some : (o : Option (List ℕ)) → cond (is_some o) o None ≡ o
if_some (Some x) = refl
if_some None = refl

pub by_name_values : (q : List ℕ) (ps : List Pair) → value_of q (by_name ps) ≡ last_value q ps
by_name_values q ps = value_all q [] ps ∙ if_some (last_value q ps)

-- ---- sizes

size_at : (e : Pair) (es : List Pair) (k v : List ℕ) (r : Ordering) → pairs_size (put es k v) ≤ pairs_size es + (6 + length k + length v) → pairs_size (match_ordering r ((k, v) ∷ e ∷ es) ((e.0, v) ∷ es) (e ∷ put es k v)) ≤ pairs_size (e ∷ es) + (6 + length k + length v)
size_at e es k v Less le = omega arith
size_at e es k v Equal le = omega arith
size_at e es k v Greater le = omega arith

size_put : (ps : List Pair) (k v : List ℕ) → pairs_size (put ps k v) ≤ pairs_size ps + (6 + length k + length v)
size_put [] k v = omega arith
size_put (e ∷ es) k v = size_at e es k v (order k e.0) (size_put es k v)

size_all : (ps more : List Pair) → pairs_size (put_all ps more) ≤ pairs_size ps + pairs_size more
size_all ps [] = omega arith
size_all ps (p ∷ more) = omega (arith, size_all (put ps p.0 p.1) more, size_put ps p.0 p.1)

pub by_name_size : (ps : List Pair) → pairs_size (by_name ps) ≤ pairs_size ps
by_name_size ps = omega (arith, size_all [] ps)

-- ---- what holds of each name

names_at : (P : List ℕ → Type 0) (e : Pair) (es : List Pair) (k v : List ℕ) (r : Ordering) → P e.0 → AllByRecursion (λ p. P p.0) es → P k → AllByRecursion (λ p. P p.0) (put es k v) → AllByRecursion (λ p. P p.0) (match_ordering r ((k, v) ∷ e ∷ es) ((e.0, v) ∷ es) (e ∷ put es k v))
names_at P e es k v Less first h one others = (one, (first, h))
names_at P e es k v Equal first h one others = (first, h)
names_at P e es k v Greater first h one others = (first, others)

names_put : (P : List ℕ → Type 0) (ps : List Pair) (k v : List ℕ) → AllByRecursion (λ p. P p.0) ps → P k → AllByRecursion (λ p. P p.0) (put ps k v)
names_put P [] k v h one = (one, tt)
names_put P (e ∷ es) k v h one = names_at P e es k v (order k e.0) h.0 h.1 one (names_put P es k v h.1 one)

names_all : (P : List ℕ → Type 0) (ps more : List Pair) → AllByRecursion (λ p. P p.0) ps → AllByRecursion (λ p. P p.0) more → AllByRecursion (λ p. P p.0) (put_all ps more)
names_all P ps [] h more = h
names_all P ps (p ∷ others) h more = names_all P (put ps p.0 p.1) others (names_put P ps p.0 p.1 h more.0) more.1

pub by_name_names : (P : List ℕ → Type 0) (ps : List Pair) → AllByRecursion (λ p. P p.0) ps → AllByRecursion (λ p. P p.0) (by_name ps)
by_name_names P ps h = names_all P [] ps tt h

pub each_index : (P : Pair → Type 0) (ps : List Pair) → AllByRecursion P ps → All P ps
each_index P [] h k d lt = absurd (omega arith)
each_index P (p ∷ ps) h zero d lt = h.0
each_index P (p ∷ ps) h (suc k) d lt = each_index P ps h.1 k d (omega arith)
