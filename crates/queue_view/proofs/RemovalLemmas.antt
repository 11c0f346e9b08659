-- The tables of a list without its first records.
use Rattle.std.proofs.Common.{◌≡◌, ◌∙◌, ℕ, zero, suc, ◌+◌, ◌-◌, ◌≤◌, cond, List, [], ◌∷◌, ◌++◌, length, map, take, drop, slice_get, Some, None, refl, sym, ap, subst, arith, length-append}
use Rattle.std.specs.Prelude.{nat_lt, not}
use Rattle.std.specs.List.{position_or_len}
use Rattle.std.proofs.lemmas.List.{length-map}
use Rattle.queue_view.specs.declared.stored.StoredUnit.{StoredUnit}
use Rattle.queue_view.specs.Tables.{Table, is_of, number_of}
use Rattle.queue_view.specs.Added.{Added, queue_in, IsTableOf, AreTablesOf, AreLowAfter, cut_to}
use Rattle.queue_view.proofs.AddedLemmas.{queue_in-append, in_front, none_in_front}

-- ---- lists

take_none : {A : Type 0} (n : ℕ) → let none : List A = [] in take n none ≡ none
take_none zero = refl
take_none (suc n) = refl

take_more : {A : Type 0} (n m : ℕ) (xs : List A) → take (n + m) xs ≡ take n xs ++ take m (drop n xs)
take_more zero m xs = ap (λ (k : ℕ). take k xs) (let e : 0 + m ≡ m = omega arith in e)
take_more (suc n) m [] = ap (λ (k : ℕ). take k []) (let e : suc n + m ≡ suc (n + m) = omega arith in e) ∙ sym (take_none m)
take_more {A = A} (suc n) m (x ∷ xs) =
    ap (λ (k : ℕ). take k (x ∷ xs)) (let e : suc n + m ≡ suc (n + m) = omega arith in e) ∙ ap (λ (l : List A). x ∷ l) (take_more n m xs)

drop_front : {A : Type 0} (xs ys : List A) → drop (length xs) (xs ++ ys) ≡ ys
drop_front [] ys = refl
drop_front (x ∷ xs) ys = drop_front xs ys

none_behind : {A : Type 0} (xs ys : List A) → xs ++ ys ≡ [] → ys ≡ []
none_behind [] ys none = none
none_behind (x ∷ xs) ys none = cc none

map_got : {A B : Type 0} (f : A → B) (xs : List A) (i : ℕ) (y : B) → slice_get (map f xs) i ≡ Some y → (x : A) × (slice_get xs i ≡ Some x) × (y ≡ f x)
map_got f [] i y at = cc at
map_got f (x ∷ xs) zero y at = (x, refl, (let e : f x ≡ y = cc at in sym e))
map_got f (x ∷ xs) (suc i) y at = map_got f xs i y at

-- ---- one table

pub cut_table : (low later : List ℕ → ℕ → ℕ) (added : List Added) (n k : ℕ) (t : Table) → IsTableOf low added n t → k ≤ n → AreLowAfter low (take k added) later
    → IsTableOf later (drop k added) (n - k) (cut_to later t)
cut_table low later added n k t is few after =
    let front = queue_in (take k added) t.topic t.queue in
    let rest = queue_in (drop k added) t.topic t.queue in
    let counts = after t.topic t.queue in
    let first = is.first in
    let index : later t.topic t.queue - t.low ≡ length front = omega (arith, counts, first) in
    let all : n ≡ k + (n - k) = omega (arith, few) in
    let behind = queue_in (take (n - k) (drop k added)) t.topic t.queue in
    let seen : t.seen ≡ length front + length behind
    = is.seen ∙ ap (λ (m : ℕ). length (queue_in (take m added) t.topic t.queue)) all
    ∙ ap (λ (rs : List Added). length (queue_in rs t.topic t.queue)) (take_more k (n - k) added)
    ∙ ap length (queue_in-append (take k added) (take (n - k) (drop k added)) t.topic t.queue) ∙ length-append front behind in
    record {
      first = refl;
      units =
          ap (λ (m : ℕ). drop m t.units) index
          ∙ ap (λ (us : List StoredUnit). drop (length front) us) (is.units ∙ in_front added k t.topic t.queue)
          ∙ drop_front front rest;
      seen = omega (arith, index, seen);
    }

-- ---- all tables

first_same : (later : List ℕ → ℕ → ℕ) (topic : List ℕ) (queue : ℕ) (tables : List Table)
    → position_or_len (is_of topic queue) (map (cut_to later) tables) ≡ position_or_len (is_of topic queue) tables
first_same later topic queue [] = refl
first_same later topic queue (t ∷ tables) = ap (λ (m : ℕ). cond (not (is_of topic queue t)) (1 + m) 0) (first_same later topic queue tables)

number_same : (later : List ℕ → ℕ → ℕ) (topic : List ℕ) (queue : ℕ) (tables : List Table) → number_of (map (cut_to later) tables) topic queue ≡ number_of tables topic queue
number_same later topic queue tables =
    ap (λ (m : ℕ). cond (nat_lt m (length (map (cut_to later) tables))) (Some m) None) (first_same later topic queue tables)
    ∙ ap (λ (m : ℕ). cond (nat_lt (position_or_len (is_of topic queue) tables) m) (Some (position_or_len (is_of topic queue) tables)) None) (length-map tables (cut_to later))

pub cut_tables : (low later : List ℕ → ℕ → ℕ) (added : List Added) (n k : ℕ) (tables : List Table) → AreTablesOf low added n tables → k ≤ n → AreLowAfter low (take k added) later
    → AreTablesOf later (drop k added) (n - k) (map (cut_to later) tables)
cut_tables low later added n k tables are few after = record {
  each = λ i u at.
      (let was = map_got (cut_to later) tables i u at in
      subst (λ (t : Table). IsTableOf later (drop k added) (n - k) t) (sym was.2) (cut_table low later added n k was.0 (are.each i was.0 was.1) few after));
  found = λ i u at.
      (let was = map_got (cut_to later) tables i u at in
      number_same later u.topic u.queue tables ∙ ap (λ (t : Table). number_of tables t.topic t.queue) was.2 ∙ are.found i was.0 was.1);
  none = λ topic queue absent.
      (let nothing = are.none topic queue (sym (number_same later topic queue tables) ∙ absent) in
      let gone = none_in_front added k topic queue nothing.1 in
      let counts = after topic queue in
      let low_none = nothing.0 in
      (omega (arith, counts, gone, low_none), none_behind (queue_in (take k added) topic queue) (queue_in (drop k added) topic queue) (sym (in_front added k topic queue) ∙ nothing.1)));
}
