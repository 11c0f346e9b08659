-- How bases count records, one list behind another.
use Rattle.std.proofs.Common.{◌≡◌, refl, ap, sym, ◌∙◌, subst, arith, ℕ, zero, suc, ◌+◌, ◌-◌, ◌<◌, ◌≤◌, true, slice_get, Some, List, [], ◌∷◌, ◌++◌, length, take, drop, cond, ◌==◌, length-append}
use Rattle.std.proofs.lemmas.List.Sums.{sum_by-append, length-filter}
use Rattle.std.specs.List.{count_by}
use Rattle.std.specs.Prelude.{◌&&◌}
use Rattle.std.specs.Str.{bytes_eq}
use Rattle.record_codec.specs.Entry.{Entry}
use Rattle.log_model.specs.Bases.{Base}
use Rattle.log_model.specs.Kinds.{is_delivery}
use Rattle.log_model.specs.Queues.{queue_of}
use Rattle.broker_model.specs.Removal.{IsBaseAfter}
use Rattle.core_laws.proofs.Lists.{drop_drop_less, take_take_less}
use Rattle.core_laws.proofs.Counts.{count_take, count_before}

pub take_plus : {A : Type 0} (a b : ℕ) (xs : List A) → take (a + b) xs ≡ take a xs ++ take b (drop a xs)
take_plus {A = A} zero b xs = let same : 0 + b ≡ b = omega arith in ap (λ (n : ℕ). take n xs) same
take_plus {A = A} (suc a) b [] = let same : suc a + b ≡ suc (a + b) = omega arith in ap (λ (n : ℕ). take {A = A} n []) same ∙ nothing b
  where
    nothing : (n : ℕ) → [] ≡ take {A = A} n []
    nothing zero = refl
    nothing (suc n) = refl
take_plus {A = A} (suc a) b (x ∷ xs) = let same : suc a + b ≡ suc (a + b) = omega arith in
    ap (λ (n : ℕ). take n (x ∷ xs)) same ∙ ap (λ (l : List A). x ∷ l) (take_plus a b xs)

pub drop_plus : {A : Type 0} (a b : ℕ) (xs : List A) → drop b (drop a xs) ≡ drop (a + b) xs
drop_plus a b xs = let same : (a + b) - a ≡ b = omega arith in sym (drop_drop_less a (a + b) xs (omega arith) ∙ ap (λ (n : ℕ). drop n (drop a xs)) same)

pub count_queue : (xs ys : List Entry) (t : List ℕ) (q : ℕ) → length (queue_of (xs ++ ys) t q) ≡ length (queue_of xs t q) + length (queue_of ys t q)
count_queue xs ys t q = omega (
  arith,
  length-filter (λ (r : Entry). bytes_eq r.topic t && (r.queue == q)) (xs ++ ys),
  length-filter (λ (r : Entry). bytes_eq r.topic t && (r.queue == q)) xs,
  length-filter (λ (r : Entry). bytes_eq r.topic t && (r.queue == q)) ys,
  sum_by-append (λ (r : Entry). cond (bytes_eq r.topic t && (r.queue == q)) 1 0) xs ys,
)

-- more records have no fewer of a queue, and with one of this queue they have more
pub longer_queue : (a b : ℕ) (log : List Entry) (t : List ℕ) (q : ℕ) → a ≤ b → length (queue_of (take a log) t q) ≤ length (queue_of (take b log) t q)
longer_queue a b log t q low = omega (
  arith,
  length-filter (λ (r : Entry). bytes_eq r.topic t && (r.queue == q)) (take a log),
  length-filter (λ (r : Entry). bytes_eq r.topic t && (r.queue == q)) (take b log),
  count_take (λ (r : Entry). bytes_eq r.topic t && (r.queue == q)) a (take b log),
  ap (λ (l : List Entry). count_by (λ (r : Entry). bytes_eq r.topic t && (r.queue == q)) l) (take_take_less a b log low),
)

pub queue_before : (k : ℕ) (log : List Entry) (r : Entry) (t : List ℕ) (q : ℕ) → slice_get log k ≡ Some r → (bytes_eq r.topic t && (r.queue == q)) ≡ true
    → length (queue_of (take k log) t q) < length (queue_of log t q)
queue_before k log r t q at is = omega (
  arith,
  length-filter (λ (x : Entry). bytes_eq x.topic t && (x.queue == q)) (take k log),
  length-filter (λ (x : Entry). bytes_eq x.topic t && (x.queue == q)) log,
  count_before (λ (x : Entry). bytes_eq x.topic t && (x.queue == q)) log k r at is,
)

pub count_level : (xs ys : List Entry) (v : ℕ) → count_by (is_delivery v) (xs ++ ys) ≡ count_by (is_delivery v) xs + count_by (is_delivery v) ys
count_level xs ys v = sum_by-append (λ (r : Entry). cond (is_delivery v r) 1 0) xs ys

pub base_same : (base later : Base) (xs ys : List Entry) → xs ≡ ys → IsBaseAfter base xs later → IsBaseAfter base ys later
base_same base later xs ys is c = subst (λ (l : List Entry). IsBaseAfter base l later) is c

pub base_none : (base : Base) → IsBaseAfter base [] base
base_none base = record { records = omega arith; queues = λ t q. omega arith; levels = λ v low high. omega arith }

pub base_on : (a b c : Base) (xs ys : List Entry) → IsBaseAfter a xs b → IsBaseAfter b ys c → IsBaseAfter a (xs ++ ys) c
base_on a b c xs ys first later = record {
  records = omega (arith, first.records, later.records, length-append xs ys);
  queues = λ t q. omega (arith, first.queues t q, later.queues t q, count_queue xs ys t q);
  levels = λ v low high. omega (arith, first.levels v low high, later.levels v low high, count_level xs ys v);
}

pub base_off : (a b c : Base) (xs ys : List Entry) → IsBaseAfter a xs b → IsBaseAfter a (xs ++ ys) c → IsBaseAfter b ys c
base_off a b c xs ys first all = record {
  records = omega (arith, first.records, all.records, length-append xs ys);
  queues = λ t q. omega (arith, first.queues t q, all.queues t q, count_queue xs ys t q);
  levels = λ v low high. omega (arith, first.levels v low high, all.levels v low high, count_level xs ys v);
}
