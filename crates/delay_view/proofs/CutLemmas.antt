-- The levels of a log without records, and those of a log without its first records.
use Rattle.std.proofs.Common.{◌≡◌, ◌∙◌, ℕ, zero, suc, ◌+◌, ◌-◌, ◌<◌, ◌≤◌, List, [], ◌∷◌, ◌++◌, map, length, take, drop, slice_get, Some, refl, sym, ap, subst, arith, cond, length-append}
use Rattle.std.specs.Prelude.{◌==◌, ◌&&◌, filter, count_by, Result, Ok, Err, IfOk}
use Rattle.std.specs.Str.{bytes_eq}
use Rattle.std.proofs.lemmas.List.{take-append-drop, map-append, length-map, length-take-le}
use Rattle.std.proofs.lemmas.List.Elements.{filter-append}
use Rattle.std.proofs.lemmas.List.Sums.{sum_by-append}
use Rattle.record_codec.specs.Entry.{Entry}
use Rattle.log_model.specs.Admissible.{level_topic}
use Rattle.log_model.specs.Bases.{Base, no_base}
use Rattle.log_model.specs.Kinds.{is_delivery}
use Rattle.log_model.specs.Numbered.{Log, above}
use Rattle.log_model.specs.Queues.{queue_of}
use Rattle.delay_view.specs.Levels.{Level, empty_level, cut_at}
use Rattle.delay_view.specs.OfLog.{delivery_time, IsLevelOf, AreLevelsOf, CutsLevels, empty_log}
use Rattle.delay_view.proofs.GrowthLemmas.{get_there, get_within}

-- ---- lists

take_none : {A : Type 0} (n : ℕ) → let none : List A = [] in take n none ≡ none
take_none zero = refl
take_none (suc n) = refl

take_more : {A : Type 0} (n m : ℕ) (xs : List A) → take (n + m) xs ≡ take n xs ++ take m (drop n xs)
take_more zero m xs = ap (λ (k : ℕ). take k xs) (let e : 0 + m ≡ m = omega arith in e)
take_more (suc n) m [] = ap (λ (k : ℕ). take k []) (let e : suc n + m ≡ suc (n + m) = omega arith in e) ∙ sym (take_none m)
take_more {A = A} (suc n) m (x ∷ xs) =
    ap (λ (k : ℕ). take k (x ∷ xs)) (let e : suc n + m ≡ suc (n + m) = omega arith in e) ∙ ap (λ (l : List A). x ∷ l) (take_more n m xs)

drop_front : {A : Type 0} (xs ys : List A) → drop (length xs) (xs ++ ys) ≡ ys
drop_front [] ys = refl
drop_front (x ∷ xs) ys = drop_front xs ys

pub none_there : {A : Type 0} (xs : List A) → length xs ≡ 0 → xs ≡ []
none_there [] none = refl
none_there (x ∷ xs) none = absurd (omega (arith, none))

-- ---- one level

-- of a log without records
pub empty_level_is : (base : Base) (d level : ℕ) (l : Level) → l.low ≡ base.queues level_topic (level - 1) → l.times ≡ [] → l.seen ≡ 0 → l.copied ≡ base.levels level
    → IsLevelOf (empty_log base) d level l
empty_level_is base d level l low times seen copied = record {
  low = low;
  times = times;
  seen = seen ∙ sym (ap (λ (rs : List Entry). length (queue_of rs level_topic (level - 1))) (take_none (d - base.records)));
  copied = copied ∙ (let n = base.levels level in let e : n ≡ n + 0 = omega arith in e);
}

-- of a log without its first records
pub cut_level : (log : Log) (d n level : ℕ) (later : Base) (l : Level) → 1 ≤ level → level ≤ 18 → IsLevelOf log d level l → CutsLevels log n later → later.records ≤ d
    → IsLevelOf (above log later) d level (cut_at l (later.queues level_topic (level - 1)))
cut_level log d n level later l some most is cut seen =
    let base = log.base.records in
    let front = take n log.records in
    let rest = drop n log.records in
    let queue = level - 1 in
    let f = delivery_time level in
    let test = λ (r : Entry). bytes_eq r.topic level_topic && (r.queue == queue) in
    let counts = cut.records in
    let full = length-take-le n log.records cut.long in
    let gone : later.records - base ≡ n = omega (arith, counts, full) in
    let split : log.records ≡ front ++ rest = sym (take-append-drop n log.records) in
    let counted = cut.queues queue in
    let low = is.low in
    let index : later.queues level_topic queue - l.low ≡ length (queue_of front level_topic queue) = omega (arith, counted, low) in
    let rest_is : drop (later.records - base) log.records ≡ rest = ap (λ (k : ℕ). drop k log.records) gone in
    let times : l.times ≡ map f (queue_of front level_topic queue) ++ map f (queue_of rest level_topic queue)
    = is.times ∙ ap (λ (rs : List Entry). map f (filter test rs)) split ∙ ap (map f) (filter-append test front rest) ∙ map-append f (queue_of front level_topic queue) (queue_of rest level_topic queue) in
    let index_times : later.queues level_topic queue - l.low ≡ length (map f (queue_of front level_topic queue))
    = index ∙ sym (length-map (queue_of front level_topic queue) f) in
    let behind : d - base ≡ n + (d - later.records) = omega (arith, counts, full, seen) in
    let seen_parts : take (d - base) log.records ≡ front ++ take (d - later.records) rest = ap (λ (k : ℕ). take k log.records) behind ∙ take_more n (d - later.records) log.records in
    let seen_count : l.seen ≡ length (queue_of front level_topic queue) + length (queue_of (take (d - later.records) rest) level_topic queue)
    = is.seen ∙ ap (λ (rs : List Entry). length (filter test rs)) seen_parts ∙ ap length (filter-append test front (take (d - later.records) rest))
    ∙ length-append (queue_of front level_topic queue) (queue_of (take (d - later.records) rest) level_topic queue) in
    let delivered : count_by (is_delivery level) log.records ≡ count_by (is_delivery level) front + count_by (is_delivery level) rest
    = ap (count_by (is_delivery level)) split ∙ sum_by-append (λ (r : Entry). cond (is_delivery level r) 1 0) front rest in
    let copies = cut.levels level some most in
    let copied = is.copied in
    record {
      low = refl;
      times =
          ap (λ (k : ℕ). drop k l.times) index_times
          ∙ ap (λ (ts : List ℕ). drop (length (map f (queue_of front level_topic queue))) ts) times
          ∙ drop_front (map f (queue_of front level_topic queue)) (map f (queue_of rest level_topic queue))
          ∙ ap (λ (rs : List Entry). map f (queue_of rs level_topic queue)) (sym rest_is);
      seen =
          (let e : l.seen - (later.queues level_topic queue - l.low) ≡ length (queue_of (take (d - later.records) rest) level_topic queue) = omega (arith, index, seen_count) in e)
          ∙ ap (λ (rs : List Entry). length (queue_of (take (d - later.records) rs) level_topic queue)) (sym rest_is);
      copied =
          (let e : l.copied ≡ later.levels level + count_by (is_delivery level) rest = omega (arith, copied, copies, delivered) in e)
          ∙ ap (λ (rs : List Entry). later.levels level + count_by (is_delivery level) rs) (sym rest_is);
    }

-- ---- all levels

pub new_levels : (levels : List Level) → length levels ≡ 18 → ((k : ℕ) (l : Level) → slice_get levels k ≡ Some l → l ≡ empty_level l.spare) → AreLevelsOf (empty_log no_base) 0 levels
new_levels levels all empty = record {
  all = all;
  each = λ k l at. subst (λ (x : Level). IsLevelOf (empty_log no_base) 0 (k + 1) x) (sym (empty k l at))
      (empty_level_is no_base 0 (k + 1) (empty_level l.spare) refl refl refl refl);
}

pub made_levels : {E : Type 0} (result : Result (List Level) E) → IfOk result (λ levels. (length levels ≡ 18) × ((k : ℕ) (l : Level) → slice_get levels k ≡ Some l → l ≡ empty_level l.spare))
    → IfOk result (λ levels. AreLevelsOf (empty_log no_base) 0 levels)
made_levels (Ok levels) is = new_levels levels is.0 is.1
made_levels (Err fault) is = tt

pub cut_levels : (log : Log) (d n : ℕ) (later : Base) (levels left : List Level) → AreLevelsOf log d levels → CutsLevels log n later → later.records ≤ d → length left ≡ length levels
    → ((k : ℕ) (l m : Level) → slice_get levels k ≡ Some l → slice_get left k ≡ Some m → m ≡ cut_at l (later.queues level_topic k)) → AreLevelsOf (above log later) d left
cut_levels log d n later levels left are cut seen size is = record {
  all = size ∙ are.all;
  each = λ k m at.
      (let within = get_within left k m at in
      let few : k < length levels = omega (arith, within, size) in
      let all = are.all in
      let there = get_there levels k few in
      let one : k + 1 - 1 ≡ k = omega arith in
      subst (λ (x : Level). IsLevelOf (above log later) d (k + 1) x)
      (ap (λ (j : ℕ). cut_at there.0 (later.queues level_topic j)) one ∙ sym (is k there.0 m there.1 at))
      (cut_level log d n (k + 1) later there.0 (omega arith) (omega (arith, few, all)) (are.each k there.0 there.1) cut seen));
}
