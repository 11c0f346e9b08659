-- Logs stay kept: where a record is appended, where records are removed in front, and where a crash cuts the end.
use Rattle.std.proofs.Common.{◌≡◌, inl, inr, refl, ap, sym, ◌∙◌, subst, arith, ℕ, zero, suc, ◌+◌, ◌-◌, ◌≤◌, List, [], ◌∷◌, ◌++◌, length, take, drop, slice_get, Some, Bool, true, false, cond, length-append}
use Rattle.std.specs.Prelude.{◌&&◌, ◌==◌}
use Rattle.std.specs.Str.{bytes_eq}
use Rattle.std.proofs.lemmas.List.{take_all, length-take}
use Rattle.std.proofs.lemmas.Option.{same_Some}
use Rattle.std.proofs.lemmas.Bool.{cases_lt}
use Rattle.record_codec.specs.Entry.{Entry}
use Rattle.record_codec.specs.Layout.{size}
use Rattle.log_model.specs.Admissible.{half_topic}
use Rattle.log_model.specs.Bases.{Base}
use Rattle.log_model.specs.Log.{end_from}
use Rattle.log_model.specs.Numbered.{Log, with_appended, above, below, place_end}
use Rattle.log_model.specs.Kinds.{is_half}
use Rattle.log_model.specs.Queues.{queue_of, queue_end}
use Rattle.log_model.proofs.Places.{end_of-append}
use Rattle.broker_model.specs.Removal.{IsBaseAfter}
use Rattle.core_laws.specs.Kept.{IsKept, IsKeptBehind, IsHalfBehind, IsCountedBehind}
use Rattle.core_laws.proofs.Lists.{get_append, get_take, take_get, drop_get, take_left, take_take_less, length_take, within}
use Rattle.core_laws.proofs.Bases.{count_queue, take_plus}

-- ---- ends

-- the end of a log lies behind each of its records
end_behind : (place : ℕ) (log : List Entry) (i : ℕ) (x : Entry) → ((k : ℕ) (r : Entry) → slice_get log k ≡ Some r
    → (j : ℕ) (y : Entry) → slice_get (take k log) j ≡ Some y → y.offset + size y ≤ r.offset)
    → slice_get log i ≡ Some x → x.offset + size x ≤ end_from place log
end_behind place [] i x rise at = absurd (cc)
end_behind place (y ∷ []) zero x rise at = let e = same_Some y x at in omega (arith, ap (λ (z : Entry). z.offset + size z) e)
end_behind place (y ∷ []) (suc i) x rise at = absurd (cc)
end_behind place (y ∷ z ∷ log) zero x rise at =
    let e = same_Some y x at in
    let next = end_behind (y.offset + size y) (z ∷ log) zero z (λ k r got j w there. rise (suc k) r got (suc j) w there) refl in
    let first = rise 1 z refl 0 y refl in
    omega (arith, next, first, ap (λ (v : Entry). v.offset + size v) e)
end_behind place (y ∷ z ∷ log) (suc i) x rise at =
    end_behind (y.offset + size y) (z ∷ log) i x (λ k r got j w there. rise (suc k) r got (suc j) w there) at

pub ends_behind : (log : Log) (i : ℕ) (x : Entry) → IsKept log → slice_get log.records i ≡ Some x → x.offset + size x ≤ place_end log
ends_behind log i x kept at = end_behind log.base.place log.records i x (λ k r got. (kept.each k r got).place) at

-- ---- a longer log

-- one more record
pub kept_one : (log : Log) (r : Entry) → IsKept log → IsKeptBehind log.records r → (is_half r ≡ true → IsHalfBehind log.base log.records r)
    → IsCountedBehind log.base log.records r → place_end log ≤ r.offset → IsKept (with_appended log (r ∷ []))
kept_one log r kept behind half counts place = record {
  each = each IsKeptBehind kept.each behind;
  halves = each (λ l x. is_half x ≡ true → IsHalfBehind log.base l x) kept.halves half;
  counts = each (IsCountedBehind log.base) kept.counts counts;
  counted = counted;
}
  where
    old : (i : ℕ) → i ≤ length log.records → take i log.records ≡ take i (log.records ++ r ∷ [])
    old i low = sym (take_left i log.records (r ∷ []) low)

    last : (P : List Entry → Entry → Type 0) → P log.records r → (i j : ℕ) (x : Entry) → i ≡ length log.records + j → slice_get (r ∷ []) j ≡ Some x
        → P (take i (log.records ++ r ∷ [])) x
    last P new i zero x at got =
        let is : i ≡ length log.records = omega (arith, at) in
        let all : take i (log.records ++ r ∷ []) ≡ log.records = ap (λ (n : ℕ). take n (log.records ++ r ∷ [])) is
        ∙ (take_left (length log.records) log.records (r ∷ []) (omega arith) ∙ take_all (length log.records) log.records (omega arith)) in
        subst (λ (l : List Entry). P l x) (sym all) (subst (λ (y : Entry). P log.records y) (same_Some r x got) new)
    last P new i (suc j) x at got = absurd (cc)

    each : (P : List Entry → Entry → Type 0) → ((i : ℕ) (x : Entry) → slice_get log.records i ≡ Some x → P (take i log.records) x) → P log.records r
        → (i : ℕ) (x : Entry) → slice_get (log.records ++ r ∷ []) i ≡ Some x → P (take i (log.records ++ r ∷ [])) x
    each P before new i x got = elim (get_append log.records (r ∷ []) i x got) [
      | inl h ↦ subst (λ (l : List Entry). P l x) (old i (omega (arith, within log.records i x h))) (before i x h)
      | inr h ↦ last P new i h.0 x h.1 h.2
    ]

    one_more : (topic : List ℕ) (queue : ℕ) → length (queue_of (r ∷ []) topic queue) ≤ 1
    one_more topic queue = bit (bytes_eq r.topic topic && (r.queue == queue))
      where
        bit : (b : Bool) → length (cond b (r ∷ []) []) ≤ 1
        bit true = omega arith
        bit false = omega arith

    whole : (topic : List ℕ) (queue : ℕ) → log.base.queues topic queue + length (queue_of (log.records ++ r ∷ []) topic queue)
        ≤ end_from log.base.place (log.records ++ r ∷ [])
    whole topic queue =
        let all : take (length log.records) log.records ≡ log.records = take_all (length log.records) log.records (omega arith) in
        let before = kept.counted (length log.records) topic queue in
        omega (
          arith,
          before,
          ap (λ (l : List Entry). length (queue_of l topic queue)) all,
          ap (λ (l : List Entry). end_from log.base.place l) all,
          count_queue log.records (r ∷ []) topic queue,
          one_more topic queue,
          end_of-append log.base log.records r,
          place,
        )

    counted : (k : ℕ) (topic : List ℕ) (queue : ℕ) → log.base.queues topic queue + length (queue_of (take k (log.records ++ r ∷ [])) topic queue)
        ≤ end_from log.base.place (take k (log.records ++ r ∷ []))
    counted k topic queue = elim (cases_lt (length log.records) k) [
      | inl high ↦ subst (λ (l : List Entry). log.base.queues topic queue + length (queue_of l topic queue) ≤ end_from log.base.place l)
          (sym (take_all k (log.records ++ r ∷ []) (omega (arith, high, length-append log.records (r ∷ []))))) (whole topic queue)
      | inr low ↦ subst (λ (l : List Entry). log.base.queues topic queue + length (queue_of l topic queue) ≤ end_from log.base.place l)
          (old k low) (kept.counted k topic queue)
    ]

-- ---- a front of the log

-- the records with numbers below some number
pub kept_below : (log : Log) (n : ℕ) → IsKept log → IsKept (below log n)
kept_below log n kept = record {
  each = λ i r at.
      let h = get_take (n - log.base.records) i log.records r at in
      subst (λ (l : List Entry). IsKeptBehind l r) (sym (take_take_less i (n - log.base.records) log.records (omega (arith, h.1)))) (kept.each i r h.0);
  halves = λ i r at.
      let h = get_take (n - log.base.records) i log.records r at in
      subst (λ (l : List Entry). is_half r ≡ true → IsHalfBehind log.base l r) (sym (take_take_less i (n - log.base.records) log.records (omega (arith, h.1))))
      (kept.halves i r h.0);
  counts = λ i r at.
      let h = get_take (n - log.base.records) i log.records r at in
      subst (λ (l : List Entry). IsCountedBehind log.base l r) (sym (take_take_less i (n - log.base.records) log.records (omega (arith, h.1)))) (kept.counts i r h.0);
  counted = λ k topic queue. elim (cases_lt (n - log.base.records) k) [
    | inl high ↦ subst (λ (l : List Entry). log.base.queues topic queue + length (queue_of l topic queue) ≤ end_from log.base.place l)
        (sym (take_all k (take (n - log.base.records) log.records) (omega (arith, high, length-take (n - log.base.records) log.records))))
        (kept.counted (n - log.base.records) topic queue)
    | inr low ↦ subst (λ (l : List Entry). log.base.queues topic queue + length (queue_of l topic queue) ≤ end_from log.base.place l)
        (sym (take_take_less k (n - log.base.records) log.records low)) (kept.counted k topic queue)
  ];
}

-- ---- what stands behind a later base

end_on : (place : ℕ) (log more : List Entry) → end_from place (log ++ more) ≡ end_from (end_from place log) more
end_on place [] more = refl
end_on place (r ∷ log) more = end_on (r.offset + size r) log more

-- where there are records the place before them doesn't matter, and where there is none nothing is counted
rest_counted : (base later : Base) (front rest : List Entry) (topic : List ℕ) (queue : ℕ)
    → later.queues topic queue ≡ base.queues topic queue + length (queue_of front topic queue) → later.queues topic queue ≤ later.place
    → base.queues topic queue + length (queue_of (front ++ rest) topic queue) ≤ end_from base.place (front ++ rest)
    → later.queues topic queue + length (queue_of rest topic queue) ≤ end_from later.place rest
rest_counted base later front [] topic queue counts low all = omega (arith, low)
rest_counted base later front (r ∷ rest) topic queue counts low all =
    omega (arith, counts, all, count_queue front (r ∷ rest) topic queue, end_on base.place front (r ∷ rest))

-- its place is behind those that are left
behind_left : (log : List Entry) (n i : ℕ) (r : Entry) → IsKeptBehind (take (n + i) log) r → IsKeptBehind (take i (drop n log)) r
behind_left log n i r kept = record {
  place = λ j x at.
      let h = get_take i j (drop n log) x at in
      kept.place (n + j) x (take_get (n + i) (n + j) log x (omega (arith, h.1)) (drop_get n j log x h.0));
  prepared = kept.prepared;
  bits = kept.bits;
  real = kept.real;
  low = kept.low;
  text = kept.text;
  undelivered = kept.undelivered;
  level = kept.level;
}

-- the records of a queue are those that are gone and those that are left
queue_left : (base later : Base) (log : List Entry) (n i : ℕ) (topic : List ℕ) (queue : ℕ) → IsBaseAfter base (take n log) later
    → queue_end base (take (n + i) log) topic queue ≡ queue_end later (take i (drop n log)) topic queue
queue_left base later log n i topic queue counts = omega (
  arith,
  counts.queues topic queue,
  count_queue (take n log) (take i (drop n log)) topic queue,
  ap (λ (l : List Entry). length (queue_of l topic queue)) (take_plus n i log),
)

-- and it counts the same half messages, with those that are gone
half_left : (base later : Base) (log : List Entry) (n i : ℕ) (r : Entry) → IsBaseAfter base (take n log) later → IsHalfBehind base (take (n + i) log) r
    → IsHalfBehind later (take i (drop n log)) r
half_left base later log n i r counts half =
    let same = queue_left base later log n i half_topic 0 counts in
    record {
      queue = half.queue;
      queue_offset = half.queue_offset ∙ same;
      names = λ h low is. omega (arith, half.names h low is, same);
    }

-- and the same of its queue
counts_left : (base later : Base) (log : List Entry) (n i : ℕ) (r : Entry) → IsBaseAfter base (take n log) later → IsCountedBehind base (take (n + i) log) r
    → IsCountedBehind later (take i (drop n log)) r
counts_left base later log n i r counts counted = record {
  queue_offset = counted.queue_offset ∙ queue_left base later log n i r.topic r.queue counts;
  names = λ h low is. omega (arith, counted.names h low is, queue_left base later log n i half_topic 0 counts);
}

pub kept_above : (log : Log) (later : Base) (n : ℕ) → n ≤ length log.records → IsBaseAfter log.base (take n log.records) later
    → ((topic : List ℕ) (queue : ℕ) → later.queues topic queue ≤ later.place) → IsKept log → IsKept (above log later)
kept_above log later n long counts low kept =
    let number : later.records - log.base.records ≡ n = omega (arith, counts.records, length_take n log.records long) in
    subst (λ (m : ℕ). IsKept (record { base = later; records = drop m log.records })) (sym number) (record {
      each = λ i r at. behind_left log.records n i r (kept.each (n + i) r (drop_get n i log.records r at));
      halves = λ i r at is. half_left log.base later log.records n i r counts (kept.halves (n + i) r (drop_get n i log.records r at) is);
      counts = λ i r at. counts_left log.base later log.records n i r counts (kept.counts (n + i) r (drop_get n i log.records r at));
      counted = λ k topic queue. rest_counted log.base later (take n log.records) (take k (drop n log.records)) topic queue (counts.queues topic queue) (low topic queue)
          (subst (λ (l : List Entry). log.base.queues topic queue + length (queue_of l topic queue) ≤ end_from log.base.place l)
          (take_plus n k log.records) (kept.counted (n + k) topic queue));
    })
