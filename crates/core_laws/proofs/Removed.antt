-- What the saved base counts is done.
use Rattle.std.proofs.Common.{◌≡◌, ◌⊎◌, inl, inr, refl, ap, sym, ◌∙◌, subst, arith, ℕ, zero, suc, ◌+◌, ◌-◌, ◌<◌, ◌≤◌, ◌^◌, List, [], ◌∷◌, ◌++◌, length, take, slice_get, Bool, true, false, Option, Some, None, cond, length-append}
use Rattle.std.specs.Prelude.{codes, ◌&&◌, ◌||◌, ◌==◌, not, is_none}
use Rattle.std.specs.List.{prefix_len}
use Rattle.std.specs.Str.{bytes_eq}
use Rattle.std.proofs.lemmas.Bool.{cases_lt, cases_order, and_parts, and_from, or_cases, or_left, or_right, eqb-true, eq-eqb}
use Rattle.std.proofs.lemmas.Option.{same_Some}
use Rattle.record_codec.specs.Entry.{Entry}
use Rattle.record_codec.specs.Props.{value_of}
use Rattle.log_model.specs.Admissible.{half_topic, level_topic}
use Rattle.log_model.specs.Bases.{Base}
use Rattle.log_model.specs.Drafts.{delivery_text}
use Rattle.log_model.specs.Kinds.{is_half, is_delayed, is_copy, is_discard, is_text, origin_text}
use Rattle.log_model.specs.Numbered.{Log, count_of, item_at, queue_min}
use Rattle.log_model.specs.Queues.{queue_of, queue_end}
use Rattle.log_model.specs.Transactions.{Open, transaction_state, is_origin, is_renewal, is_of_family, copies_it, discards_it, names_it, settles, is_settled}
use Rattle.broker_model.specs.State.{State, Saved}
use Rattle.broker_model.specs.Removal.{IsRemovable, flushed_records, is_any_origin, is_delivered, is_done}
use Rattle.broker_model.specs.Run.{Boot, Move, Steps, SavesOffsets, SavesTopics, SavesBase, Crashes, Goes, RunWith, IsAmong, IsOfBoot, IsOpening, with_saved}
use Rattle.broker_model.specs.Acknowledged.{StandsAt, StandsOrRemoved}
use Rattle.core_laws.specs.Sound.{IsSound, IsSoundBoot, Grows, Keeps}
use Rattle.core_laws.specs.Kept.{IsKept, IsKeptBoot}
use Rattle.core_laws.specs.Halves.{in_family}
use Rattle.core_laws.specs.Delays.{Delivers, IsDeliveryOf, InOrder, front}
use Rattle.core_laws.specs.Removed.{IsSettledBehind, IsDeliveredBehind, WasDelivered}
use Rattle.core_laws.proofs.Bases.{longer_queue, queue_before}
use Rattle.core_laws.proofs.Counts.{any_at, any_found}
use Rattle.core_laws.proofs.Delays.{goes_order}
use Rattle.core_laws.proofs.Families.{places_rise, family_found, family_at, open_unsettled}
use Rattle.core_laws.proofs.Items.{item_slice}
use Rattle.core_laws.proofs.KeptRuns.{goes_kept, step_log, step_saved}
use Rattle.core_laws.proofs.Lists.{get_append, get_take, take_get, drop_get, take_take_less, length_take, within}
use Rattle.core_laws.proofs.Runs.{among_grows, goes_good}
use Rattle.core_laws.proofs.Growth.{grows_keeps}
use Rattle.core_laws.proofs.Steps.{step_good}
use Rattle.core_laws.proofs.Texts.{same_text, text_equal}

-- ---- queue offsets are apart

-- a record is counted by each front of the log that has it
offset_below : (log : Log) (n k : ℕ) (r : Entry) → IsKept log → k < n → slice_get log.records k ≡ Some r
    → r.queue_offset < queue_end log.base (take n log.records) r.topic r.queue
offset_below log n k r kept low at =
    let is : (bytes_eq r.topic r.topic && (r.queue == r.queue)) ≡ true =
    and_from (bytes_eq r.topic r.topic) (r.queue == r.queue) (text_equal r.topic r.topic refl) (eq-eqb r.queue r.queue refl) in
    omega (
      arith,
      (kept.counts k r at).queue_offset,
      queue_before k (take n log.records) r r.topic r.queue (take_get n k log.records r low at) is,
      ap (λ (l : List Entry). length (queue_of l r.topic r.queue)) (take_take_less k n log.records (omega (arith, low))),
    )

-- a record that a front of the log counts stands in it
offset_within : (log : Log) (n k : ℕ) (r : Entry) → IsKept log → slice_get log.records k ≡ Some r
    → r.queue_offset < queue_end log.base (take n log.records) r.topic r.queue → k < n
offset_within log n k r kept at low = elim (cases_lt k n) [
  | inl less ↦ less
  | inr more ↦ absurd (omega (arith, (kept.counts k r at).queue_offset, low, longer_queue n k log.records r.topic r.queue more))
]

same_end : (log : Log) (n : ℕ) (t u : List ℕ) (q p : ℕ) → t ≡ u → q ≡ p → queue_end log.base (take n log.records) t q ≡ queue_end log.base (take n log.records) u p
same_end log n t u q p topics queues =
    ap (λ (a : List ℕ). queue_end log.base (take n log.records) a q) topics ∙ ap (λ (b : ℕ). queue_end log.base (take n log.records) u b) queues

-- one queue offset is of one record
one_offset : (log : Log) (i k : ℕ) (x y : Entry) → IsKept log → slice_get log.records i ≡ Some x → slice_get log.records k ≡ Some y
    → x.topic ≡ y.topic → x.queue ≡ y.queue → x.queue_offset ≡ y.queue_offset → i ≡ k
one_offset log i k x y kept at_i at_k topic queue same = elim (cases_order i k) [
  | inl is ↦ is
  | inr other ↦ absurd (apart other)
]
  where
    apart : (i < k) ⊎ (k < i) → ⊥
    apart (inl low) = omega (arith, offset_below log k i x kept low at_i, (kept.counts k y at_k).queue_offset, same, same_end log k x.topic y.topic x.queue y.queue topic queue)
    apart (inr high) = omega (arith, offset_below log i k y kept high at_k, (kept.counts i x at_i).queue_offset, same, same_end log i x.topic y.topic x.queue y.queue topic queue)

-- ---- the origin stands before what settles it

pub record Origin (o : Entry) (h : ℕ) : Type 0 where
  pub half : is_half o ≡ true
  pub topic : o.topic ≡ half_topic
  pub queue : o.queue ≡ 0
  pub offset : o.queue_offset ≡ h
  pub small : h < 2 ^ 64

pub origin_is : (log : Log) (h k : ℕ) (o : Entry) → IsKept log → slice_get log.records k ≡ Some o → is_origin h o ≡ true → Origin o h
origin_is log h k o kept at is =
    let parts = and_parts (is_half o && is_none (origin_text o)) (o.queue_offset == h) is in
    let half = (and_parts (is_half o) (is_none (origin_text o)) parts.0).0 in
    let offset : o.queue_offset ≡ h = eqb-true o.queue_offset h parts.1 in
    record {
      half = half;
      topic = same_text o.topic half_topic half;
      queue = (kept.halves k o at half).queue;
      offset = offset;
      small = omega (arith, offset, (kept.each k o at).low half);
    }

-- a front of the log that counts more half messages than the origin's queue offset has the origin
origin_within : (log : Log) (h k n : ℕ) (o : Entry) → IsKept log → slice_get log.records k ≡ Some o → Origin o h
    → h < queue_end log.base (take n log.records) half_topic 0 → k < n
origin_within log h k n o kept at is low =
    offset_within log n k o kept at (omega (arith, low, is.offset, same_end log n o.topic half_topic o.queue 0 is.topic is.queue))

-- no half message of the family stands before the origin
family_behind : (log : Log) (h k q : ℕ) (o y : Entry) → IsKept log → slice_get log.records k ≡ Some o → Origin o h
    → slice_get log.records q ≡ Some y → in_family h y ≡ true → k ≤ q
family_behind log h k q o y kept at is y_at family = elim (or_cases (is_origin h y) (is_renewal h y) family) [
  | inl own ↦
      let y_is = origin_is log h q y kept y_at own in
      let same : k ≡ q = one_offset log k q o y kept at y_at (is.topic ∙ sym y_is.topic) (is.queue ∙ sym y_is.queue) (is.offset ∙ sym y_is.offset) in
      omega (arith, same)
  | inr renewal ↦
      let half = (and_parts (is_half y) (is_text _ (origin_text y)) renewal).0 in
      let low : k < q = origin_within log h k q o kept at is ((kept.halves q y y_at half).names h is.small renewal) in
      omega (arith, low)
]

-- what settles the origin, and the half message of the family that it may name
pub record Settler (log : Log) (h k n : ℕ) (x : Entry) : Type 0 where
  pub behind : k < n
  pub why : (names_it h x ≡ true) ⊎ (((is_copy x || is_discard x) ≡ true) × (q : ℕ) × (y : Entry) × (k ≤ q) × (q < n)
      × (slice_get log.records q ≡ Some y) × (in_family h y ≡ true) × (y.offset ≡ x.prepared))

-- a record that names a place before its own stands behind the record there
earlier_place : (log : Log) (q n : ℕ) (y x : Entry) → IsKept log → slice_get log.records q ≡ Some y → slice_get log.records n ≡ Some x → y.offset < x.offset → q < n
earlier_place log q n y x kept y_at x_at low = elim (cases_order q n) [
  | inl same ↦ absurd (omega (arith, low, ap (λ (z : Entry). z.offset) (same_Some y x (sym y_at ∙ (ap (λ (i : ℕ). slice_get log.records i) same ∙ x_at)))))
  | inr other ↦ first other
]
  where
    first : (q < n) ⊎ (n < q) → q < n
    first (inl less) = less
    first (inr more) = absurd (omega (arith, low, places_rise log n q x y kept x_at y_at more))

settler : (log : Log) (h k n : ℕ) (o x : Entry) → IsKept log → slice_get log.records k ≡ Some o → is_origin h o ≡ true → slice_get log.records n ≡ Some x
    → settles log.records h x ≡ true → Settler log h k n x
settler log h k n o x kept at is x_at settled = elim (or_cases (names_it h x || copies_it log.records h x) (discards_it log.records h x) settled) [
  | inl first ↦ elim (or_cases (names_it h x) (copies_it log.records h x) first) [
    | inl op ↦ record { behind = origin_within log h k n o kept at o_is ((kept.counts n x x_at).names h o_is.small op); why = inl op }
    | inr copy ↦ let parts = and_parts (is_copy x) (is_of_family log.records h x.prepared) copy in
        by_family (or_left (is_copy x) (is_discard x) parts.0) parts.1
  ]
  | inr discard ↦ let parts = and_parts (is_discard x) (is_of_family log.records h x.prepared) discard in
      by_family (or_right (is_copy x) (is_discard x) parts.0) parts.1
]
  where
    o_is : Origin o h
    o_is = origin_is log h k o kept at is

    by_family : (is_copy x || is_discard x) ≡ true → is_of_family log.records h x.prepared ≡ true → Settler log h k n x
    by_family kind family =
        let found = family_found log.records h x.prepared family in
        let then = earlier_place log found.0 n found.1 x kept found.2 x_at (omega (arith, found.4, (kept.each n x x_at).prepared kind)) in
        let first = family_behind log h k found.0 o found.1 kept at o_is found.2 found.3 in
        record {
          behind = omega (arith, then, first);
          why = inr (kind, found.0, found.1, first, then, found.2, found.3, found.4);
        }

-- an op record settles its origin, and a copy or a discarded half one of whose family it names
by_op : (log : List Entry) (h : ℕ) (x : Entry) → names_it h x ≡ true → settles log h x ≡ true
by_op log h x op = or_left (names_it h x || copies_it log h x) (discards_it log h x) (or_left (names_it h x) (copies_it log h x) op)

by_family : (log : List Entry) (h : ℕ) (x : Entry) → (is_copy x || is_discard x) ≡ true → is_of_family log h x.prepared ≡ true → settles log h x ≡ true
by_family log h x kind family = elim (or_cases (is_copy x) (is_discard x) kind) [
  | inl copy ↦ or_left (names_it h x || copies_it log h x) (discards_it log h x)
      (or_right (names_it h x) (copies_it log h x) (and_from (is_copy x) (is_of_family log h x.prepared) copy family))
  | inr discard ↦ or_right (names_it h x || copies_it log h x) (discards_it log h x)
      (and_from (is_discard x) (is_of_family log h x.prepared) discard family)
]

-- such a record settles the origin in each log that has these half messages
settler_settles : (log other : Log) (h k n : ℕ) (x : Entry) → Settler log h k n x
    → ((q : ℕ) (y : Entry) → k ≤ q → q < n → slice_get log.records q ≡ Some y → (j : ℕ) × (slice_get other.records j ≡ Some y)) → settles other.records h x ≡ true
settler_settles log other h k n x s back = elim s.why [
  | inl op ↦ by_op other.records h x op
  | inr c ↦
      let there = back c.1 c.2 c.3 c.4 c.5 in
      by_family other.records h x c.0 (family_at other.records h x.prepared there.0 c.2 there.1 c.6 c.7)
]

-- ---- what stays done

-- what stands behind a number that stands, stands
still : (p s : State) (n i : ℕ) (x : Entry) → Keeps p s → n < p.flushed → i ≤ n → s.log.base.records ≤ i → StandsAt p n x → StandsAt s n x
still p s n i x keeps low behind here at = elim (keeps.stays n x low (inr at)) [
  | inl gone ↦ absurd (omega (arith, gone, behind, here))
  | inr there ↦ there
]

pub settled_kept : (p s : State) (h i : ℕ) (o : Entry) → IsKept p.log → Keeps p s → s.log.base.records ≤ i → StandsAt p i o → is_origin h o ≡ true
    → IsSettledBehind p h i → IsSettledBehind s h i
settled_kept p s h i o kept keeps here at is d =
    let settler_is = settler p.log h at.index d.stands.index o d.r kept at.stands is d.stands.stands d.settled in
    record {
      n = d.n;
      r = d.r;
      behind = d.behind;
      flushed = omega (arith, d.flushed, keeps.flushed);
      stands = still p s d.n i d.r keeps d.flushed (omega (arith, d.behind)) here d.stands;
      settled = settler_settles p.log s.log h at.index d.stands.index d.r settler_is (λ q y first then y_at.
          let number : ℕ = p.log.base.records + q in
          let there = still p s number i y keeps (omega (arith, then, d.flushed, d.stands.number)) (omega (arith, first, at.number)) here
          (record { index = q; number = refl; stands = y_at }) in
          (there.index, there.stands));
    }

delivered_kept : (p s : State) (item : Entry) (i : ℕ) → Keeps p s → s.log.base.records ≤ i → IsDeliveredBehind p item i → IsDeliveredBehind s item i
delivered_kept p s item i keeps here d = record {
  n = d.n;
  r = d.r;
  behind = d.behind;
  flushed = omega (arith, d.flushed, keeps.flushed);
  stands = still p s d.n i d.r keeps d.flushed (omega (arith, d.behind)) here d.stands;
  delivers = d.delivers;
}

-- ---- what a base asks for

-- what is in a front that passes, passes
while_first : (p : Entry → Bool) (y : Entry) (xs : List Entry) (k : ℕ) (x : Entry) (b : Bool) → p y ≡ b
    → ((j : ℕ) → j < prefix_len p xs → slice_get xs j ≡ Some x → p x ≡ true)
    → k < cond b (1 + prefix_len p xs) 0 → slice_get (y ∷ xs) k ≡ Some x → p x ≡ true
while_first p y xs zero x true is rest low got = subst (λ (z : Entry). p z ≡ true) (same_Some y x got) is
while_first p y xs (suc k) x true is rest low got = rest k (omega (arith, low)) got
while_first p y xs k x false is rest low got = absurd (omega (arith, low))

while_passes : (p : Entry → Bool) (xs : List Entry) (k : ℕ) (x : Entry) → k < prefix_len p xs → slice_get xs k ≡ Some x → p x ≡ true
while_passes p [] k x low got = absurd (cc)
while_passes p (y ∷ xs) k x low got = while_first p y xs k x (p y) refl (λ j less at. while_passes p xs j x less at) low got

-- a front has no more than it is asked for
front_low : (n : ℕ) (xs : List Entry) → length (take n xs) ≤ n
front_low zero xs = omega arith
front_low (suc n) [] = omega arith
front_low (suc n) (x ∷ xs) = omega (arith, front_low n xs)

-- a record before a base is done by what is on the disk
base_done : (p : State) (base : Base) (i : ℕ) (r : Entry) → IsRemovable p base → StandsAt p i r → i < base.records → is_done (flushed_records p) r ≡ true
base_done p base i r may at low =
    let below : at.index < prefix_len (is_done (flushed_records p)) (flushed_records p) =
    omega (arith, may.done, at.number, low, front_low (prefix_len (is_done (flushed_records p)) (flushed_records p)) (flushed_records p)) in
    let short : i < p.flushed = omega (arith, may.stands, low) in
    while_passes (is_done (flushed_records p)) (flushed_records p) at.index r below
    (take_get (p.flushed - p.log.base.records) at.index p.log.records r (omega (arith, short, at.number)) at.stands)

-- a record that is on the disk stands there
flushed_at : (p : State) (k : ℕ) (x : Entry) → slice_get (flushed_records p) k ≡ Some x → (slice_get p.log.records k ≡ Some x) × (p.log.base.records + k < p.flushed)
flushed_at p k x got =
    let h = get_take (p.flushed - p.log.base.records) k p.log.records x got in
    (h.0, omega (arith, h.1))

-- a family on the disk is one of the log
settles_more : (p : State) (h : ℕ) (x : Entry) → settles (flushed_records p) h x ≡ true → settles p.log.records h x ≡ true
settles_more p h x is = elim (or_cases (names_it h x || copies_it (flushed_records p) h x) (discards_it (flushed_records p) h x) is) [
  | inl first ↦ elim (or_cases (names_it h x) (copies_it (flushed_records p) h x) first) [
    | inl op ↦ by_op p.log.records h x op
    | inr copy ↦ let parts = and_parts (is_copy x) (is_of_family (flushed_records p) h x.prepared) copy in
        by_family p.log.records h x (or_left (is_copy x) (is_discard x) parts.0) (more parts.1)
  ]
  | inr discard ↦ let parts = and_parts (is_discard x) (is_of_family (flushed_records p) h x.prepared) discard in
      by_family p.log.records h x (or_right (is_copy x) (is_discard x) parts.0) (more parts.1)
]
  where
    more : is_of_family (flushed_records p) h x.prepared ≡ true → is_of_family p.log.records h x.prepared ≡ true
    more family =
        let found = family_found (flushed_records p) h x.prepared family in
        family_at p.log.records h x.prepared found.0 found.1 (flushed_at p found.0 found.1 found.2).0 found.3 found.4

either : (a b : Bool) → (not a || b) ≡ true → a ≡ true → b ≡ true
either true true is a_is = refl
either true false is a_is = absurd (cc)
either false b is a_is = absurd (cc)

pub given_settled : (p : State) (base : Base) (h i : ℕ) (o : Entry) → IsKept p.log → IsRemovable p base → i < base.records → StandsAt p i o → is_origin h o ≡ true → IsSettledBehind p h i
given_settled p base h i o kept may low at is =
    let o_is = origin_is p.log h at.index o kept at.stands is in
    let done = base_done p base i o may at low in
    let origin = (and_parts (is_half o && is_none (origin_text o)) (o.queue_offset == h) is).0 in
    let settled = either (is_any_origin o) (is_settled (flushed_records p) o.queue_offset) (and_parts (not (is_any_origin o) || is_settled (flushed_records p) o.queue_offset) _ done).0 origin in
    let found = any_found (settles (flushed_records p) h) (flushed_records p)
    (subst (λ (n : ℕ). is_settled (flushed_records p) n ≡ true) o_is.offset settled) in
    let x_at = flushed_at p found.0 found.1 found.2 in
    let settles_it = settles_more p h found.1 found.3 in
    let s = settler p.log h at.index found.0 o found.1 kept at.stands is x_at.0 settles_it in
    record {
      n = p.log.base.records + found.0;
      r = found.1;
      behind = omega (arith, s.behind, at.number);
      flushed = x_at.1;
      stands = record { index = found.0; number = refl; stands = x_at.0 };
      settled = settles_it;
    }

-- the text is this one
text_is : (text : List ℕ) (o : Option (List ℕ)) → is_text text o ≡ true → o ≡ Some text
text_is text None is = absurd (cc)
text_is text (Some value) is = ap (λ (t : List ℕ). Some t) (same_text value text is)

-- a delivery in order stands behind its message
delivery_behind : (log : Log) (k n : ℕ) (item x : Entry) → IsKept log → InOrder log → slice_get log.records k ≡ Some item → is_delayed item ≡ true
    → slice_get log.records n ≡ Some x → Delivers (item.queue + 1) item.queue_offset x → k < n
delivery_behind log k n item x kept order at is x_at delivers =
    let level = (kept.each k item at).level is in
    let queue : (item.queue + 1) - 1 ≡ item.queue = omega arith in
    let topic : item.topic ≡ level_topic = same_text item.topic level_topic is in
    let o = order n (item.queue + 1) item.queue_offset x x_at (omega arith) (omega (arith, level.0)) level.1 delivers in
    offset_within log n k item kept at (omega (arith, counted queue o.1, same_end log n item.topic level_topic item.queue item.queue topic refl))
  where
    counted : (item.queue + 1) - 1 ≡ item.queue
        → (item.queue_offset < queue_min log level_topic ((item.queue + 1) - 1)) ⊎ ((y : Entry) × (item_at (front log n) level_topic ((item.queue + 1) - 1) item.queue_offset ≡ Some y)
        × IsDeliveryOf (item.queue + 1) item.queue_offset y x) → item.queue_offset < queue_end log.base (take n log.records) level_topic item.queue
    counted queue (inl gone) = omega (arith, gone, ap (λ (q : ℕ). queue_min log level_topic q) queue)
    counted queue (inr there) =
        let h = item_slice (front log n) level_topic item.queue item.queue_offset there.0
        (subst (λ (q : ℕ). item_at (front log n) level_topic q item.queue_offset ≡ Some there.0) queue there.1) in
        omega (arith, h.0, within (queue_of (take n log.records) level_topic item.queue) (item.queue_offset - queue_min log level_topic item.queue) there.0 h.1)

given_delivered : (p : State) (base : Base) (i : ℕ) (item : Entry) → IsKept p.log → InOrder p.log → IsRemovable p base → i < base.records → StandsAt p i item
    → is_delayed item ≡ true → IsDeliveredBehind p item i
given_delivered p base i item kept order may low at is =
    let done = base_done p base i item may at low in
    let delivered = either (is_delayed item) (is_delivered (flushed_records p) item) (and_parts (not (is_any_origin item) || is_settled (flushed_records p) item.queue_offset) _ done).1 is in
    let found = any_found (λ r. is_text (delivery_text (item.queue + 1) item.queue_offset) (value_of (codes "DELAY_FROM") r.props)) (flushed_records p) delivered in
    let x_at = flushed_at p found.0 found.1 found.2 in
    let delivers = text_is (delivery_text (item.queue + 1) item.queue_offset) (value_of (codes "DELAY_FROM") found.1.props) found.3 in
    let less = delivery_behind p.log at.index found.0 item found.1 kept order at.stands is x_at.0 delivers in
    record {
      n = p.log.base.records + found.0;
      r = found.1;
      behind = omega (arith, less, at.number);
      flushed = x_at.1;
      stands = record { index = found.0; number = refl; stands = x_at.0 };
      delivers = delivers;
    }

-- ---- moves

-- what stands below the end of an earlier state stood there
pub back_grows : (p s : State) → Grows p s → (i : ℕ) (o : Entry) → i < count_of p.log → StandsAt s i o → StandsAt p i o
back_grows p s grows i o low at =
    let total : length (take grows.gone (p.log.records ++ grows.more)) ≡ grows.gone = length_take grows.gone (p.log.records ++ grows.more) (omega (arith, grows.low, length-append p.log.records grows.more)) in
    let records : s.log.base.records ≡ p.log.base.records + grows.gone = omega (arith, grows.base.records, total) in
    let there : slice_get (p.log.records ++ grows.more) (grows.gone + at.index) ≡ Some o =
    drop_get grows.gone at.index (p.log.records ++ grows.more) o (subst (λ (l : List Entry). slice_get l at.index ≡ Some o) grows.log at.stands) in
    elim (get_append p.log.records grows.more (grows.gone + at.index) o there) [
      | inl old ↦ record { index = grows.gone + at.index; number = omega (arith, at.number, records); stands = old }
      | inr later ↦ absurd (omega (arith, later.1, at.number, records, low))
    ]

pub saved_within : (s : State) → IsSound s → s.saved.base.records ≤ count_of s.log
saved_within s sound = omega (
  arith,
  sound.saved.records,
  length_take sound.ahead s.log.records (omega (arith, sound.within, sound.dispatched, sound.flushed)),
  sound.within,
  sound.dispatched,
  sound.flushed,
)

at_low : (s : State) (i : ℕ) (o : Entry) → StandsAt s i o → s.log.base.records ≤ i
at_low s i o at = omega (arith, at.number)

-- what is said of each record that the saved base counts
abbrev pub AllDone : (State → ℕ → Entry → Type 0) → State → Type 0
AllDone D s = (i : ℕ) (o : Entry) → i < s.saved.base.records → StandsAt s i o → D s i o

-- a base gives it, and what is on the disk keeps it, in states of some kind
abbrev pub Gives : (State → Type 0) → (State → ℕ → Entry → Type 0) → Type 0
Gives Ok D = (p : State) (base : Base) (i : ℕ) (o : Entry) → Ok p → IsRemovable p base → i < base.records → StandsAt p i o → D p i o

abbrev pub Lasts : (State → Type 0) → (State → ℕ → Entry → Type 0) → Type 0
Lasts Ok D = (p s : State) (i : ℕ) (o : Entry) → Ok p → Keeps p s → s.log.base.records ≤ i → StandsAt p i o → D p i o → D s i o

-- a saving of the files changes no log
saved_keeps : (s t : State) → t.log ≡ s.log → t.flushed ≡ s.flushed → t.dispatched ≡ s.dispatched → Keeps s t
saved_keeps s t log flushed dispatched = record {
  records = omega (arith, ap (λ (l : Log). l.base.records) log);
  flushed = omega (arith, flushed);
  dispatched = omega (arith, dispatched);
  stays = λ n r low at. same n r at;
}
  where
    same : (n : ℕ) (r : Entry) → StandsOrRemoved s n r → StandsOrRemoved t n r
    same n r (inl gone) = inl (omega (arith, gone, ap (λ (l : Log). l.base.records) log))
    same n r (inr there) = inr (record {
      index = there.index;
      number = omega (arith, there.number, ap (λ (l : Log). l.base.records) log);
      stands = subst (λ (l : Log). slice_get l.records there.index ≡ Some r) (sym log) there.stands;
    })

-- another log of the kept files that has no later base
same_done : (Ok : State → Type 0) (D : State → ℕ → Entry → Type 0) (s t : State) → Lasts Ok D → Ok s → t.log ≡ s.log → t.flushed ≡ s.flushed → t.dispatched ≡ s.dispatched
    → t.saved.base ≡ s.saved.base → AllDone D s → AllDone D t
same_done Ok D s t lasts ok log flushed dispatched base done = λ i o low at.
    let back : StandsAt s i o = record {
      index = at.index;
      number = omega (arith, at.number, ap (λ (l : Log). l.base.records) log);
      stands = subst (λ (l : Log). slice_get l.records at.index ≡ Some o) log at.stands;
    } in
    lasts s t i o ok (saved_keeps s t log flushed dispatched) (at_low t i o at) back
    (done i o (omega (arith, low, ap (λ (b : Base). b.records) base)) back)

pub goes_done : (Ok : State → Type 0) (D : State → ℕ → Entry → Type 0) (b : Boot) (move : Move) (c : Boot) → Gives Ok D → Lasts Ok D → IsSoundBoot b
    → ((p : State) → IsOfBoot b p → Ok p) → Goes b move c → AllDone D b.now → AllDone D c.now
goes_done Ok D b (Steps e said) c gives lasts sound ok goes done = λ i o low at.
    let good = step_good b.now c.now e said goes.0 sound.state in
    let saved = (step_saved b.now c.now e said goes.0).1 in
    let less : i < b.now.saved.base.records = omega (arith, low, ap (λ x. x.base.records) saved) in
    let back = back_grows b.now c.now good.1 i o (omega (arith, less, saved_within b.now sound.state)) at in
    lasts b.now c.now i o (ok b.now (inl refl)) (grows_keeps good.1) (at_low c.now i o at) back (done i o less back)
goes_done Ok D b SavesOffsets c gives lasts sound ok goes done = subst (λ (x : Boot). AllDone D x.now) (sym goes.2)
    (same_done Ok D b.now _ lasts (ok b.now (inl refl)) refl refl refl refl done)
goes_done Ok D b SavesTopics c gives lasts sound ok goes done = subst (λ (x : Boot). AllDone D x.now) (sym goes.2)
    (same_done Ok D b.now _ lasts (ok b.now (inl refl)) refl refl refl refl done)
goes_done Ok D b (SavesBase base) c gives lasts sound ok goes done = subst (λ (x : Boot). AllDone D x.now) (sym goes.4)
    (λ i o low at.
    let p : State = goes.0 in
    let grows = among_grows b p sound goes.1 in
    let may : IsRemovable p base = goes.2 in
    let number : base.records ≤ count_of p.log = omega (arith, may.cut.counts.records, length_take may.count p.log.records may.cut.long, may.cut.long) in
    let here : StandsAt b.now i o = record { index = at.index; number = at.number; stands = at.stands } in
    let back = back_grows p b.now grows i o (omega (arith, low, number)) here in
    let of = ok p goes.1 in
    lasts b.now _ i o (ok b.now (inl refl)) (saved_keeps b.now _ refl refl refl) (at_low b.now i o here) here
    (lasts p b.now i o of (grows_keeps grows) (at_low b.now i o here) back (gives p base i o of may low back)))
goes_done Ok D b (Crashes k setup) c gives lasts sound ok goes done = subst (λ (x : Boot). AllDone D x.now) (sym goes.1)
    (λ i o low at. absurd (omega (arith, low, at.number)))

-- ---- runs

-- each origin that the saved base counts is settled
abbrev pub Settled : State → ℕ → Entry → Type 0
Settled s i o = (h : ℕ) → is_origin h o ≡ true → IsSettledBehind s h i

pub settled_gives : Gives (λ p. IsKept p.log) Settled
settled_gives p base i o kept may low at h is = given_settled p base h i o kept may low at is

pub settled_lasts : Lasts (λ p. IsKept p.log) Settled
settled_lasts p s i o kept keeps here at done h is = settled_kept p s h i o kept keeps here at is (done h is)

pub run_settled : (P : Boot → Move → Boot → Type 0) (b : Boot) (moves : List Move) (c : Boot) → IsKeptBoot b → RunWith P b moves c → AllDone Settled b.now → AllDone Settled c.now
run_settled P b [] c kept run done = subst (λ (x : Boot). AllDone Settled x.now) (sym run) done
run_settled P b (move ∷ moves) c kept run done =
    run_settled P run.0 moves c (goes_kept b move run.0 kept run.1) run.3
    (goes_done (λ p. IsKept p.log) Settled b move run.0 settled_gives settled_lasts kept.sound kept.logs run.1 done)

-- each delayed message is delivered
abbrev pub Delivered : State → ℕ → Entry → Type 0
Delivered s i item = is_delayed item ≡ true → IsDeliveredBehind s item i

abbrev pub IsInOrder : State → Type 0
IsInOrder p = IsKept p.log × InOrder p.log

delivered_gives : Gives IsInOrder Delivered
delivered_gives p base i item ok may low at is = given_delivered p base i item ok.0 ok.1 may low at is

delivered_lasts : Lasts IsInOrder Delivered
delivered_lasts p s i item ok keeps here at done is = delivered_kept p s item i keeps here (done is)

-- the logs of all states of a boot are in order
goes_orders : (b : Boot) (move : Move) (c : Boot) → IsKeptBoot b → Goes b move c → ((p : State) → IsOfBoot b p → InOrder p.log) → (p : State) → IsOfBoot c p → InOrder p.log
goes_orders b move c kept goes orders p (inl now) = subst (λ (x : State). InOrder x.log) (sym now) (goes_order b move c kept goes (orders b.now (inl refl)))
goes_orders b move c kept goes orders p (inr past) = elim (before b move c goes p past) [
  | inl last ↦ orders p (inl last)
  | inr earlier ↦ orders p (inr earlier)
]
  where
    before : (b : Boot) (move : Move) (c : Boot) → Goes b move c → (p : State) → IsAmong c.before p → (p ≡ b.now) ⊎ IsAmong b.before p
    before b (Steps e said) c goes p past = subst (λ (l : List State). IsAmong l p) goes.1 past
    before b SavesOffsets c goes p past = subst (λ (x : Boot). IsAmong x.before p) goes.2 past
    before b SavesTopics c goes p past = subst (λ (x : Boot). IsAmong x.before p) goes.2 past
    before b (SavesBase base) c goes p past = subst (λ (x : Boot). IsAmong x.before p) goes.4 past
    before b (Crashes k setup) c goes p past = absurd (subst (λ (x : Boot). IsAmong x.before p) goes.1 past)

pub run_delivered : (P : Boot → Move → Boot → Type 0) (b : Boot) (moves : List Move) (c : Boot) → IsKeptBoot b → ((p : State) → IsOfBoot b p → InOrder p.log)
    → RunWith P b moves c → AllDone Delivered b.now → AllDone Delivered c.now
run_delivered P b [] c kept orders run done = subst (λ (x : Boot). AllDone Delivered x.now) (sym run) done
run_delivered P b (move ∷ moves) c kept orders run done =
    run_delivered P run.0 moves c (goes_kept b move run.0 kept run.1) (goes_orders b move run.0 kept run.1 orders) run.3
    (goes_done IsInOrder Delivered b move run.0 delivered_gives delivered_lasts kept.sound (λ p of. (kept.logs p of, orders p of)) run.1 done)

-- ---- whatever the order

-- some state of the boot had the message, and a record on the disk that delivers it
abbrev pub AllWereDelivered : Boot → Type 0
AllWereDelivered b = (i : ℕ) (item : Entry) → i < b.now.saved.base.records → StandsAt b.now i item → is_delayed item ≡ true → WasDelivered b i item

-- so it is in a longer boot
was_on : (b c : Boot) (i : ℕ) (item : Entry) → ((p : State) → IsOfBoot b p → IsOfBoot c p) → WasDelivered b i item → WasDelivered c i item
was_on b c i item longer was = record { state = was.state; of = longer was.state was.of; stands = was.stands; delivered = was.delivered }

-- after a saving that leaves the base
saved_was : (b : Boot) (saved : Saved) → saved.base ≡ b.now.saved.base → AllWereDelivered b → AllWereDelivered (with_saved b saved)
saved_was b saved base all = λ i item low at is.
    was_on b (with_saved b saved) i item (λ p of. inr of)
    (all i item (omega (arith, low, ap (λ (x : Base). x.records) base)) (record { index = at.index; number = at.number; stands = at.stands }) is)

-- a base that a state of the boot gave
base_was : (b : Boot) (p : State) (base : Base) → IsSoundBoot b → IsOfBoot b p → IsRemovable p base → AllWereDelivered (with_saved b (record b.now.saved { base = base }))
base_was b p base sound of may = λ i item low at is.
    let number : base.records ≤ count_of p.log = omega (arith, may.cut.counts.records, length_take may.count p.log.records may.cut.long, may.cut.long) in
    let here : StandsAt b.now i item = record { index = at.index; number = at.number; stands = at.stands } in
    let back = back_grows p b.now (among_grows b p sound of) i item (omega (arith, low, number)) here in
    let done = base_done p base i item may back low in
    record {
      state = p;
      of = inr of;
      stands = back;
      delivered = either (is_delayed item) (is_delivered (flushed_records p) item)
          (and_parts (not (is_any_origin item) || is_settled (flushed_records p) item.queue_offset) _ done).1 is;
    }

goes_was : (b : Boot) (move : Move) (c : Boot) → IsSoundBoot b → Goes b move c → AllWereDelivered b → AllWereDelivered c
goes_was b (Steps e said) c sound goes all = λ i item low at is.
    let good = step_good b.now c.now e said goes.0 sound.state in
    let less : i < b.now.saved.base.records = omega (arith, low, ap (λ x. x.base.records) (step_saved b.now c.now e said goes.0).1) in
    let back = back_grows b.now c.now good.1 i item (omega (arith, less, saved_within b.now sound.state)) at in
    was_on b c i item (λ p of. inr (subst (λ (l : List State). IsAmong l p) (sym goes.1) of)) (all i item less back is)
goes_was b SavesOffsets c sound goes all = subst AllWereDelivered (sym goes.2) (saved_was b _ refl all)
goes_was b SavesTopics c sound goes all = subst AllWereDelivered (sym goes.2) (saved_was b _ refl all)
goes_was b (SavesBase base) c sound goes all = subst AllWereDelivered (sym goes.4) (base_was b goes.0 base sound goes.1 goes.2)
goes_was b (Crashes k setup) c sound goes all = subst AllWereDelivered (sym goes.1) (λ i item low at is. absurd (omega (arith, low, at.number)))

pub run_was : (P : Boot → Move → Boot → Type 0) (b : Boot) (moves : List Move) (c : Boot) → IsSoundBoot b → RunWith P b moves c → AllWereDelivered b → AllWereDelivered c
run_was P b [] c sound run all = subst AllWereDelivered (sym run) all
run_was P b (move ∷ moves) c sound run all = run_was P run.0 moves c (goes_good b move run.0 sound run.1).0 run.3 (goes_was b move run.0 sound run.1 all)

pub opening_was : (b : Boot) → IsOpening b → AllWereDelivered b
opening_was b opening = λ i item low at is. absurd (omega (arith, low, at.number, ap (λ (x : Base). x.records) opening.base))

-- an opening's base is the log's, so no record of the log stands before it
pub opening_done : (D : State → ℕ → Entry → Type 0) (b : Boot) → IsOpening b → AllDone D b.now
opening_done D b opening = λ i o low at. absurd (omega (arith, low, at.number, ap (λ (x : Base). x.records) opening.base))

pub opening_orders : (b : Boot) → IsOpening b → InOrder b.now.log → (p : State) → IsOfBoot b p → InOrder p.log
opening_orders b opening order p (inl now) = subst (λ (x : State). InOrder x.log) (sym now) order
opening_orders b opening order p (inr past) = absurd (subst (λ (l : List State). IsAmong l p) opening.before past)

-- ---- what a move removes

-- the saved base lies within what is dispatched, and the log begins at it or before
pub saved_numbers : (s : State) → IsSound s → (s.log.base.records ≤ s.saved.base.records) × (s.saved.base.records ≤ s.dispatched) × (s.dispatched ≤ s.flushed)
saved_numbers s sound =
    let records = length_take sound.ahead s.log.records (omega (arith, sound.within, sound.dispatched, sound.flushed)) in
    (omega (arith, sound.saved.records), omega (arith, sound.saved.records, records, sound.within), sound.dispatched)

-- a settled origin isn't open
pub settled_not_open : (s : State) (h i : ℕ) → IsSettledBehind s h i → transaction_state s.log.records h ≡ Open → ⊥
settled_not_open s h i d is =
    let a = any_at (settles s.log.records h) s.log.records d.stands.index d.r d.stands.stands d.settled in
    let e : true ≡ false = sym a ∙ open_unsettled s.log.records h is in cc

-- the log begins where it did, or at the saved base
new_base : (b : Boot) (move : Move) (c : Boot) → Goes b move c → (c.now.log.base ≡ b.now.log.base) ⊎ (c.now.log.base ≡ b.now.saved.base)
new_base b (Steps e said) c goes = elim (step_log b.now c.now e said goes.0) [
  | inl same ↦ inl (ap (λ (l : Log). l.base) same)
  | inr other ↦ elim other [
    | inl grows ↦ inl (ap (λ (l : Log). l.base) grows.log)
    | inr cut ↦ inr (ap (λ (l : Log). l.base) cut.log)
  ]
]
new_base b SavesOffsets c goes = inl (ap (λ (x : Boot). x.now.log.base) goes.2)
new_base b SavesTopics c goes = inl (ap (λ (x : Boot). x.now.log.base) goes.2)
new_base b (SavesBase base) c goes = inl (ap (λ (x : Boot). x.now.log.base) goes.4)
new_base b (Crashes k setup) c goes = inr (ap (λ (x : Boot). x.now.log.base) goes.1)

-- what a move removes was counted by the saved base
pub goes_removes : (b : Boot) (move : Move) (c : Boot) (n : ℕ) (r : Entry) → Goes b move c → StandsAt b.now n r → n < c.now.log.base.records
    → n < b.now.saved.base.records
goes_removes b move c n r goes stands low = elim (new_base b move c goes) [
  | inl same ↦ absurd (omega (arith, low, stands.number, ap (λ (x : Base). x.records) same))
  | inr saved ↦ omega (arith, low, ap (λ (x : Base). x.records) saved)
]
