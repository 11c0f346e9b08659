-- The table of a queue, and the records of the queue that consumers see.
use Rattle.std.proofs.Common.{◌≡◌, ⊎_elim, refl, ap, sym, ◌∙◌, subst, arith, ℕ, suc, ◌+◌, ◌-◌, ◌<◌, ◌≤◌, ◌==◌, ◌&&◌, not, ltb, leb, Bool, true, false, cond, List, [], ◌∷◌, ◌++◌, length, take, drop, map, slice_get, get_or, ℤ, pos, negsuc, int_lt, int_le, Some, None}
use Rattle.std.specs.List.{prefix_len, position_or_len, take_while}
use Rattle.std.specs.List.Sorted.{IsNonDecreasingBy}
use Rattle.std.specs.Str.{bytes_eq}
use Rattle.std.proofs.Math.Nat.{eq-or-lt_of_le}
use Rattle.std.proofs.lemmas.Bool.{and_parts, false_from_ne_true}
use Rattle.std.proofs.lemmas.Bool.Decides.{Decides-eqb, Decides-ltb, leb_tells}
use Rattle.std.proofs.lemmas.List.{length-map, map-append, take-append-drop, get_or-map}
use Rattle.std.proofs.lemmas.List.Elements.{filter-append}
use Rattle.std.proofs.lemmas.List.Folds.{length-prefix_len}
use Rattle.std.proofs.lemmas.List.Kept.{IsNonDecreasingBy-filter}
use Rattle.std.proofs.lemmas.List.Quantifiers.{position-Some}
use Rattle.std.proofs.lemmas.List.Sorted.{IsNonDecreasingBy-take}
use Rattle.std.proofs.lemmas.Option.{get_or_from_slice_get}
use Rattle.std.proofs.lemmas.Slice.Eq.{bytes_eq-Decides}
use Rattle.record_codec.specs.Entry.{Entry}
use Rattle.log_model.specs.Bases.{Base, Geometry, geometry}
use Rattle.log_model.specs.Log.{IsWellFormed}
use Rattle.log_model.specs.Numbered.{queue_min, queue_max, records_of}
use Rattle.log_model.specs.Queues.{queue_of}
use Rattle.pending_log.specs.declared.rows.Row.{Row}
use Rattle.pending_log.specs.Rows.{AreAlike}
use Rattle.queue_view.specs.declared.stored.StoredUnit.{StoredUnit}
use Rattle.queue_view.specs.Tables.{Table, is_of, number_of, max_of}
use Rattle.queue_view.specs.Searches.{store_in, first_from}
use Rattle.queue_view.proofs.Lists.{take_get, some_one}
use Rattle.pending_log.proofs.Lists.{get_there}
use Rattle.broker_model.specs.State.{State, seen}
use Rattle.broker_model.specs.Answers.{offset_at}
use Rattle.core_log.specs.declared.parts.Parts.{Parts}
use Rattle.core_log.specs.Represents.{Represents, AreTabled, IsTableOf, stored_unit}

-- ---- queues

-- the test of a queue's records
abbrev is_in : List ℕ → ℕ → Entry → Bool
is_in topic queue r = bytes_eq r.topic topic && (r.queue == queue)

-- the records of a queue: those of the first n records, and the rest
pub queue_parts : (records : List Entry) (n : ℕ) (topic : List ℕ) (queue : ℕ) → queue_of records topic queue ≡ queue_of (take n records) topic queue ++ queue_of (drop n records) topic queue
queue_parts records n topic queue =
    ap (λ (rs : List Entry). queue_of rs topic queue) (sym (take-append-drop n records)) ∙ filter-append (is_in topic queue) (take n records) (drop n records)

take_front : {A : Type 0} (xs ys : List A) → take (length xs) (xs ++ ys) ≡ xs
take_front [] ys = refl
take_front (x ∷ xs) ys = ap (λ (zs : List _). x ∷ zs) (take_front xs ys)

no_front : {A : Type 0} (xs ys : List A) → xs ++ ys ≡ [] → xs ≡ []
no_front [] ys e = refl
no_front (x ∷ xs) ys e = cc e

-- consumers see the units of the first n records
seen_front : (base : Base) (records : List Entry) (n : ℕ) (t : Table) → IsTableOf base records n t → take t.seen t.units ≡ map stored_unit (queue_of (take n records) t.topic t.queue)
seen_front base records n t is =
    let front = queue_of (take n records) t.topic t.queue in
    let rest = queue_of (drop n records) t.topic t.queue in
    let units : t.units ≡ map stored_unit front ++ map stored_unit rest =
    is.units ∙ ap (λ (rs : List Entry). map stored_unit rs) (queue_parts records n t.topic t.queue) ∙ map-append stored_unit front rest in
    let many : t.seen ≡ length (map stored_unit front) = is.seen ∙ sym (length-map front stored_unit) in
    ap (λ m. take m t.units) many ∙ ap (λ (us : List StoredUnit). take (length (map stored_unit front)) us) units ∙ take_front (map stored_unit front) (map stored_unit rest)

-- a queue without a table has no records
pub none_of : (tables : List Table) (records : List Entry) (rows : List Row) (topic : List ℕ) (queue : ℕ) → AreAlike rows records → AreTabled tables records rows → number_of tables topic queue ≡ None → queue_of records topic queue ≡ []
none_of tables [] rows topic queue alike tabled none = refl
none_of tables (r ∷ records) [] topic queue alike tabled none = absurd alike
none_of tables (r ∷ records) (row ∷ rows) topic queue alike tabled none =
    let head = tabled 0 r row refl refl in
    let off : is_in topic queue r ≡ false = false_from_ne_true (is_in topic queue r) (λ both.
    let parts = and_parts (bytes_eq r.topic topic) (r.queue == queue) both in
    let same_topic = (bytes_eq-Decides r.topic topic).0 parts.0 in
    let same_queue = (Decides-eqb r.queue queue).0 parts.1 in
    let bad : Some row.table ≡ None = sym head ∙ ap (λ (name : List ℕ). number_of tables name r.queue) same_topic ∙ ap (λ m. number_of tables topic m) same_queue ∙ none in
    cc bad) in
    ap (λ b. cond b (r ∷ queue_of records topic queue) (queue_of records topic queue)) off
    ∙ none_of tables records rows topic queue alike.2 (λ k q other at there. tabled (suc k) q other at there) none

-- ---- the table of a queue

-- a table that is found is the queue's
pub number_at : (tables : List Table) (topic : List ℕ) (queue k : ℕ) → number_of tables topic queue ≡ Some k → (t : Table) × (slice_get tables k ≡ Some t) × (t.topic ≡ topic) × (t.queue ≡ queue)
number_at [] topic queue k e = cc e
number_at (x ∷ xs) topic queue k e =
    let found = position-Some (is_of topic queue) (x ∷ xs) k x e in
    let there = get_there (x ∷ xs) k found.0 in
    let t = there.0 in
    let is : is_of topic queue t ≡ true = subst (λ (u : Table). is_of topic queue u ≡ true) (get_or_from_slice_get (x ∷ xs) k t x there.1) found.1 in
    let parts = and_parts (bytes_eq t.topic topic) (t.queue == queue) is in
    (t, there.1, (bytes_eq-Decides t.topic topic).0 parts.0, (Decides-eqb t.queue queue).0 parts.1)

-- the table has the units of what consumers see of the queue
pub record IsSeen (core : Parts) (s : State) (topic : List ℕ) (queue k : ℕ) : Type 0 where
  pub table : Table
  pub at : slice_get core.queues k ≡ Some table
  pub low : table.low ≡ queue_min (seen s) topic queue
  pub units : take table.seen table.units ≡ map stored_unit (records_of (seen s) topic queue)
  pub count : table.seen ≡ length (records_of (seen s) topic queue)

pub found : (core : Parts) (s : State) (topic : List ℕ) (queue k : ℕ) → Represents core s → number_of core.queues topic queue ≡ Some k → IsSeen core s topic queue k
found core s topic queue k are e =
    let there = number_at core.queues topic queue k e in
    let t = there.0 in
    let n = s.dispatched - s.log.base.records in
    let is = are.queues.each k t there.1 in
    let same : (rs : List Entry) → queue_of rs t.topic t.queue ≡ queue_of rs topic queue = λ rs.
    ap (λ (name : List ℕ). queue_of rs name t.queue) there.2 ∙ ap (λ m. queue_of rs topic m) there.3 in
    record {
      table = t;
      at = there.1;
      low = is.low ∙ ap (λ (name : List ℕ). s.log.base.queues name t.queue) there.2 ∙ ap (λ m. s.log.base.queues topic m) there.3;
      units = seen_front s.log.base s.log.records n t is ∙ ap (λ (rs : List Entry). map stored_unit rs) (same (take n s.log.records));
      count = is.seen ∙ ap (λ (rs : List Entry). length rs) (same (take n s.log.records));
    }

-- a queue without a table is empty
pub record IsUnknown (s : State) (topic : List ℕ) (queue : ℕ) : Type 0 where
  pub low : queue_min (seen s) topic queue ≡ 0
  pub records : records_of (seen s) topic queue ≡ []

pub unknown : (core : Parts) (s : State) (topic : List ℕ) (queue : ℕ) → Represents core s → number_of core.queues topic queue ≡ None → IsUnknown s topic queue
unknown core s topic queue are e =
    let n = s.dispatched - s.log.base.records in
    let all = none_of core.queues s.log.records core.rows.items topic queue are.rows.items are.tabled e in
    record {
      low = are.queues.known topic queue e;
      records = no_front (queue_of (take n s.log.records) topic queue) (queue_of (drop n s.log.records) topic queue) (sym (queue_parts s.log.records n topic queue) ∙ all);
    }

-- ---- maxima

pub max_found : (core : Parts) (s : State) (topic : List ℕ) (queue k result : ℕ) → Represents core s → number_of core.queues topic queue ≡ Some k
    → ((t : Table) → slice_get core.queues k ≡ Some t → result ≡ max_of t) → result ≡ queue_max (seen s) topic queue
max_found core s topic queue k result are e told =
    let f = found core s topic queue k are e in
    told f.table f.at ∙ ap (λ m. m + f.table.seen) f.low ∙ ap (λ m. queue_min (seen s) topic queue + m) f.count

pub max_unknown : (core : Parts) (s : State) (topic : List ℕ) (queue : ℕ) → Represents core s → number_of core.queues topic queue ≡ None → 0 ≡ queue_max (seen s) topic queue
max_unknown core s topic queue are e =
    let u = unknown core s topic queue are e in
    sym (ap (λ m. m + length (records_of (seen s) topic queue)) u.low ∙ ap (λ (rs : List Entry). 0 + length rs) u.records)

pub min_found : (core : Parts) (s : State) (topic : List ℕ) (queue k result : ℕ) → Represents core s → number_of core.queues topic queue ≡ Some k
    → ((t : Table) → slice_get core.queues k ≡ Some t → result ≡ t.low) → result ≡ queue_min (seen s) topic queue
min_found core s topic queue k result are e told = let f = found core s topic queue k are e in told f.table f.at ∙ f.low

-- ---- searches

-- store times never fall
log_rises : (S : Geometry) (records : List Entry) → IsWellFormed S records → IsNonDecreasingBy (λ (r : Entry). r.store) records
log_rises S records well i j d low high =
    let there = get_there records j high in
    let before = get_there records i (omega (arith, low, high)) in
    let q = before.0 in
    let r = there.0 in
    let rise : q.store ≤ r.store =
    ⊎_elim (λ (same : i ≡ j). let e : q ≡ r = some_one (sym before.1 ∙ ap (λ m. slice_get records m) same ∙ there.1) in let f : q.store ≡ r.store = ap (λ (x : Entry). x.store) e in omega (arith, f))
    (λ (less : i < j). (well.each j r there.1).store i q (take_get records j i q less before.1))
    (eq-or-lt_of_le low) in
    let a : get_or records i d ≡ q = get_or_from_slice_get records i q d before.1 in
    let b : get_or records j d ≡ r = get_or_from_slice_get records j r d there.1 in
    subst (λ (x : Entry). x.store ≤ (get_or records j d).store) (sym a) (subst (λ (y : Entry). q.store ≤ y.store) (sym b) rise)

-- so do those of units
stored_rises : (rs : List Entry) → IsNonDecreasingBy (λ (r : Entry). r.store) rs → IsNonDecreasingBy store_in (map stored_unit rs)
stored_rises rs is i j d low high =
    let long : length (map stored_unit rs) ≡ length rs = length-map rs stored_unit in
    let within : j < length rs = omega (arith, long, high) in
    let there = get_there rs j within in
    let e = there.0 in
    let a : get_or (map stored_unit rs) i d ≡ stored_unit (get_or rs i e) = get_or-map stored_unit rs i e d (omega (arith, low, within)) in
    let b : get_or (map stored_unit rs) j d ≡ stored_unit (get_or rs j e) = get_or-map stored_unit rs j e d within in
    subst (λ (x : StoredUnit). store_in x ≤ store_in (get_or (map stored_unit rs) j d)) (sym a) (subst (λ (y : StoredUnit). (get_or rs i e).store ≤ store_in y) (sym b) (is i j e low within))

pub rising : (core : Parts) (s : State) (topic : List ℕ) (queue k : ℕ) → Represents core s → number_of core.queues topic queue ≡ Some k
    → (t : Table) → slice_get core.queues k ≡ Some t → IsNonDecreasingBy store_in (take t.seen t.units)
rising core s topic queue k are e t at =
    let f = found core s topic queue k are e in
    let n = s.dispatched - s.log.base.records in
    let same : f.table ≡ t = some_one (sym f.at ∙ at) in
    let records : IsNonDecreasingBy (λ (r : Entry). r.store) (queue_of (take n s.log.records) topic queue) =
    IsNonDecreasingBy-filter (λ (r : Entry). r.store) (is_in topic queue) (take n s.log.records)
    (IsNonDecreasingBy-take (λ (r : Entry). r.store) n s.log.records (log_rises (geometry s.setup.segment s.log.base) s.log.records are.state.log)) in
    subst (λ (u : Table). IsNonDecreasingBy store_in (take u.seen u.units)) same
    (subst (λ (us : List StoredUnit). IsNonDecreasingBy store_in us) (sym f.units) (stored_rises (records_of (seen s) topic queue) records))

not_leb : (t store : ℕ) → not (leb t store) ≡ ltb store t
not_leb t store =
    ⊎_elim (λ (late : (leb t store ≡ true) × (t ≤ store)).
    ap not late.0 ∙ sym (false_from_ne_true (ltb store t) (λ less. let below = (Decides-ltb store t).0 less in let le = late.1 in let none : ⊥ = omega (arith, below, le) in none)))
    (λ (early : (leb t store ≡ false) × (store < t)). ap not early.0 ∙ sym ((Decides-ltb store t).1 early.1))
    (leb_tells t store)

-- a record is earlier than a time where the time isn't at most its store time
earlier : (time : ℤ) (store : ℕ) → not (int_le time (pos store)) ≡ int_lt (pos store) time
earlier (pos t) store = not_leb t store
earlier (negsuc t) store = refl

prefixes : (time : ℤ) (rs : List Entry) → prefix_len (λ x. not (int_le time (pos (store_in x)))) (map stored_unit rs) ≡ prefix_len (λ (r : Entry). int_lt (pos r.store) time) rs
prefixes time [] = refl
prefixes time (r ∷ rs) =
    ap (λ b. cond b (1 + prefix_len (λ x. not (int_le time (pos (store_in x)))) (map stored_unit rs)) 0) (earlier time r.store)
    ∙ ap (λ m. cond (int_lt (pos r.store) time) (1 + m) 0) (prefixes time rs)

pub first_found : (core : Parts) (s : State) (topic : List ℕ) (queue k : ℕ) (time : ℤ) (result : ℕ) → Represents core s → number_of core.queues topic queue ≡ Some k
    → ((t : Table) → slice_get core.queues k ≡ Some t → result ≡ first_from time t) → result ≡ offset_at (seen s) topic queue time
first_found core s topic queue k time result are e told =
    let f = found core s topic queue k are e in
    let rs = records_of (seen s) topic queue in
    told f.table f.at
    ∙ (ap (λ m. m + position_or_len (λ x. int_le time (pos (store_in x))) (take f.table.seen f.table.units)) f.low
    ∙ (ap (λ (us : List StoredUnit). queue_min (seen s) topic queue + position_or_len (λ x. int_le time (pos (store_in x))) us) f.units
    ∙ ap (λ m. queue_min (seen s) topic queue + m) (prefixes time rs ∙ sym (length-prefix_len (λ (r : Entry). int_lt (pos r.store) time) rs))))

pub first_unknown : (core : Parts) (s : State) (topic : List ℕ) (queue : ℕ) (time : ℤ) → Represents core s → number_of core.queues topic queue ≡ None → 0 ≡ offset_at (seen s) topic queue time
first_unknown core s topic queue time are e =
    let u = unknown core s topic queue are e in
    sym (ap (λ m. m + length (take_while (λ (r : Entry). int_lt (pos r.store) time) (records_of (seen s) topic queue))) u.low
    ∙ ap (λ (rs : List Entry). 0 + length (take_while (λ (r : Entry). int_lt (pos r.store) time) rs)) u.records)
