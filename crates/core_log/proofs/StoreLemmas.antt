-- A message that is stored.
use Rattle.std.proofs.Common.{◌≡◌, ⊎_elim, refl, ap, sym, ◌∙◌, subst, arith, ℕ, ◌+◌, ◌-◌, ◌^◌, ◌<◌, ◌≤◌, ◌==◌, ◌&&◌, max, Bool, true, false, List, [], ◌∷◌, length, slice_get, Option, Some, None, All, is_some, Result, Ok, Err, OnOk, OnErr, if◌then◌else◌}
use Rattle.std.specs.Option.{unwrap_or}
use Rattle.std.specs.Str.{bytes_eq}
use Rattle.std.proofs.lemmas.Bool.{cases_Bool}
use Rattle.std.proofs.lemmas.Slice.Eq.{bytes_eq-Decides}
use Rattle.std.proofs.lemmas.List.{length-map}
use Rattle.std.proofs.lemmas.List.Elements.{All-head, All-tail}
use Rattle.record_codec.specs.Entry.{Entry}
use Rattle.record_codec.specs.Layout.{is_legal}
use Rattle.record_codec.specs.Drafts.{entry_of, draft_size, IsEncodable}
use Rattle.record_codec.specs.declared.draft.Draft.{Draft}
use Rattle.record_codec.specs.declared.draft.Place.{Place}
use Rattle.record_codec.proofs.DraftLemmas.{HasNoFault-from, IsEncodable-from}
use Rattle.log_model.specs.Admissible.{is_system_topic, half_topic}
use Rattle.log_model.specs.Log.{place_after}
use Rattle.log_model.specs.Numbered.{count_of, place_end, queue_max, next_record}
use Rattle.log_model.specs.Queues.{queue_of}
use Rattle.broker_model.specs.Tables.{TopicRow, queues_in}
use Rattle.broker_model.specs.State.{State, Setup}
use Rattle.broker_model.specs.Events as model
use Rattle.broker_model.specs.Answers.{append_answer}
use Rattle.broker_model.specs.Step.{with_made}
use Rattle.broker_model.specs.Lawful.{IsTopic}
use Rattle.queue_view.specs.Tables.{Table, number_of, added_of}
use Rattle.queue_view.proofs.NumberedLemmas.{number_within}
use Rattle.queue_view.specs.declared.stored.StoredUnit.{StoredUnit}
use Rattle.client_tables.specs.declared.topics.Topics.{Topics}
use Rattle.client_tables.specs.Counts.{queues_of}
use Rattle.core_log.specs.declared.parts.Parts.{Parts}
use Rattle.core_log.specs.Represents.{Represents, stored_unit, IsNamed}
use Rattle.core_log.specs.Appends.{IsNextPlace, MayStand}
use Rattle.core_log.specs.declared.kind.Kind.{Kind}
use Rattle.core_log.specs.Stands.{IsStorable}
use Rattle.core_log.specs.declared.kind.Kind.{Kind}
use Rattle.broker_events.specs.declared.event.Setup.{Setup as BootSetup}
use Rattle.pending_log.specs.Parts.{PendingPart}
use Rattle.core_log.proofs.TableLemmas.{there_is, is_its_table}
use Rattle.core_log.proofs.AppendLemmas.{alike_length}
use Rattle.core_log.proofs.TopicLemmas.{made_count, represents_made}

-- ---- a topic that is known

coe_found : (row : TopicRow) (rows : List TopicRow) (topic : List ℕ) (n : ℕ) → bytes_eq row.topic topic ≡ true → queues_in (row ∷ rows) topic ≡ Some n → Some row.queues ≡ Some n
coe_found row rows topic n mine found =
    let here : queues_in (row ∷ rows) topic ≡ Some row.queues = rw mine refl in
    sym here ∙ found

rest_found : (row : TopicRow) (rows : List TopicRow) (topic : List ℕ) (n : ℕ) → bytes_eq row.topic topic ≡ false → queues_in (row ∷ rows) topic ≡ Some n → queues_in rows topic ≡ Some n
rest_found row rows topic n another found =
    let here : queues_in (row ∷ rows) topic ≡ queues_in rows topic = rw another refl in
    sym here ∙ found

pub found_topic : (rows : List TopicRow) (topic : List ℕ) (n : ℕ) → All IsTopic rows → queues_in rows topic ≡ Some n → IsTopic (record { topic = topic; queues = n })
found_topic [] topic n all found = cc found
found_topic (row ∷ rows) topic n all found = ⊎_elim
    (λ (mine : bytes_eq row.topic topic ≡ true).
    let is : IsTopic row = All-head IsTopic row rows all in
    let count : Some row.queues ≡ Some n = coe_found row rows topic n mine found in
    let same : row.queues ≡ n = cc count in
    let name : row.topic ≡ topic = (bytes_eq-Decides row.topic topic).0 mine in
    let some = is.some in
    let few = is.few in
    record { some = omega (arith, some, same); few = omega (arith, few, same); plain = subst (λ (t : List ℕ). is_system_topic t ≡ false) name is.plain })
    (λ (another : bytes_eq row.topic topic ≡ false). found_topic rows topic n (All-tail IsTopic row rows all) (rest_found row rows topic n another found))
    (cases_Bool (bytes_eq row.topic topic))

pub found_named : (rows : List TopicRow) (topic : List ℕ) (n : ℕ) → All IsNamed rows → queues_in rows topic ≡ Some n → is_legal topic ≡ true
found_named [] topic n all found = cc found
found_named (row ∷ rows) topic n all found = ⊎_elim
    (λ (mine : bytes_eq row.topic topic ≡ true). subst (λ (t : List ℕ). is_legal t ≡ true) ((bytes_eq-Decides row.topic topic).0 mine) (All-head IsNamed row rows all))
    (λ (another : bytes_eq row.topic topic ≡ false). found_named rows topic n (All-tail IsNamed row rows all) (rest_found row rows topic n another found))
    (cases_Bool (bytes_eq row.topic topic))

-- ---- the place

pub queue_few : (topic : List ℕ) (queue : ℕ) (records : List Entry) → length (queue_of records topic queue) ≤ length records
queue_few topic queue [] = omega arith
queue_few topic queue (r ∷ records) =
    let rest = queue_few topic queue records in
    ⊎_elim (λ (of_it : (bytes_eq r.topic topic && (r.queue == queue)) ≡ true). rw of_it (omega (arith, rest)))
    (λ (other : (bytes_eq r.topic topic && (r.queue == queue)) ≡ false). rw other (omega (arith, rest))) (cases_Bool (bytes_eq r.topic topic && (r.queue == queue)))

-- the next queue offset is low
pub offset_low : (core : Parts) (s : State) (topic : List ℕ) (queue : ℕ) → Represents core s → queue_max s.log topic queue < 2 ^ 62
offset_low core s topic queue are =
    let counted = are.state.log.segment.counted topic queue in
    let few = queue_few topic queue s.log.records in
    let all = are.numbers.few in
    let low = are.numbers.low in
    omega (arith, counted, few, all, low)

-- the next queue offset, as the table tells it
offset_is : (core : Parts) (s : State) (d : Draft) (table : ℕ) (t : Table) → Represents core s → number_of core.queues d.topic d.queue ≡ Some table → slice_get core.queues table ≡ Some t
    → added_of t ≡ queue_max s.log d.topic d.queue
offset_is core s d table t are mine at =
    let is = are.queues.each table t at in
    let long : length t.units ≡ length (queue_of s.log.records t.topic t.queue) = ap (λ (us : List StoredUnit). length us) is.units ∙ length-map (queue_of s.log.records t.topic t.queue) stored_unit in
    let low = is.low in
    let its = is_its_table core.queues d.topic d.queue table t mine at in
    let here : added_of t ≡ queue_max s.log t.topic t.queue = omega (arith, low, long) in
    here ∙ ap (λ (name : List ℕ). queue_max s.log name t.queue) its.0 ∙ ap (λ (q : ℕ). queue_max s.log d.topic q) its.1

-- the place that the parts find is the next one
pub is_next : (core : Parts) (s : State) (d : Draft) (p : Place) (table size now : ℕ) → Represents core s → number_of core.queues d.topic d.queue ≡ Some table
    → ((t : Table) → slice_get core.queues table ≡ Some t → p.queue_offset ≡ added_of t) → p.offset ≡ place_after core.pending.segment core.pending.end size → size ≡ draft_size d
    → p.store ≡ max now core.now → now < 2 ^ 62 → IsNextPlace s d p
is_next core s d p table size now are mine offset place size_is store time =
    let t = there_is core.queues table (number_within core.queues d.topic d.queue table mine) in
    let same = are.numbers.now in
    let before = are.state.time in
    record {
      queue_offset = offset t.0 t.1 ∙ offset_is core s d table t.0 are mine t.1;
      offset = place ∙ ap (λ (n : ℕ). place_after n core.pending.end size) are.numbers.segment ∙ ap (λ (n : ℕ). place_after s.setup.segment n size) are.pending.end
          ∙ ap (λ (n : ℕ). place_after s.setup.segment (place_end s.log) n) size_is;
      store = omega (arith, store, same);
      time = omega (arith, store, same, time, before);
    }

-- a message may stand there
pub may_stand : (s : State) (kind : Kind) (d : Draft) (p : Place) → IsStorable s.setup.segment kind d → IsNextPlace s d p → p.offset + draft_size d ≤ 2 ^ 62 → MayStand s d p
may_stand s kind d p is next low = record {
  next = next;
  room = (HasNoFault-from s.setup.segment d is.passes).fits;
  low = low;
  admissible = is.admissible p;
  names = is.names p (queue_max s.log half_topic 0);
}

-- and can be written
pub can_be_written : (core : Parts) (s : State) (kind : Kind) (d : Draft) (p : Place) → Represents core s → IsStorable s.setup.segment kind d → MayStand s d p → IsEncodable d p
can_be_written core s kind d p are is may =
    let number = offset_low core s d.topic d.queue are in
    let same = may.next.queue_offset in
    let low = may.low in
    IsEncodable-from s.setup.segment d p are.state.log.segment.high is.passes is.born is.prepared (omega (arith, number, same)) (omega (arith, low)) may.next.time is.unsealed

-- its record is the next one
pub is_next_record : (s : State) (d : Draft) (p : Place) (time : ℕ) → IsNextPlace s d p → p.store ≡ time → entry_of d p ≡ next_record s.setup.segment time s.log d
is_next_record s d p time next at =
    ap (λ (n : ℕ). entry_of d (record { queue_offset = n; offset = p.offset; store = p.store })) next.queue_offset
    ∙ ap (λ (n : ℕ). entry_of d (record { queue_offset = queue_max s.log d.topic d.queue; offset = n; store = p.store })) next.offset
    ∙ ap (λ (n : ℕ). entry_of d (record { queue_offset = queue_max s.log d.topic d.queue; offset = place_after s.setup.segment (place_end s.log) (draft_size d); store = n })) at

-- ---- the topic of a stored message

keeps_count : (core : Parts) (topic other : List ℕ) (n : ℕ) → queues_of core.topics topic ≡ Some n → queues_of core.topics other ≡ made_count (bytes_eq topic other) (queues_of core.topics topic) n (queues_of core.topics other)
keeps_count core topic other n known = ⊎_elim
    (λ (same : bytes_eq topic other ≡ true).
    let name : topic ≡ other = (bytes_eq-Decides topic other).0 same in
    let least : n ≡ max n n = omega arith in
    let count : queues_of core.topics other ≡ Some (max (unwrap_or (queues_of core.topics topic) 0) n) =
    ap (λ (t : List ℕ). queues_of core.topics t) (sym name) ∙ known ∙ ap (λ (k : ℕ). Some k) least ∙ ap (λ o. Some (max (unwrap_or o 0) n)) (sym known) in
    count ∙ ap (λ b. made_count b (queues_of core.topics topic) n (queues_of core.topics other)) (sym same))
    (λ (differs : bytes_eq topic other ≡ false). ap (λ b. made_count b (queues_of core.topics topic) n (queues_of core.topics other)) (sym differs))
    (cases_Bool (bytes_eq topic other))

-- a topic that is known is made with as many queues as it has
pub represents_known : (core : Parts) (s : State) (topic : List ℕ) (n : ℕ) → Represents core s → queues_of core.topics topic ≡ Some n → Represents core (with_made s topic n)
represents_known core s topic n are known =
    represents_made core core.topics s topic n are (found_topic s.topics topic n are.state.topics (sym (are.topics topic) ∙ known))
    (found_named s.topics topic n are.names (sym (are.topics topic) ∙ known)) (λ other. keeps_count core topic other n known)

pub stored_known : (core : Parts) (topics : Topics) (s : State) (topic : List ℕ) (o : Option ℕ) (made : ℕ) → is_some o ≡ true → o ≡ queues_of topics topic → core.topics ≡ topics → Represents core s
    → Represents core (with_made s topic (unwrap_or o made))
stored_known core topics s topic None made some known same are = cc some
stored_known core topics s topic (Some n) made some known same are = represents_known core s topic n are (ap (λ (t : Topics). queues_of t topic) same ∙ sym known)

pub none_made : (o : Option ℕ) (made : ℕ) → is_some o ≡ false → made ≡ unwrap_or o made
none_made None made none = refl
none_made (Some n) made none = cc none

pub on_err : {A E P : Type 0} (r : Result A E) → P → OnErr r P
on_err (Ok a) p = tt
on_err (Err e) p = p

pub on_ok : {A E P Q : Type 0} (r : Result A E) → OnOk r P → (P → Q) → OnOk r Q
on_ok (Ok a) p f = f p
on_ok (Err e) p f = tt

pub err_then : {A E P Q : Type 0} (r : Result A E) → OnErr r P → (P → Q) → OnErr r Q
err_then (Ok a) p f = tt
err_then (Err e) p f = f p

-- the reply waits for the last of the records with the next numbers
pub waits_for : (core : Parts) (s : State) (awaited : Bool) (told : model.Reply) (added end turn : ℕ) → Represents core s → core.setup.sync ≡ true → awaited ≡ true → 1 ≤ added → end ≡ core.rows.first + length core.rows.items → turn ≡ core.pending.turns
    → append_answer s awaited told added ≡ model.After told (end + (added - 1)) turn
waits_for core s awaited told added end turn are sync wait some end_is turn_is =
    let long = alike_length core.rows.items s.log.records are.rows.items in
    let first = are.rows.first in
    let same_sync : s.setup.sync ≡ true = ap (λ (x : Setup). x.sync) (sym are.numbers.setup) ∙ sync in
    let last : count_of s.log + added - 1 ≡ end + (added - 1) = omega (arith, end_is, long, first, some) in
    let turns : s.turns ≡ turn = sym are.numbers.turns ∙ sym turn_is in
    ap (λ (b : Bool). if b && awaited then model.After told (count_of s.log + added - 1) s.turns else model.Replies told) same_sync
    ∙ ap (λ (b : Bool). if b then model.After told (count_of s.log + added - 1) s.turns else model.Replies told) wait
    ∙ ap (λ (n : ℕ). model.After told n s.turns) last ∙ ap (λ (t : ℕ). model.After told (end + (added - 1)) t) turns

-- ---- what the parts find for a record

-- all that a place owes, where the parts found it
pub found_place : (old core : Parts) (s : State) (kind : Kind) (d : Draft) (p : Place) (table size now : ℕ) → Represents core s → core.setup ≡ old.setup → core.pending ≡ old.pending → core.now ≡ old.now → IsStorable old.setup.segment kind d
    → number_of core.queues d.topic d.queue ≡ Some table → ((t : Table) → slice_get core.queues table ≡ Some t → p.queue_offset ≡ added_of t) → p.offset ≡ place_after core.pending.segment core.pending.end size
    → p.store ≡ max now core.now → size ≡ draft_size d → place_after old.pending.segment old.pending.end size + size ≤ 2 ^ 62 → now < 2 ^ 62 → (IsEncodable d p) × MayStand s d p × (p.store ≡ max now s.now)
found_place old core s kind d p table size now are setup pending clock storable mine offset place store size_is low time =
    let segment : old.setup.segment ≡ s.setup.segment = ap (λ (x : BootSetup). x.segment) (sym setup) ∙ ap (λ (x : Setup). x.segment) are.numbers.setup in
    let here_too = subst (λ (n : ℕ). IsStorable n kind d) segment storable in
    let next = is_next core s d p table size now are mine offset place size_is store time in
    let here : p.offset ≡ place_after old.pending.segment old.pending.end size = place ∙ ap (λ (x : PendingPart). place_after x.segment x.end size) pending in
    let may = may_stand s kind d p here_too next (omega (arith, low, here, size_is)) in
    let same = are.numbers.now in
    (can_be_written core s kind d p are here_too may, may, omega (arith, store, same))
