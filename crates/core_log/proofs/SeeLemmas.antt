-- The tables when consumers see more records, and the parts after a dispatch.
use Rattle.std.proofs.Common.{◌≡◌, refl, ap, sym, ◌∙◌, subst, arith, ℕ, zero, suc, ◌+◌, ◌-◌, ◌^◌, ◌<◌, ◌≤◌, ◌==◌, ◌&&◌, min, Bool, true, false, List, [], ◌∷◌, ◌++◌, length, take, drop, filter, map, get_or, slice_get, slice_set, Some, None, if◌then◌else◌}
use Rattle.std.specs.Str.{bytes_eq}
use Rattle.std.proofs.lemmas.Bool.{and_parts}
use Rattle.std.proofs.lemmas.Bool.Decides.{Decides-eqb}
use Rattle.std.proofs.lemmas.List.{length-map, take-map, take-append-drop, length-append}
use Rattle.std.proofs.lemmas.List.Elements.{filter-append}
use Rattle.std.proofs.lemmas.List.Quantifiers.{position-Some}
use Rattle.std.proofs.lemmas.Option.{get_or_from_slice_get}
use Rattle.std.proofs.lemmas.Slice.Eq.{bytes_eq-Decides}
use Rattle.record_codec.specs.Entry.{Entry}
use Rattle.record_codec.specs.Units.{unit_of}
use Rattle.log_model.specs.Bases.{Base}
use Rattle.log_model.specs.Numbered.{Log}
use Rattle.log_model.specs.Queues.{queue_of}
use Rattle.pending_log.specs.Rows.{AreAlike, AreRowsOf}
use Rattle.pending_log.specs.Tables.{RowTable}
use Rattle.pending_log.specs.declared.rows.Row.{Row}
use Rattle.pending_log.proofs.Lists.{get_there, get_within, some_one}
use Rattle.pending_log.proofs.LogLemmas.{record_of}
use Rattle.pending_log.proofs.TakeLemmas.{rows_end}
use Rattle.queue_view.specs.Added as view
use Rattle.queue_view.specs.Added.{Added, stored_of, is_in, queue_in, IsRecordOf}
use Rattle.queue_view.specs.Tables.{Table, is_of, number_of, with_next_seen}
use Rattle.queue_view.specs.declared.stored.StoredUnit.{StoredUnit}
use Rattle.queue_view.proofs.Lists.{drop_next, map_get}
use Rattle.queue_view.proofs.NumberedLemmas.{number_of-set, number_within}
use Rattle.broker_model.specs.State.{State}
use Rattle.broker_model.specs.Events as events
use Rattle.broker_model.specs.Appended.{is_refused, drafts_of}
use Rattle.broker_model.specs.Answers.{answer_of, carried_out_answer}
use Rattle.broker_model.specs.Step.{after, changed}
use Rattle.level_records.specs.declared.levels.Levels.{Levels}
use Rattle.level_records.specs.OfLog.{HasLevels}
use Rattle.core_log.specs.declared.parts.Parts.{Parts}
use Rattle.core_log.specs.Represents.{Represents, AreTablesOf, AreTabled, stored_unit}
use Rattle.core_log.proofs.StateLemmasTurns.{dispatched_state}

-- ---- the records as the tables see them

abbrev pub added_of : Entry → Added
added_of r = record { topic = r.topic; queue = r.queue; unit = unit_of r; store = r.store }

-- the units of a queue
pub queue_in_is : (records : List Entry) (topic : List ℕ) (queue : ℕ) → queue_in (map added_of records) topic queue ≡ map stored_unit (queue_of records topic queue)
queue_in_is [] topic queue = refl
queue_in_is (r ∷ records) topic queue =
    elim (bytes_eq r.topic topic && (r.queue == queue)) as (λ b. map stored_of (if b then added_of r ∷ filter (is_in topic queue) (map added_of records) else filter (is_in topic queue) (map added_of records))
    ≡ map stored_unit (if b then r ∷ queue_of records topic queue else queue_of records topic queue)) [
      | true ↦ ap (λ (us : List StoredUnit). stored_unit r ∷ us) (queue_in_is records topic queue)
      | false ↦ queue_in_is records topic queue
    ]

-- how many there are among the first n records
seen_in : (records : List Entry) (n : ℕ) (topic : List ℕ) (queue : ℕ) → length (queue_in (take n (map added_of records)) topic queue) ≡ length (queue_of (take n records) topic queue)
seen_in records n topic queue =
    ap length (ap (λ (rs : List Added). queue_in rs topic queue) (take-map added_of n records) ∙ queue_in_is (take n records) topic queue)
    ∙ length-map (queue_of (take n records) topic queue) stored_unit

-- a queue that no record names has none
none_of : (records : List Entry) (topic : List ℕ) (queue : ℕ) → ((k : ℕ) (r : Entry) → slice_get records k ≡ Some r → (bytes_eq r.topic topic && (r.queue == queue)) ≡ true → ⊥) → queue_of records topic queue ≡ []
none_of [] topic queue absent = refl
none_of (r ∷ records) topic queue absent =
    (elim (bytes_eq r.topic topic && (r.queue == queue)) as (λ b. (bytes_eq r.topic topic && (r.queue == queue)) ≡ b → (if b then r ∷ queue_of records topic queue else queue_of records topic queue) ≡ []) [
      | true ↦ λ e. absurd (absent 0 r refl e)
      | false ↦ λ e. none_of records topic queue (λ k q at. absent (suc k) q at)
    ]) refl

-- the row of a record
row_of : (rows : List Row) (records : List Entry) (k : ℕ) (r : Entry) → AreAlike rows records → slice_get records k ≡ Some r → (row : Row) × (slice_get rows k ≡ Some row)
row_of [] [] k r are at = cc at
row_of [] (q ∷ records) k r are at = absurd are
row_of (row ∷ rows) [] k r are at = absurd are
row_of (row ∷ rows) (q ∷ records) zero r are at = (row, refl)
row_of (row ∷ rows) (q ∷ records) (suc k) r are at = row_of rows records k r are.2 at

-- tables of records, as the tables say it
pub as_added : (base : Base) (records : List Entry) (n : ℕ) (tables : List Table) (rows : List Row) → AreAlike rows records → AreTabled tables records rows → AreTablesOf base records n tables
    → view.AreTablesOf base.queues (map added_of records) n tables
as_added base records n tables rows alike tabled are = record {
  each = λ k t at. let is = are.each k t at in record {
    first = is.low;
    units = is.units ∙ sym (queue_in_is records t.topic t.queue);
    seen = is.seen ∙ sym (seen_in records n t.topic t.queue);
  };
  found = are.one;
  none = λ topic queue absent. (
    are.known topic queue absent,
    queue_in_is records topic queue ∙ ap (λ (rs : List Entry). map stored_unit rs) (none_of records topic queue (λ k r at e.
        let row = row_of rows records k r alike at in
        let parts = and_parts (bytes_eq r.topic topic) (r.queue == queue) e in
        let same_topic : r.topic ≡ topic = (bytes_eq-Decides r.topic topic).0 parts.0 in
        let same_queue : r.queue ≡ queue = (Decides-eqb r.queue queue).0 parts.1 in
        let has : number_of tables topic queue ≡ Some row.0.table =
        ap (λ m. number_of tables topic m) (sym same_queue) ∙ (ap (λ (name : List ℕ). number_of tables name r.queue) (sym same_topic) ∙ tabled k r row.0 at row.1) in
        let bad : None ≡ Some row.0.table = sym absent ∙ has in cc bad)),
  );
}

-- and back
pub from_added : (base : Base) (records : List Entry) (n : ℕ) (tables : List Table) → view.AreTablesOf base.queues (map added_of records) n tables → AreTablesOf base records n tables
from_added base records n tables are = record {
  each = λ k t at. let is = are.each k t at in record {
    low = is.first;
    units = is.units ∙ queue_in_is records t.topic t.queue;
    seen = is.seen ∙ seen_in records n t.topic t.queue;
  };
  one = are.found;
  known = λ topic queue absent. (are.none topic queue absent).0;
}

-- ---- one record more is seen

-- the table that a record's row leads to
pub record Leads (tables : List Table) (records : List Entry) (n : ℕ) (row : Row) : Type 0 where
  pub entry : Entry
  pub table : Table
  pub at : slice_get records n ≡ Some entry
  pub there : slice_get tables row.table ≡ Some table
  pub topic : entry.topic ≡ table.topic
  pub queue : entry.queue ≡ table.queue

pub row_leads : (tables : List Table) (records : List Entry) (rows : List Row) (n : ℕ) (row : Row) → AreAlike rows records → AreTabled tables records rows → slice_get rows n ≡ Some row → Leads tables records n row
row_leads tables records rows n row alike tabled at =
    let r = record_of rows records n row alike at in
    let number = tabled n r.0 row r.1 at in
    let t = get_there tables row.table (number_within tables r.0.topic r.0.queue row.table number) in
    let passes = (position-Some (is_of r.0.topic r.0.queue) tables row.table t.0 number).1 in
    let same : get_or tables row.table t.0 ≡ t.0 = get_or_from_slice_get tables row.table t.0 t.0 t.1 in
    let parts = and_parts (bytes_eq t.0.topic r.0.topic) (t.0.queue == r.0.queue) (ap (λ (u : Table). is_of r.0.topic r.0.queue u) (sym same) ∙ passes) in
    record {
      entry = r.0;
      table = t.0;
      at = r.1;
      there = t.1;
      topic = sym ((bytes_eq-Decides t.0.topic r.0.topic).0 parts.0);
      queue = sym ((Decides-eqb t.0.queue r.0.queue).0 parts.1);
    }

-- its table has a unit that isn't seen
pub more_units : (records : List Entry) (n : ℕ) (r : Entry) (topic : List ℕ) (queue : ℕ) → slice_get records n ≡ Some r → r.topic ≡ topic → r.queue ≡ queue
    → length (queue_of (take n records) topic queue) < length (queue_of records topic queue)
more_units records n r topic queue at same_topic same_queue =
    let test : Entry → Bool = λ q. bytes_eq q.topic topic && (q.queue == queue) in
    let yes : test r ≡ true = ap (λ b. b && (r.queue == queue)) ((bytes_eq-Decides r.topic topic).1 same_topic) ∙ (Decides-eqb r.queue queue).1 same_queue in
    let behind : queue_of (drop n records) topic queue ≡ r ∷ queue_of (drop (suc n) records) topic queue =
    ap (λ (rs : List Entry). queue_of rs topic queue) (drop_next records n r at)
    ∙ ap (λ b. if b then r ∷ queue_of (drop (suc n) records) topic queue else queue_of (drop (suc n) records) topic queue) yes in
    let all : queue_of records topic queue ≡ queue_of (take n records) topic queue ++ queue_of (drop n records) topic queue =
    ap (λ (rs : List Entry). queue_of rs topic queue) (sym (take-append-drop n records)) ∙ filter-append test (take n records) (drop n records) in
    let long = ap length all ∙ length-append (queue_of (take n records) topic queue) (queue_of (drop n records) topic queue) in
    let one = ap length behind in
    omega (arith, long, one)

-- the tables and the rows of a log, of which the first n records are seen
abbrev pub AreSeen : Log → RowTable → ℕ → List Table → Type 0
AreSeen log rows n tables = AreTabled tables log.records rows.items × AreTablesOf log.base log.records n tables

pub row_within : (log : Log) (rows : RowTable) (n : ℕ) (row : Row) (tables : List Table) → AreRowsOf log rows → slice_get rows.items n ≡ Some row → AreSeen log rows n tables → row.table < length tables
row_within log rows n row tables of at are =
    let led = row_leads tables log.records rows.items n row of.items are.0 at in get_within tables row.table led.table led.there

pub row_unseen : (log : Log) (rows : RowTable) (n : ℕ) (row : Row) (tables : List Table) → AreRowsOf log rows → slice_get rows.items n ≡ Some row → AreSeen log rows n tables
    → (t : Table) → slice_get tables row.table ≡ Some t → t.seen < length t.units
row_unseen log rows n row tables of at are t there =
    let led = row_leads tables log.records rows.items n row of.items are.0 at in
    let same : led.table ≡ t = some_one (sym led.there ∙ there) in
    let is = are.1.each row.table t there in
    let more = more_units log.records n led.entry t.topic t.queue led.at (led.topic ∙ ap (λ (u : Table). u.topic) same) (led.queue ∙ ap (λ (u : Table). u.queue) same) in
    let units : length t.units ≡ length (queue_of log.records t.topic t.queue) = ap length is.units ∙ length-map (queue_of log.records t.topic t.queue) stored_unit in
    let seen = is.seen in
    omega (arith, more, units, seen)

-- one turn of the loop
pub row_seen : (log : Log) (rows : RowTable) (n : ℕ) (row : Row) (old new : List Table) → AreRowsOf log rows → slice_get rows.items n ≡ Some row
    → ((t : Table) → slice_get old row.table ≡ Some t → new ≡ slice_set old row.table (with_next_seen t))
    → ((low : List ℕ → ℕ → ℕ) (added : List Added) (n : ℕ) (a : Added) (t : Table) → view.AreTablesOf low added n old → slice_get added n ≡ Some a → slice_get old row.table ≡ Some t → IsRecordOf t a → view.AreTablesOf low added (n + 1) new)
    → AreSeen log rows n old → AreSeen log rows (n + 1) new
row_seen log rows n row old new of at changes sees are =
    let led = row_leads old log.records rows.items n row of.items are.0 at in
    let is = changes led.table led.there in
    let before = as_added log.base log.records n old rows.items of.items are.0 are.1 in
    let after = sees log.base.queues (map added_of log.records) n (added_of led.entry) led.table before (map_get added_of log.records n led.entry led.at) led.there
    (record { topic = led.topic; queue = led.queue }) in (
      (λ k r other r_at other_at.
          ap (λ (ts : List Table). number_of ts r.topic r.queue) is ∙ (number_of-set old row.table led.table (with_next_seen led.table) led.there refl refl r.topic r.queue ∙ are.0 k r other r_at other_at)),
      from_added log.base log.records (n + 1) new after,
    )

-- ---- a dispatch

pub after_dispatch : (s : State) (most : ℕ) → after s (events.Dispatch most) ≡ record s { dispatched = min s.flushed (s.dispatched + most) }
unfolding after is_refused drafts_of changed
after_dispatch s most = refl

pub answer_dispatch : (s : State) (most : ℕ) → answer_of s (events.Dispatch most) ≡ events.Moved (min s.flushed (s.dispatched + most))
unfolding answer_of is_refused drafts_of carried_out_answer
answer_dispatch s most = refl

-- what is seen, as the core's own numbers say it
pub seen_now : (old : Parts) (s : State) → Represents old s → AreTablesOf s.log.base s.log.records (old.dispatched - s.log.base.records) old.queues
seen_now old s are = subst (λ n. AreTablesOf s.log.base s.log.records (n - s.log.base.records) old.queues) (sym are.numbers.dispatched) are.queues

pub levels_now : (old : Parts) (s : State) → Represents old s → HasLevels s.log old.dispatched old.levels
levels_now old s are = subst (λ n. HasLevels s.log n old.levels) (sym are.numbers.dispatched) are.levels

-- the numbers up to which more are seen lie in the rows
pub record IsRange (old : Parts) (to : ℕ) : Type 0 where
  pub kept : old.rows.first ≤ old.dispatched
  pub ordered : old.dispatched ≤ to
  pub within : to ≤ old.rows.first + length old.rows.items

pub range_of : (old : Parts) (s : State) (most to : ℕ) → Represents old s → to ≡ min old.pending.flushed (old.dispatched + most) → IsRange old to
range_of old s most to are is =
    let end = rows_end s.log old.rows are.rows in
    let first = are.rows.first in
    let flushed = are.numbers.flushed in
    let dispatched = are.numbers.dispatched in
    let low = are.state.base in
    let mid = are.state.dispatched in
    let high = are.state.flushed in
    record {
      kept = omega (arith, first, dispatched, low);
      ordered = omega (arith, is, flushed, dispatched, mid);
      within = omega (arith, is, end, flushed, high);
    }

represents_dispatched : (old : Parts) (s : State) (to : ℕ) (tables : List Table) (levels : Levels) → HasLevels s.log to levels → Represents old s → s.dispatched ≤ to → to ≤ s.flushed
    → AreTabled tables s.log.records old.rows.items → AreTablesOf s.log.base s.log.records (to - s.log.base.records) tables
    → Represents (record old { queues = tables; dispatched = to; levels = levels }) (record s { dispatched = to })
represents_dispatched old s to tables levels has are more within tabled queues = record {
  state = dispatched_state s to are.state more within;
  numbers = record { setup = are.numbers.setup; segment = are.numbers.segment; flushed = are.numbers.flushed; dispatched = refl; turns = are.numbers.turns; bounded = are.numbers.bounded; now = are.numbers.now; few = are.numbers.few; low = are.numbers.low };
  pending = are.pending;
  out = are.out;
  failed = are.failed;
  rows = are.rows;
  tabled = tabled;
  queues = queues;
  stored = are.stored;
  room = are.room;
  topics = are.topics;
  clients = are.clients;
  offsets = are.offsets;
  locks = are.locks;
  names = are.names;
  kept = are.kept;
  halves = are.halves;
  levels = has;
  keys = are.keys;
}

pub dispatches : (old : Parts) (s : State) (most to : ℕ) (tables : List Table) (levels : Levels) → HasLevels s.log to levels → Represents old s → to ≡ min old.pending.flushed (old.dispatched + most)
    → AreTabled tables s.log.records old.rows.items → AreTablesOf s.log.base s.log.records (to - s.log.base.records) tables
    → (answer_of s (events.Dispatch most) ≡ events.Moved to) × Represents (record old { queues = tables; dispatched = to; levels = levels }) (after s (events.Dispatch most))
dispatches old s most to tables levels has are is tabled queues =
    let flushed = are.numbers.flushed in
    let dispatched = are.numbers.dispatched in
    let mid = are.state.dispatched in
    let same : min s.flushed (s.dispatched + most) ≡ to = omega (arith, is, flushed, dispatched) in (
      answer_dispatch s most ∙ ap (λ n. events.Moved n) same,
      subst (λ (t : State). Represents (record old { queues = tables; dispatched = to; levels = levels }) t) (sym (after_dispatch s most ∙ ap (λ (n : ℕ). record s { dispatched = n }) same))
          (represents_dispatched old s to tables levels has are (omega (arith, is, flushed, dispatched, mid)) (omega (arith, is, flushed)) tabled queues),
    )

-- the number that a dispatch computes, which doesn't overflow
pub to_is : (old : Parts) (s : State) (most sum to : ℕ) → Represents old s → sum ≡ min (old.dispatched + most) (2 ^ 64 - 1) → to ≡ min old.pending.flushed sum → to ≡ min old.pending.flushed (old.dispatched + most)
to_is old s most sum to are saturates is =
    let few = are.numbers.few in
    let low = are.numbers.low in
    let high = are.state.flushed in
    let flushed = are.numbers.flushed in
    omega (arith, saturates, is, few, low, high, flushed)
