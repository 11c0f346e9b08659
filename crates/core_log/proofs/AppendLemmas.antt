-- The core with more room, and with a record more behind the log.
use Rattle.std.proofs.Common.{◌≡◌, ⊎_elim, refl, ap, sym, ◌∙◌, subst, arith, ℕ, suc, ◌+◌, ◌-◌, ◌^◌, ◌<◌, ◌≤◌, List, [], ◌∷◌, ◌++◌, length, map, slice_get, slice_set, Some, IfSome, Result, Ok, Err, IfOk}
use Rattle.std.proofs.lemmas.List.{take-append-le, length-map}
use Rattle.record_codec.specs.Entry.{Entry}
use Rattle.record_codec.specs.Layout.{IsRecord}
use Rattle.record_codec.specs.Units.{unit_of}
use Rattle.record_codec.specs.declared.unit.Unit.{Unit as QueueUnit}
use Rattle.record_codec.specs.Drafts.{entry_of, draft_size}
use Rattle.record_codec.specs.declared.draft.Draft.{Draft}
use Rattle.record_codec.specs.declared.draft.Place.{Place}
use Rattle.log_model.specs.Log.{end_of}
use Rattle.log_model.specs.Numbered.{count_of, place_end, with_appended}
use Rattle.log_model.proofs.Places.{end_of-append}
use Rattle.broker_model.specs.State.{State}
use Rattle.broker_model.specs.Step.{with_records}
use Rattle.queue_view.specs.Tables.{Table, number_of, with_unit}
use Rattle.queue_view.proofs.NumberedLemmas.{number_of-set, number_within}
use Rattle.queue_view.specs.Added as view
use Rattle.queue_view.specs.Added.{Added, added_to}
use Rattle.pending_log.specs.Parts.{PendingPart, appended}
use Rattle.pending_log.specs.Pending.{IsPendingOf}
use Rattle.pending_log.specs.Looks.{KeepsLast}
use Rattle.pending_log.specs.Tables.{RowTable}
use Rattle.pending_log.specs.Rows.{AreAlike, AreRowsOf}
use Rattle.pending_log.specs.declared.rows.Row.{Row}
use Rattle.pending_log.proofs.LogLemmas.{place_past}
use Rattle.core_log.specs.declared.parts.Parts.{Parts}
use Rattle.half_records.specs.declared.halves.Halves.{Halves}
use Rattle.level_records.specs.declared.levels.Levels.{Levels}
use Rattle.core_log.specs.Represents.{Represents, AreKeptFor, AreOut, AreTabled, AreCovered, HasRoom, turn_of}
use Rattle.key_view.specs.Entries.{KeyTable, key_entries}
use Rattle.core_log.specs.Appends.{HasRoomFor, MayStand, key_count}
use Rattle.core_log.proofs.TableLemmas.{MoreRoom, NewTable, room_made, there_is, as_added, is_its_table, to_view, from_view, map_push, tabled_kept, tabled_push}
use Rattle.core_log.proofs.StateLemmasB.{get_push, count_with, follows, state_with}

-- the parts with other rows and tables, that represent the same
pub represents_roomier : (old : Parts) (rows : RowTable) (queues : List Table) (keys : KeyTable) (s : State) → Represents old s → rows.first ≡ old.rows.first → rows.items ≡ old.rows.items
    → ((topic : List ℕ) (queue k : ℕ) → number_of old.queues topic queue ≡ Some k → number_of queues topic queue ≡ Some k)
    → ((low : List ℕ → ℕ → ℕ) (added : List Added) (n : ℕ) → view.AreTablesOf low added n old.queues → view.AreTablesOf low added n queues)
    → keys.entries ≡ old.keys.entries
    → Represents (record old { rows = rows; queues = queues; keys = keys }) s
represents_roomier old rows queues keys s are first items kept tables entries =
    let n = s.dispatched - s.log.base.records in
    let numbers = are.numbers in
    record {
      state = are.state;
      numbers = record {
        setup = numbers.setup;
        segment = numbers.segment;
        flushed = numbers.flushed;
        dispatched = numbers.dispatched;
        turns = numbers.turns;
        bounded = numbers.bounded;
        now = numbers.now;
        few = numbers.few;
        low = numbers.low;
      };
      pending = are.pending;
      out = are.out;
      failed = are.failed;
      rows = record { first = first ∙ are.rows.first; items = subst (λ (xs : List Row). AreAlike xs s.log.records) (sym items) are.rows.items };
      tabled = subst (λ (xs : List Row). AreTabled queues s.log.records xs) (sym items) (tabled_kept old.queues queues s.log.records old.rows.items kept are.tabled);
      queues = from_view s.log.base s.log.records n queues
          (tables s.log.base.queues (map as_added s.log.records) n (to_view s.log.base s.log.records n old.queues old.rows.items are.rows.items are.tabled are.queues));
      stored = are.stored;
      room = are.room;
      topics = are.topics;
      clients = are.clients;
      offsets = are.offsets;
      locks = are.locks;
      names = are.names;
      kept = are.kept;
      halves = are.halves;
      levels = are.levels;
      keys = entries ∙ are.keys;
    }

-- there is room for one record more of the queue
pub room_for : {E : Type 0} (core : Parts) (old : List Table) (d : Draft) (topic : List ℕ) (queue : ℕ) (result : Result ℕ E) → 0 < core.rows.spare → key_count d ≤ core.keys.spare
    → MoreRoom result old core.queues topic queue → NewTable result old core.queues topic queue → IfOk result (λ k. number_of core.queues topic queue ≡ Some k) → IfOk result (λ k. HasRoomFor core k d)
room_for {E = E} core old d topic queue (Ok k) row keys there absent mine = record { row = row; unit = room_made {E = E} old core.queues topic queue k k (Ok k) refl there absent mine; keys = keys }
room_for core old d topic queue (Err fault) row keys there absent mine = tt

-- what an append does to the tables
pub record HasUnit (old : List Table) (table : ℕ) (r : Entry) (new : List Table) : Type 0 where
  pub t : Table
  pub at : slice_get old table ≡ Some t
  pub spare : ℕ
  pub is : new ≡ slice_set old table (with_unit t (unit_of r) r.store spare)
  pub records : (low : List ℕ → ℕ → ℕ) (added : List Added) (n : ℕ) → view.AreTablesOf low added n old → n ≤ length added
      → view.AreTablesOf low (added ++ added_to t (unit_of r) r.store ∷ []) n new

-- a unit was added to the queue's table
pub has_unit : (old new : List Table) (table : ℕ) (topic : List ℕ) (queue : ℕ) (u : QueueUnit) (r : Entry) → u ≡ unit_of r → number_of old topic queue ≡ Some table
    → ((t : Table) → slice_get old table ≡ Some t → (spare : ℕ) × (t.spare ≤ spare + 1) × (new ≡ slice_set old table (with_unit t u r.store spare)))
    → ((low : List ℕ → ℕ → ℕ) (added : List Added) (n : ℕ) (t : Table) → view.AreTablesOf low added n old → n ≤ length added → slice_get old table ≡ Some t
    → view.AreTablesOf low (added ++ added_to t u r.store ∷ []) n new)
    → HasUnit old table r new
has_unit old new table topic queue u r is mine put records =
    let t = there_is old table (number_within old topic queue table mine) in
    let done = put t.0 t.1 in
    record {
      t = t.0;
      at = t.1;
      spare = done.0;
      is = done.2 ∙ ap (λ (v : QueueUnit). slice_set old table (with_unit t.0 v r.store done.0)) is;
      records = λ low added n are long.
          subst (λ (v : QueueUnit). view.AreTablesOf low (added ++ added_to t.0 v r.store ∷ []) n new) is (records low added n t.0 are long t.1);
    }

pub alike_length : (rows : List Row) (records : List Entry) → AreAlike rows records → length rows ≡ length records
alike_length [] [] alike = refl
alike_length [] (r ∷ records) alike = absurd alike
alike_length (row ∷ rows) [] alike = absurd alike
alike_length (row ∷ rows) (r ∷ records) alike = ap (λ n. suc n) (alike_length rows records alike.2)

-- there are few rows
pub rows_few : (core : Parts) (s : State) → Represents core s → core.rows.first + length core.rows.items < 2 ^ 62
rows_few core s are =
    let long = alike_length core.rows.items s.log.records are.rows.items in
    let first = are.rows.first in
    let few = are.numbers.few in
    let low = are.numbers.low in
    omega (arith, long, first, few, low)

-- the tables stay those of their queues
pub unit_kept : (old new : List Table) (table : ℕ) (r : Entry) → HasUnit old table r new → (topic : List ℕ) (queue k : ℕ) → number_of old topic queue ≡ Some k → number_of new topic queue ≡ Some k
unit_kept old new table r unit topic queue k is =
    ap (λ (ts : List Table). number_of ts topic queue) unit.is ∙ number_of-set old table unit.t (with_unit unit.t (unit_of r) r.store unit.spare) unit.at refl refl topic queue ∙ is

-- the pieces cover what they covered
covered_longer : (old : Parts) (s : State) (r : Entry) → s.flushed ≤ count_of s.log → AreCovered old.stored s.log s.flushed → AreCovered old.stored (with_appended s.log (r ∷ [])) s.flushed
covered_longer old s r within are =
    let n = s.flushed - s.log.base.records in
    let front : n ≤ length s.log.records = omega (arith, within) in
    record {
      each = λ k q low at. are.each k q low (⊎_elim (λ (old_one : slice_get s.log.records k ≡ Some q). old_one)
          (λ (new : (k ≡ length s.log.records) × (q ≡ r)). absurd (let here = new.0 in let none : ⊥ = omega (arith, low, front, here) in none)) (get_push s.log.records r q k at));
      end = subst (λ (rs : List Entry). old.stored.end ≤ end_of s.log.base rs) (sym (take-append-le n s.log.records (r ∷ []) front)) are.end;
    }

-- the parts with a record more
pub represents_appended : (old : Parts) (s : State) (d : Draft) (p : Place) (table : ℕ) (pending : PendingPart) (queues : List Table) (rows : RowTable) (keys : KeyTable) (halves : Halves) (levels : Levels)
    → Represents old s → MayStand s d p → IsRecord (entry_of d p) → number_of old.queues d.topic d.queue ≡ Some table
    → pending ≡ appended old.pending (entry_of d p) → IsPendingOf (with_appended s.log (entry_of d p ∷ [])) pending
    → HasUnit old.queues table (entry_of d p) queues
    → rows.items ≡ old.rows.items ++ record { place = p.offset; size = draft_size d; table = table } ∷ [] → AreRowsOf (with_appended s.log (entry_of d p ∷ [])) rows
    → keys.entries ≡ key_entries (s.log.records ++ entry_of d p ∷ []) → AreKeptFor (with_appended s.log (entry_of d p ∷ [])) s.dispatched halves levels
    → Represents (record old { pending = pending; queues = queues; rows = rows; keys = keys; now = p.store; halves = halves; levels = levels }) (with_records s p.store (entry_of d p ∷ []))
represents_appended old s d p table pending queues rows keys halves levels are may layout mine pending_is is_pending unit items are_rows entries whole =
    let r : Entry = entry_of d p in
    let n = s.dispatched - s.log.base.records in
    let numbers = are.numbers in
    let is = are.state in
    let flushed = is.flushed in
    let dispatched = is.dispatched in
    let more = count_with s.log r in
    let end = end_of-append s.log.base s.log.records r in
    let segment = is.log.segment.low in
    let place = may.next.offset in
    let past = place_past s.setup.segment (place_end s.log) (draft_size d) (omega (arith, segment)) in
    let begins : place_end s.log ≤ r.offset = omega (arith, past, place) in
    let few = numbers.few in
    let low = may.low in
    let its = is_its_table old.queues d.topic d.queue table unit.t mine unit.at in
    let its_record : added_to unit.t (unit_of r) r.store ≡ as_added r =
    ap (λ (name : List ℕ). record { topic = name; queue = unit.t.queue; unit = unit_of r; store = r.store }) its.0
    ∙ ap (λ (q : ℕ). record { topic = r.topic; queue = q; unit = unit_of r; store = r.store }) its.1 in
    let added = map as_added s.log.records in
    let long : n ≤ length added = let same = length-map s.log.records as_added in omega (arith, flushed, dispatched, same) in
    let tables = unit.records s.log.base.queues added n (to_view s.log.base s.log.records n old.queues old.rows.items are.rows.items are.tabled are.queues) long in
    record {
      state = state_with s p.store r is (follows s d p is may layout) begins may.next.store may.next.time (omega arith);
      numbers = record {
        setup = numbers.setup;
        segment = ap (λ (v : PendingPart). v.segment) pending_is ∙ numbers.segment;
        flushed = ap (λ (v : PendingPart). v.flushed) pending_is ∙ numbers.flushed;
        dispatched = numbers.dispatched;
        turns = ap (λ (v : PendingPart). v.turns) pending_is ∙ numbers.turns;
        bounded = numbers.bounded;
        now = refl;
        few = omega (arith, few, more, end, begins);
        low = omega (arith, end, low);
      };
      pending = is_pending;
      out = subst (λ (v : PendingPart). AreOut v.out s.out) (sym pending_is) are.out;
      failed = subst (λ (v : PendingPart). KeepsLast turn_of s.failed v.failed) (sym pending_is) are.failed;
      rows = are_rows;
      tabled = subst (λ (xs : List Row). AreTabled queues (s.log.records ++ r ∷ []) xs) (sym items)
          (tabled_push queues s.log.records old.rows.items r (record { place = p.offset; size = draft_size d; table = table }) are.rows.items
          (tabled_kept old.queues queues s.log.records old.rows.items (unit_kept old.queues queues table r unit) are.tabled)
          (unit_kept old.queues queues table r unit d.topic d.queue table mine));
      queues = from_view s.log.base (s.log.records ++ r ∷ []) n queues
          (subst (λ (rs : List Added). view.AreTablesOf s.log.base.queues rs n queues) (sym (map_push as_added s.log.records r))
          (subst (λ (a : Added). view.AreTablesOf s.log.base.queues (added ++ a ∷ []) n queues) its_record tables));
      stored = covered_longer old s r flushed are.stored;
      room = subst (λ (v : PendingPart). IfSome v.out (λ out. HasRoom old.stored)) (sym pending_is) are.room;
      topics = are.topics;
      clients = are.clients;
      offsets = are.offsets;
      locks = are.locks;
      names = are.names;
      kept = are.kept;
      halves = whole.halves;
      levels = whole.levels;
      keys = entries;
    }
