-- Which state the parts of a core represent. Each part has a field, so that an event touches two or three of them.
use Rattle.std.specs.Prelude.{◌≡◌, ℕ, ◌-◌, ◌*◌, ◌^◌, ◌<◌, ◌≤◌, List, length, take, map, slice_get, vec_len, vec_capacity, true, All}
use Rattle.std.specs.Prelude.{Option, Some, None, IfSome}
use Rattle.mq_outside.specs.Covers.{HasRange, HoldsRange}
use Rattle.mq_outside.specs.declared.frozen_ranges.FrozenRanges.{FrozenRanges}
use Rattle.record_codec.specs.Entry.{Entry}
use Rattle.record_codec.specs.Layout.{size, layout, is_legal}
use Rattle.record_codec.specs.Units.{unit_of}
use Rattle.log_model.specs.Bases.{Base}
use Rattle.log_model.specs.Numbered.{Log, count_of, place_end, below}
use Rattle.log_model.specs.Queues.{queue_of}
use Rattle.broker_model.specs.State as model
use Rattle.broker_model.specs.State.{State}
use Rattle.broker_model.specs.Tables.{TopicRow, queues_in}
use Rattle.broker_model.specs.Lawful.{IsState}
use Rattle.broker_events.specs.declared.event.Setup.{Setup}
use Rattle.queue_view.specs.Tables.{Table, number_of}
use Rattle.queue_view.specs.declared.stored.StoredUnit.{StoredUnit}
use Rattle.pending_log.specs.Pending.{IsPendingOf}
use Rattle.pending_log.specs.Rows.{AreRowsOf}
use Rattle.pending_log.specs.Looks.{Turn, KeepsLast}
use Rattle.pending_log.specs.declared.turn.Out.{Out}
use Rattle.pending_log.specs.declared.rows.Row.{Row}
use Rattle.client_tables.specs.Counts.{queues_of}
use Rattle.client_tables.specs.Held.{HasClients}
use Rattle.group_tables.specs.Held.{HasLocks}
use Rattle.group_tables.specs.Offsets.{HasOffsets, IsOffset}
use Rattle.half_records.specs.declared.halves.Halves.{Halves}
use Rattle.half_records.specs.OfLog.{HasHalves}
use Rattle.key_view.specs.Entries.{key_entries}
use Rattle.level_records.specs.declared.levels.Levels.{Levels}
use Rattle.level_records.specs.OfLog.{HasLevels}
use Rattle.core_log.specs.declared.parts.Parts.{Parts}

-- ---- numbers

-- the setup as the model has it
abbrev pub setup_of : Setup → model.Setup
setup_of setup = record { segment = setup.segment; host = setup.host; sync = setup.sync }

-- The numbers are the state's. A record has 91 bytes and more, so all of them stay far below what 64 bits can say.
pub record HasNumbers (core : Parts) (s : State) : Type 0 where
  pub setup : setup_of core.setup ≡ s.setup
  pub segment : core.pending.segment ≡ s.setup.segment
  pub flushed : core.pending.flushed ≡ s.flushed
  pub dispatched : core.dispatched ≡ s.dispatched
  pub turns : core.pending.turns ≡ s.turns
  pub bounded : s.turns < 2 ^ 64
  pub now : core.now ≡ s.now
  pub few : 91 * count_of s.log ≤ place_end s.log
  pub low : place_end s.log ≤ 2 ^ 62

-- ---- flush turns

-- the turn that is out writes and holds up what the state says, or neither is out
abbrev pub AreOut : Option Out → Option model.Out → Type 0
AreOut None None = Unit {0}
AreOut None (Some out) = ⊥
AreOut (Some turn) None = ⊥
AreOut (Some turn) (Some out) = (turn.batch.count ≡ out.count) × (turn.held ≡ out.held)

-- a failed turn as the pending part keeps it
abbrev pub turn_of : model.FailedTurn → Turn
turn_of f = record { turn = f.turn; from = f.from; held = f.held; count = f.count }

-- ---- what is on the disk

-- the pieces have the record's range, and where they hold bytes there they are the record's
pub record IsCovered (stored : FrozenRanges) (r : Entry) : Type 0 where
  pub range : HasRange stored.pieces.items r.offset (size r)
  pub held : HoldsRange stored.pieces.items r.offset (layout r)

-- each of the first n records is covered, and the pieces end where these records end, or before
pub record AreCovered (stored : FrozenRanges) (log : Log) (flushed : ℕ) : Type 0 where
  pub each : (k : ℕ) (r : Entry) → k < flushed - log.base.records → slice_get log.records k ≡ Some r → IsCovered stored r
  pub end : stored.end ≤ place_end (below log flushed)

-- there is room for one more piece
abbrev pub HasRoom : FrozenRanges → Type 0
HasRoom stored = vec_len stored.pieces < vec_capacity stored.pieces

-- ---- queues

-- what a table keeps of a record
abbrev pub stored_unit : Entry → StoredUnit
stored_unit r = record { unit = unit_of r; store = r.store }

-- the table has the units of its queue's records, of which consumers see those of the first n
pub record IsTableOf (base : Base) (records : List Entry) (n : ℕ) (t : Table) : Type 0 where
  pub low : t.low ≡ base.queues t.topic t.queue
  pub units : t.units ≡ map stored_unit (queue_of records t.topic t.queue)
  pub seen : t.seen ≡ length (queue_of (take n records) t.topic t.queue)

-- each table is the one of its queue, and a queue without a table has lost no records
pub record AreTablesOf (base : Base) (records : List Entry) (n : ℕ) (tables : List Table) : Type 0 where
  pub each : (k : ℕ) (t : Table) → slice_get tables k ≡ Some t → IsTableOf base records n t
  pub one : (k : ℕ) (t : Table) → slice_get tables k ≡ Some t → number_of tables t.topic t.queue ≡ Some k
  pub known : (topic : List ℕ) (queue : ℕ) → number_of tables topic queue ≡ None → base.queues topic queue ≡ 0

-- each record's row has the number of the table of its queue
abbrev pub AreTabled : List Table → List Entry → List Row → Type 0
AreTabled tables records rows =
    (k : ℕ) (r : Entry) (row : Row) → slice_get records k ≡ Some r → slice_get rows k ≡ Some row
    → number_of tables r.topic r.queue ≡ Some row.table

-- ---- topics

-- the topic has a legal name
abbrev pub IsNamed : TopicRow → Type 0
IsNamed row = is_legal row.topic ≡ true

-- ---- what is kept whole

-- the half messages are those of the log, and the delayed ones those of the log with its first d records dispatched
pub record AreKeptFor (log : Log) (d : ℕ) (own : Halves) (lines : Levels) : Type 0 where
  pub halves : HasHalves log own
  pub levels : HasLevels log d lines

-- ---- all of it

-- the parts represent the state, whose topics and stored offsets can be kept in files
pub record Represents (core : Parts) (s : State) : Type 0 where
  pub state : IsState s
  pub numbers : HasNumbers core s
  pub pending : IsPendingOf s.log core.pending
  pub out : AreOut core.pending.out s.out
  pub failed : KeepsLast turn_of s.failed core.pending.failed
  pub rows : AreRowsOf s.log core.rows
  pub tabled : AreTabled core.queues s.log.records core.rows.items
  pub queues : AreTablesOf s.log.base s.log.records (s.dispatched - s.log.base.records) core.queues
  pub stored : AreCovered core.stored s.log s.flushed
  pub room : IfSome core.pending.out (λ out. HasRoom core.stored)
  pub topics : (topic : List ℕ) → queues_of core.topics topic ≡ queues_in s.topics topic
  pub clients : HasClients core.clients s.clients
  pub offsets : HasOffsets core.groups s.offsets
  pub locks : HasLocks core.groups s.locks
  pub names : All IsNamed s.topics
  pub kept : All IsOffset s.offsets
  pub halves : HasHalves s.log core.halves
  pub levels : HasLevels s.log s.dispatched core.levels
  pub keys : core.keys.entries ≡ key_entries s.log.records
