-- The queues of a log.
use Rattle.std.specs.Prelude.{◌≡◌, ℕ, ◌+◌, List, map, filter, length, ◌==◌, ◌&&◌}
use Rattle.std.specs.Str.{bytes_eq}
use Rattle.record_codec.specs.declared.draft.Record.{Record}
use Rattle.record_codec.specs.declared.unit.Unit.{Unit}
use Rattle.record_codec.specs.Drafts.{entry_of}
use Rattle.record_codec.specs.Entry.{Entry}
use Rattle.record_codec.specs.Layout.{size, IsRecord}
use Rattle.record_codec.specs.Units.{unit_of}
use Rattle.log_model.specs.Bases.{Base}

-- the records of this queue of the topic, in the order of the log
abbrev pub queue_of : List Entry → List ℕ → ℕ → List Entry
queue_of log topic queue = filter (λ r. bytes_eq r.topic topic && (r.queue == queue)) log

-- how many records of this queue there were, with those before the base: the queue offset of the next one
abbrev pub queue_end : Base → List Entry → List ℕ → ℕ → ℕ
queue_end base log topic queue = base.queues topic queue + length (queue_of log topic queue)

-- the units of this queue, in the order of the log
abbrev pub units_of : List Entry → List ℕ → ℕ → List Unit
units_of log topic queue = map unit_of (queue_of log topic queue)

-- ---- records apart from their bytes

-- what a record says
abbrev pub said_by : Record → Entry
said_by r = entry_of r.draft r.place

-- what the records of a log say, in its order
abbrev pub entries_of : List Record → List Entry
entries_of log = map said_by log

-- a record that has a layout, and tells how many bytes it has
pub record IsStored (r : Record) : Type 0 where
  pub layout : IsRecord (said_by r)
  pub size : r.size ≡ size (said_by r)
