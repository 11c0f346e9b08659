-- Stored offsets that lie within their queues, and where they came from.
use Rattle.std.specs.Prelude.{◌≡◌, ℕ, ◌≤◌, List, [], ◌∷◌, Option, Some, None, Bool, true}
use Rattle.log_model.specs.Numbered.{queue_max}
use Rattle.request_fields.specs.declared.request.Request.{Request}
use Rattle.request_fields.specs.declared.request.Request.TheVariants.{Pull, SetOffset}
use Rattle.broker_model.specs.Tables.{OffsetRow}
use Rattle.broker_model.specs.State.{State, seen}
use Rattle.broker_model.specs.Events
use Rattle.broker_model.specs.Step.{pull_offset, offset_row}
use Rattle.broker_model.specs.Run.{Boot, Move, Steps, SavesOffsets, SavesTopics, SavesBase, Crashes}

-- each row is like this
abbrev pub AllRows : (OffsetRow → Type 0) → List OffsetRow → Type 0
AllRows P [] = Unit {0}
AllRows P (row ∷ rows) = P row × AllRows P rows

-- The row passes the test, and its offset is at most the end of its queue, as consumers see it.
abbrev pub IsAllowed : (OffsetRow → Bool) → State → OffsetRow → Type 0
IsAllowed allowed s row = (allowed row ≡ true) × (row.offset ≤ queue_max (seen s) row.topic row.queue)

-- what a group asks to store of a queue passes the test as it is stored
abbrev pub MayStore : (OffsetRow → Bool) → State → List ℕ → List ℕ → ℕ → Option ℕ → Type 0
MayStore allowed s group topic queue None = Unit {0}
MayStore allowed s group topic queue (Some offset) = allowed (offset_row s group topic queue offset) ≡ true

-- so does what a request stores: an update, or a pull by its commit bit
abbrev pub RequestStores : (OffsetRow → Bool) → State → Request → Type 0
RequestStores allowed s (Pull p) = MayStore allowed s p.group p.topic p.queue (pull_offset p)
RequestStores allowed s (SetOffset q) = MayStore allowed s q.group q.topic q.queue (Some q.offset)
RequestStores allowed s _ = Unit {0}

-- so does what an event stores
abbrev pub EventStores : (OffsetRow → Bool) → State → Events.Event → Type 0
EventStores allowed s (Events.Asks a) = RequestStores allowed s a.request
EventStores allowed s _ = Unit {0}

-- so does what a move stores
abbrev pub StoresOnly : (OffsetRow → Bool) → Boot → Move → Boot → Type 0
StoresOnly allowed b (Steps e said) c = EventStores allowed b.now e
StoresOnly allowed b SavesOffsets c = Unit {0}
StoresOnly allowed b SavesTopics c = Unit {0}
StoresOnly allowed b (SavesBase base) c = Unit {0}
StoresOnly allowed b (Crashes k setup) c = Unit {0}

-- the offset is at most the end of its queue, as consumers see it
abbrev pub IsWithin : State → OffsetRow → Type 0
IsWithin s row = row.offset ≤ queue_max (seen s) row.topic row.queue
