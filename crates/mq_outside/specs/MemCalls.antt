-- The calls of the disk in memory: one buffer with name and piece of each call, one behind the other.
use Rattle.std.specs.Prelude.{ℕ, ◌+◌, List, [], ◌∷◌, take, drop}
use Rattle.mq_outside.specs.Calls.{Event}
use Rattle.mq_outside.specs.declared.mem_calls.Call.{Call}
use Rattle.mq_outside.specs.declared.mem_calls.Kind.{Kind}
use Rattle.mq_outside.specs.declared.mem_calls.Kind.TheVariants.{Write, Cut, Sync, Miss, Renew, Remove}

-- the call of this kind, file name and piece
abbrev pub event_of : Kind → List ℕ → List ℕ → Event
event_of (Write at) name piece = Event.Wrote name at piece
event_of (Cut len) name piece = Event.Cut name len
event_of Sync name piece = Event.Synced name
event_of Miss name piece = Event.Missed name
event_of Renew name piece = Event.Renewed name
event_of Remove name piece = Event.Removed name

-- how many bytes these calls take in the buffer
abbrev pub total : List Call → ℕ
total [] = 0
total (call ∷ calls) = call.name + call.size + total calls

-- the calls of the buffer
abbrev pub events_in : List Call → List ℕ → List Event
events_in [] buffer = []
events_in (call ∷ calls) buffer =
    event_of call.kind (take call.name buffer) (take call.size (drop call.name buffer))
    ∷ events_in calls (drop (call.name + call.size) buffer)
