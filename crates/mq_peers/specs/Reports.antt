-- What readiness in memory reports.
use Rattle.std.specs.Prelude.{ℕ, List, map, true, false}
use Rattle.mq_peers.specs.declared.event.Event.{Event}

-- ready both ways, under this token
abbrev pub event_of : ℕ → Event
event_of token = record { token = token; readable = true; writable = true; ended = false }

-- each of these tokens, ready both ways
abbrev pub events_of : List ℕ → List Event
events_of = map event_of
