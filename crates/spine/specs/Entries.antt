-- Entries of the history of a broker: events with what was said, nothing where memory ran out.
use Rattle.std.specs.Prelude.{Bool, true, false, Option, Some, None}
use Rattle.broker_events.specs.declared.event.Event.{Event}
use Rattle.broker_events.specs.declared.event.Event.TheVariants.{Request, Take, Flushed, FlushFailed, Look, Dispatch, Deliver, Check, Leave}
use Rattle.broker_events.specs.declared.said.Said.{Said}
use Rattle.broker_events.specs.Steps.{IsAnswerTo, MayTakeMemory}

-- the event begins or ends a flush turn, for which it takes the key
abbrev pub is_keyed : Event → Bool
is_keyed (Request link host now request) = false
is_keyed Take = true
is_keyed (Flushed receipt) = true
is_keyed (FlushFailed count) = true
is_keyed (Look number turn) = false
is_keyed (Dispatch most) = false
is_keyed (Deliver now) = false
is_keyed (Check now) = false
is_keyed (Leave link) = false

-- nothing is said only where memory may run out
abbrev pub Fits : Event → Option Said → Type 0
Fits e None = MayTakeMemory e
Fits e (Some what) = IsAnswerTo e what
