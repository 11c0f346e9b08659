-- What the laws of this crate say of every step.
use Rattle.broker_model.specs.Events

-- the event removes records from the front of the log
abbrev pub IsRemoval : Events.Event → Type 0
IsRemoval (Events.Trim base) = Unit {0}
IsRemoval (Events.Asks a) = ⊥
IsRemoval Events.Take = ⊥
IsRemoval (Events.Flushed count) = ⊥
IsRemoval (Events.FlushFailed count) = ⊥
IsRemoval (Events.Look number turn) = ⊥
IsRemoval (Events.Dispatch most) = ⊥
IsRemoval (Events.Deliver now) = ⊥
IsRemoval (Events.Check now) = ⊥
IsRemoval (Events.Leave link) = ⊥
