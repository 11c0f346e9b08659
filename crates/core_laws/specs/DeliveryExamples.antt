-- A run of a delayed message: `hi` is sent with the delay level 1, flushed, dispatched, and delivered once its time has come.
use Rattle.std.specs.Prelude.{◌++◌, List, [], ◌∷◌, codes}
use Rattle.broker_model.specs.Events
use Rattle.broker_model.specs.Run.{Boot, Move, Crashes, crashed}
use Rattle.broker_model.specs.StepExamples.{sends}
use Rattle.core_laws.specs.Examples.{setup, at_opening, stepped, answered}

-- it is sent with the delay level 1 at 1000, and flushed
abbrev pub sends_delayed : Events.Event
sends_delayed = sends (codes "DELAY" ++ 1 ∷ codes "1")

abbrev pub at_delayed : Boot
at_delayed = stepped at_opening sends_delayed

abbrev pub at_batch : Boot
at_batch = stepped at_delayed Events.Take

abbrev pub at_stored : Boot
at_stored = stepped at_batch (Events.Flushed 1)

-- it is dispatched, and delivered at 2000
abbrev pub at_seen : Boot
at_seen = stepped at_stored (Events.Dispatch 1)

abbrev pub at_delivery : Boot
at_delivery = stepped at_seen (Events.Deliver 2000)

-- the delivery is flushed
abbrev pub at_second_batch : Boot
at_second_batch = stepped at_delivery Events.Take

abbrev pub at_delivered : Boot
at_delivered = stepped at_second_batch (Events.Flushed 1)

-- all of this as moves
abbrev pub until_delivered : List Move
until_delivered = answered at_opening sends_delayed ∷ answered at_delayed Events.Take ∷ answered at_batch (Events.Flushed 1)
    ∷ answered at_stored (Events.Dispatch 1) ∷ answered at_seen (Events.Deliver 2000) ∷ answered at_delivery Events.Take
    ∷ answered at_second_batch (Events.Flushed 1) ∷ []

-- all crashes, and it is to be delivered again
abbrev pub at_crash : Boot
at_crash = record { now = crashed at_delivered.now 2 setup; before = [] }

abbrev pub at_again : Boot
at_again = stepped at_crash (Events.Deliver 5000)

abbrev pub until_again : List Move
until_again = Crashes 2 setup ∷ answered at_crash (Events.Deliver 5000) ∷ []
