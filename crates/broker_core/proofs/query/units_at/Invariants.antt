-- The first places have their records' units.
use Rattle.std.proofs.Common.{◌≡◌, List, take}
use Rattle.record_codec.specs.Entry.{Entry}
use Rattle.broker_model.specs.State.{State}
use Rattle.core_log.specs.Represents.{Represents}
use Rattle.broker_core.specs.Queries.{AreIn, bare_units, places_of}
use Rattle.broker_core.proofs.query.units_at.Given as goal

abbrev pub invariant-loop-place : goal.invariant-loop-place
invariant-loop-place l = (s : State) (records : List Entry) → Represents l.parts s → AreIn s records → l.places ≡ places_of records → l.units.items ≡ bare_units (take l.place-index records)
