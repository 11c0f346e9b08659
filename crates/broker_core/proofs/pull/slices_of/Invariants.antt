use Rattle.std.proofs.Common.{take}
use Rattle.broker_core.specs.Reads.{AreSlicesAt}
use Rattle.broker_core.proofs.pull.slices_of.Given as goal

-- the first units have their slices
abbrev pub invariant-loop-unit : goal.invariant-loop-unit
invariant-loop-unit l = AreSlicesAt l.stored l.slices.items (take l.unit-index l.units)
