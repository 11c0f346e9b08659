use Rattle.broker_core.proofs.PullLemmas.{slices_next}
use Rattle.broker_core.proofs.pull.slices_of.Goals as goal

pub loop-unit-preserved : goal.loop-unit-preserved
loop-unit-preserved c =
    slices_next c.args.stored.now c.args.units.now c.loop-unit.slices.items c.push.new.self.items c.loop-unit.unit-index c.in_ok-slice_of.field-0 _ c.loop-unit-test.true c.loop-unit.invariant
    c.in_ok-push.ensures.items c.in_ok-slice_of.ensures
