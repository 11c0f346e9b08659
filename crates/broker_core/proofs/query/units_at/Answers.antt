use Rattle.broker_core.proofs.QueryLemmas.{place_at, units_all, units_next}
use Rattle.broker_core.proofs.query.units_at.Goals as goal

pub unit_at-requires : goal.unit_at-requires
unit_at-requires c =
    let it = c.requires in
    let at = place_at c.args.places.now it.1 c.loop-place.place-index _ it.4 c.loop-place-test.true in
    (it.0, at.0, it.2, it.3 c.loop-place.place-index at.0 at.1, at.2)

pub loop-place-preserved : goal.loop-place-preserved
loop-place-preserved c s records are in_log places =
    let i = c.loop-place.place-index in
    let at = place_at c.args.places.now records i _ places c.loop-place-test.true in
    units_next c.loop-place.units.items c.push.new.self.items records i at.0 c.unit_at.result (c.loop-place.invariant s records are in_log places) at.1
    (c.unit_at.ensures s at.0 are (in_log i at.0 at.1) at.2) c.in_ok-push.ensures.items

pub returns : goal.returns
returns c s records are in_log places =
    units_all c.loop-place.units.items c.args.places.now records c.loop-place.place-index places c.loop-place-test.false (c.loop-place.invariant s records are in_log places)
