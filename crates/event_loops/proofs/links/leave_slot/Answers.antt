use Rattle.link_service.specs.Clocks.{unasked}
use Rattle.event_loops.proofs.Told.{leaves_none, leaves_some}
use Rattle.event_loops.proofs.links.leave_slot.Goals as goal

pub returns-in-None : goal.returns-in-None
returns-in-None g c = record { left = leaves_none (unasked g.C.Calls.makes) _ _ c.in-None.is }

pub returns-in-Some : goal.returns-in-Some
returns-in-Some g c = record {
  left = leaves_some (unasked g.C.Calls.makes) _ _ _ c.in-Some.numbered c.leave.ensures.0 c.in-Some.is (c.leave.ensures.1, tt);
}
