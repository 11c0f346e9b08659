use Rattle.link_service.proofs.Went.{unread_same, unread_on}
use Rattle.link_service.proofs.linked.Linked.read.Goals as goal

pub loop-init : goal.loop-init
loop-init g c = unread_same _ _

pub loop-preserved : goal.loop-preserved
loop-preserved g c = unread_on _ _ _ _ _ _ c.loop.invariant c.read_once.ensures.went
