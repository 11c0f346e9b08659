use Rattle.link_service.proofs.Went.{unread_same, unread_on}
use Rattle.link_service.proofs.linked.Linked.drain.Goals as goal

pub returns-then-not-has_left : goal.returns-then-not-has_left
returns-then-not-has_left g c = record { went = unread_same _ _ }

pub returns : goal.returns
returns g c = record { went = unread_on _ _ _ _ _ _ c.shut.ensures.went c.read.ensures.went }
