use Rattle.std.proofs.Common.{refl}
use Rattle.link_service.proofs.Went.{unread_none, unread_same, same_bytes}
use Rattle.link_service.proofs.linked.Linked.shut.Goals as goal

pub returns-then-is_some : goal.returns-then-is_some
returns-then-is_some g c = record { went = unread_same _ _ }

pub returns : goal.returns
returns g c = record { went = unread_none _ _ _ refl (λ was. was) (same_bytes _ _ _ c.done.ensures.given) c.done.ensures.taken }
