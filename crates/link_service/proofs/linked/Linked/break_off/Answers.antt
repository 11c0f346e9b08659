use Rattle.std.proofs.Common.{refl}
use Rattle.link_service.proofs.Went.{unread_none, same_bytes}
use Rattle.link_service.proofs.linked.Linked.break_off.Goals as goal

pub returns : goal.returns
returns g c = record { broken = refl; went = unread_none _ _ _ refl (λ was. refl) (same_bytes _ _ _ (λ tells. refl)) (λ tells. refl) }
