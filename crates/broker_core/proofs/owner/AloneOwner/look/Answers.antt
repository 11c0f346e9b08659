use Rattle.std.proofs.Common.{refl}
use Rattle.std.proofs.lemmas.Fn.{gave_at}
use Rattle.broker_core.proofs.owner.AloneOwner.look.Goals as goal

pub returns : goal.returns
returns g c = (
  c.make_look.new.self.core,
  record { what = c.make_look.ensures.0; step = c.make_look.ensures.1; seen = refl },
  gave_at g.F.FnOnce c.f.ensures refl,
)
