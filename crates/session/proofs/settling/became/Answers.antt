use Rattle.std.proofs.Common.{[], ◌∷◌, refl}
use Rattle.session.specs.Owing.{look_for}
use Rattle.session.proofs.SettlingSteps.{became_by}
use Rattle.session.proofs.settling.became.Goals as goal

pub returns-in-Some : goal.returns-in-Some
returns-in-Some g c = record {
  made = look_for c.in-Some.awaits c.look.result ∷ [];
  leads = (c.look.new.calls, c.look.ensures, refl);
  so = became_by c.args.awaits c.in-Some.awaits c.look.result c.in-Some.is;
}
