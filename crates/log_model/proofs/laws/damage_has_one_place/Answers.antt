use Rattle.log_model.proofs.OneDamage.{damage_once}
use Rattle.log_model.proofs.laws.damage_has_one_place.Goals as goal

pub returns : goal.returns
returns c = damage_once
