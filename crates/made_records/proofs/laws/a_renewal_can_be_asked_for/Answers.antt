use Rattle.made_records.proofs.AskLemmas.{half_asked}
use Rattle.made_records.proofs.laws.a_renewal_can_be_asked_for.Goals as goal

pub returns : goal.returns
returns c S n view is may named = half_asked S n view is may named
