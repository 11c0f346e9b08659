use Rattle.pending_log.proofs.RemovalLemmas.{pending_above}
use Rattle.pending_log.proofs.laws.removal_leaves_what_is_pending.Goals as goal

pub returns : goal.returns
returns c = pending_above
