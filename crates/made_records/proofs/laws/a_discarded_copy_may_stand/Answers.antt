use Rattle.made_records.proofs.DiscardLemmas.{discard_stands, discard_kind}
use Rattle.made_records.proofs.laws.a_discarded_copy_may_stand.Goals as goal

pub returns : goal.returns
returns c S halves h host p is may half renewal past = (discard_stands S halves h host p is may half renewal past, discard_kind S halves h host p is may half renewal past)
