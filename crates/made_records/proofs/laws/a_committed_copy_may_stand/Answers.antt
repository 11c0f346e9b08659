use Rattle.made_records.proofs.CopyLemmas.{copy_stands, copy_kind}
use Rattle.made_records.proofs.laws.a_committed_copy_may_stand.Goals as goal

pub returns : goal.returns
returns c S halves h host p is may half past = (copy_stands S halves h host p is may half past, copy_kind S halves h host p is may half past)
