use Rattle.made_records.proofs.RenewalLemmas.{renewal_stands, renewal_kind}
use Rattle.made_records.proofs.laws.a_renewal_may_stand.Goals as goal

pub returns : goal.returns
returns c S halves n h host p is may half few there = (renewal_stands S halves n h host p is may half few there, renewal_kind S halves n h host p is may half few there)
