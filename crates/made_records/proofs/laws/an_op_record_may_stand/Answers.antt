use Rattle.made_records.proofs.OpLemmas.{op_stands, op_kind}
use Rattle.made_records.proofs.laws.an_op_record_may_stand.Goals as goal

pub returns : goal.returns
returns c S halves now origin host p room time there low = (op_stands S halves now origin host p room time there low, op_kind S halves now origin host p room time there low)
