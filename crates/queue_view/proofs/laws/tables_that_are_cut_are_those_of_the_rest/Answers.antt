use Rattle.queue_view.proofs.RemovalLemmas.{cut_tables}
use Rattle.queue_view.proofs.laws.tables_that_are_cut_are_those_of_the_rest.Goals as goal

pub returns : goal.returns
returns c low later added n k tables are few after = cut_tables low later added n k tables are few after
