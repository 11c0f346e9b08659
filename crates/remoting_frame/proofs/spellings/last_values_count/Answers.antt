use Rattle.remoting_frame.proofs.NameOrder.{by_name_ordered, by_name_values}
use Rattle.remoting_frame.proofs.spellings.last_values_count.Goals as goal

pub returns-clause-ordered : goal.returns-clause-ordered
returns-clause-ordered c = λ pairs. by_name_ordered pairs

pub returns-clause-values : goal.returns-clause-values
returns-clause-values c = λ name pairs. by_name_values name pairs
