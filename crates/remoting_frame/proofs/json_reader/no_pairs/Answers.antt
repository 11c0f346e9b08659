use Rattle.remoting_frame.proofs.HeaderReading.{none_in_order}
use Rattle.remoting_frame.proofs.json_reader.no_pairs.Goals as goal

pub returns-clause-ordered : goal.returns-clause-ordered
returns-clause-ordered c = rw c.new.ensures none_in_order
