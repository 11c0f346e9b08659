use Rattle.std.proofs.Common.{arith}
use Rattle.mq_bytes.proofs.TableLemmas.{table_12}
use Rattle.mq_bytes.proofs.tables.at_12.Goals as goal

pub returns : goal.returns
returns c = table_12 c.args.byte (omega arith)
