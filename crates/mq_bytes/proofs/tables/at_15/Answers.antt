use Rattle.std.proofs.Common.{arith}
use Rattle.mq_bytes.proofs.TableLemmas.{table_15}
use Rattle.mq_bytes.proofs.tables.at_15.Goals as goal

pub returns : goal.returns
returns c = table_15 c.args.byte (omega arith)
