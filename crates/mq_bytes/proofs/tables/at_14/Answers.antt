use Rattle.std.proofs.Common.{arith}
use Rattle.mq_bytes.proofs.TableLemmas.{table_14}
use Rattle.mq_bytes.proofs.tables.at_14.Goals as goal

pub returns : goal.returns
returns c = table_14 c.args.byte (omega arith)
