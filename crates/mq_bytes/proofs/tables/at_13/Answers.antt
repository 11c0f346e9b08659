use Rattle.std.proofs.Common.{arith}
use Rattle.mq_bytes.proofs.TableLemmas.{table_13}
use Rattle.mq_bytes.proofs.tables.at_13.Goals as goal

pub returns : goal.returns
returns c = table_13 c.args.byte (omega arith)
