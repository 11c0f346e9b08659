use Rattle.std.proofs.Common.{arith}
use Rattle.remoting_frame.proofs.FaultLaws.{whole_reads}
use Rattle.remoting_frame.proofs.front_reader.past_form.Goals as goal

pub returns-in-Err-Memory : goal.returns-in-Err-Memory
returns-in-Err-Memory c = whole_reads c.args.at c.args.bytes.now c.args.len c.args.form c.args.header_len (omega arith) (omega arith)
