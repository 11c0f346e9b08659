use Rattle.std.proofs.Common.{rules}
use Rattle.batch_records.proofs.BatchReading.{text_is, no_text}
use Rattle.batch_records.proofs.split.text_in.Goals as goal

pub returns-in_ok-from_str-in-Ok : goal.returns-in_ok-from_str-in-Ok
returns-in_ok-from_str-in-Ok c = search (rules, text_is c.args.bytes.now)

pub returns-in-Err : goal.returns-in-Err
returns-in-Err c = search (rules, no_text c.args.bytes.now)
