use Rattle.std.proofs.Common.{lit<}
use Rattle.remoting_frame.proofs.PlainReading.{objects_begin}
use Rattle.remoting_frame.proofs.plain_reader.take_pairs.Goals as goal

pub returns-clause-pairs : goal.returns-clause-pairs
returns-clause-pairs c =
    objects_begin 126 c.pairs_behind.result c.args.scanner.now c.open.new.self c.pairs_behind.new.scanner (lit< tt) c.in_ok-open.ensures c.pairs_behind.ensures.pairs
