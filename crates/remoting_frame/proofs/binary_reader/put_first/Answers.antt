use Rattle.std.proofs.Common.{sym}
use Rattle.remoting_frame.proofs.BinaryReading.{put_is}
use Rattle.remoting_frame.proofs.binary_reader.put_first.Goals as goal

pub returns-clause-pair : goal.returns-clause-pair
returns-clause-pair c =
    put_is c.args.map.now.entries c.insert.new.self.entries c.args.bytes.now c.in_ok-name.name c.in_ok-value.value c.in-Some.rest.now
    (rw (c.in_ok-name.ensures.ok, c.in_ok-value.ensures.ok) (sym c.in-Some.ensures.pair)) c.in_ok-insert.ensures.entries
