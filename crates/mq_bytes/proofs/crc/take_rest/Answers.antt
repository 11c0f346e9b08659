use Rattle.mq_bytes.proofs.CrcLemmas.{in_two}
use Rattle.mq_bytes.proofs.crc.take_rest.Goals as goal

pub returns : goal.returns
returns c = rw (c.take_few-2.ensures, c.take_eight.ensures) (in_two c.args.register 8 c.args.bytes.now)
