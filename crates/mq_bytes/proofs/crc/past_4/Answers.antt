use Rattle.mq_bytes.proofs.WordLemmas.{by_bytes}
use Rattle.mq_bytes.proofs.crc.past_4.Goals as goal

pub returns : goal.returns
returns c = rw (c.at_3.ensures, c.at_2.ensures, c.at_1.ensures, c.at_0.ensures) (by_bytes 0 c.args.register)
