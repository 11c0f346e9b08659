use Rattle.mq_bytes.proofs.WordLemmas.{by_bytes}
use Rattle.mq_bytes.proofs.crc.past_8.Goals as goal

pub returns : goal.returns
returns c = rw (c.at_7.ensures, c.at_6.ensures, c.at_5.ensures, c.at_4.ensures) (by_bytes 4 c.args.register)
