use Rattle.mq_bytes.proofs.WordLemmas.{by_bytes}
use Rattle.mq_bytes.proofs.crc.past_16.Goals as goal

pub returns : goal.returns
returns c = rw (c.at_15.ensures, c.at_14.ensures, c.at_13.ensures, c.at_12.ensures) (by_bytes 12 c.args.register)
