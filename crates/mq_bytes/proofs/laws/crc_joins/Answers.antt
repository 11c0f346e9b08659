use Rattle.mq_bytes.proofs.CrcLaws.{crc_more-of}
use Rattle.mq_bytes.proofs.laws.crc_joins.Goals as goal

pub returns : goal.returns
returns c = λ first second fits. crc_more-of first second fits
