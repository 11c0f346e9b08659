use Rattle.mq_bytes.proofs.DecimalLaws.{decimal_value-decimal}
use Rattle.mq_bytes.proofs.laws.decimals_read_back.Goals as goal

pub returns : goal.returns
returns c = decimal_value-decimal
