use Rattle.mq_bytes.proofs.NameLaws.{length-twenty_digits, twenty_digits-value}
use Rattle.mq_bytes.proofs.laws.names_are_digits.Goals as goal

pub returns : goal.returns
returns c = record { length = length-twenty_digits; own = twenty_digits-value }
