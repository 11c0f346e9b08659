use Rattle.mq_bytes.proofs.NameLaws.{twenty_digits-injective, log_file-injective}
use Rattle.mq_bytes.proofs.laws.names_are_apart.Goals as goal

pub returns : goal.returns
returns c = record { segments = twenty_digits-injective; files = log_file-injective }
