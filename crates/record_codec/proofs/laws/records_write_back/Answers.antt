use Rattle.record_codec.proofs.Records.{parsed_takes}
use Rattle.record_codec.proofs.laws.records_write_back.Goals as goal

pub returns : goal.returns
returns c = parsed_takes
