use Rattle.record_codec.proofs.Records.{parsed_again}
use Rattle.record_codec.proofs.laws.layouts_read_back.Goals as goal

pub returns : goal.returns
returns c = parsed_again
