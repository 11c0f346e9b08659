use Rattle.record_codec.proofs.Records.{no_prefix}
use Rattle.record_codec.proofs.laws.layouts_are_apart.Goals as goal

pub returns : goal.returns
returns c = no_prefix
