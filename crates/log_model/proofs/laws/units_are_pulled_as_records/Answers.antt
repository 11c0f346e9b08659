use Rattle.record_codec.specs.Units.{unit_of}
use Rattle.log_model.proofs.PullLemmas.{pulled_map}
use Rattle.log_model.proofs.laws.units_are_pulled_as_records.Goals as goal

pub returns : goal.returns
returns c low most queue from test = pulled_map unit_of low queue from most test
