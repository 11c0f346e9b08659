use Rattle.request_fields.proofs.FoundValues.{value_found}
use Rattle.request_fields.proofs.laws.each_value_is_found_by_its_name.Goals as goal

pub returns : goal.returns
returns c = value_found
