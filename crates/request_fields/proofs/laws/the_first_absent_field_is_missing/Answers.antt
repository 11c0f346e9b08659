use Rattle.request_fields.proofs.FirstFaults.{missing_first}
use Rattle.request_fields.proofs.laws.the_first_absent_field_is_missing.Goals as goal

pub returns : goal.returns
returns c = missing_first
