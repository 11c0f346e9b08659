use Rattle.request_fields.proofs.FirstFaults.{bad_first}
use Rattle.request_fields.proofs.laws.the_first_required_field_of_another_kind_is_bad.Goals as goal

pub returns : goal.returns
returns c = bad_first
