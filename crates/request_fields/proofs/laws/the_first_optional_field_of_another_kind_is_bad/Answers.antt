use Rattle.request_fields.proofs.FirstFaults.{bad_optional}
use Rattle.request_fields.proofs.laws.the_first_optional_field_of_another_kind_is_bad.Goals as goal

pub returns : goal.returns
returns c = bad_optional
