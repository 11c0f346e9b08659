use Rattle.request_fields.proofs.FirstFaults.{no_fault}
use Rattle.request_fields.proofs.laws.fields_of_their_kinds_have_no_fault.Goals as goal

pub returns : goal.returns
returns c = no_fault
