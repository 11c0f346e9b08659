use Rattle.log_model.proofs.Makes.{copy_written, renewal_written, discard_written, renewed_discard_written, delivery_written, op_written}
use Rattle.log_model.proofs.laws.what_is_made_of_a_record_can_be_written.Goals as goal

pub returns-clause-copy : goal.returns-clause-copy
returns-clause-copy c = λ S r host is may half. copy_written S r host is may half

pub returns-clause-renewal : goal.returns-clause-renewal
returns-clause-renewal c = λ S r host n is may half low. renewal_written S r host is may n half low

pub returns-clause-discard : goal.returns-clause-discard
returns-clause-discard c = λ S r host is may half renewal. discard_written S r host is may half renewal

pub returns-clause-renewed : goal.returns-clause-renewed
returns-clause-renewed c = λ S r host later n at is may half low. renewed_discard_written S r host is may n later at half low

pub returns-clause-delivery : goal.returns-clause-delivery
returns-clause-delivery c = λ S r host level number is may delayed low small. delivery_written S r host is may level number delayed low small

pub returns-clause-op : goal.returns-clause-op
returns-clause-op c = λ S now origin host room low. op_written S now origin host room low
