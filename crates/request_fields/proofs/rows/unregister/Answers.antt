use Rattle.std.proofs.Common.{rules, refl}
use Rattle.request_fields.specs.Rows.{unregister_row}
use Rattle.request_fields.specs.Reading.{unregister_said}
use Rattle.request_fields.proofs.Later.{told_first, told_later, none_of_both, handed_on}
use Rattle.request_fields.proofs.rows.unregister.Goals as goal

pub returns-in_err-client : goal.returns-in_err-client
unfolding unregister_row
returns-in_err-client c = handed_on _ _ _ _ c.from_residual.ensures.1 (told_first _ _ _ c.in_err-client.ensures.value)

pub returns-in_err-producer : goal.returns-in_err-producer
unfolding unregister_row
returns-in_err-producer c = handed_on _ _ _ _ c.from_residual-in_err-producer.ensures.1 (told_later _ _ _ c.in_ok-client.ensures.value.0 (told_first _ _ _ c.in_err-producer.ensures.value))

pub returns-in_err-consumer : goal.returns-in_err-consumer
unfolding unregister_row
returns-in_err-consumer c = handed_on _ _ _ _ c.from_residual-in_err-consumer.ensures.1 (told_later _ _ _ c.in_ok-client.ensures.value.0 (told_later _ _ _ c.in_ok-producer.ensures.value.0 (told_first _ _ _ c.in_err-consumer.ensures.value)))

pub returns : goal.returns
unfolding unregister_row unregister_said
returns c = (
  none_of_both _ _ c.in_ok-client.ensures.value.0 (none_of_both _ _ c.in_ok-producer.ensures.value.0 (none_of_both _ _ c.in_ok-consumer.ensures.value.0 refl)),
  search (rules, c.in_ok-client.ensures.value.1, c.in_ok-producer.ensures.value.1, c.in_ok-consumer.ensures.value.1) depth 20,
)
