use Rattle.std.proofs.Common.{◌∙◌, rules}
use Rattle.request_fields.specs.Rows.{send_row}
use Rattle.request_fields.specs.Reading.{send_said, send_numbers}
use Rattle.request_fields.proofs.Later.{told_first, told_later, told_none, none_of_both, handed_on}
use Rattle.request_fields.proofs.send.send.Goals as goal

pub returns-in_err-group : goal.returns-in_err-group
unfolding send_row
returns-in_err-group c = handed_on _ _ _ _ c.from_residual.ensures.1 (told_first _ _ _ c.in_err-group.ensures.value)

pub returns-in_err-topic : goal.returns-in_err-topic
unfolding send_row
returns-in_err-topic c = handed_on _ _ _ _ c.from_residual-in_err-topic.ensures.1 (told_later _ _ _ c.in_ok-group.ensures.value.0 (told_first _ _ _ c.in_err-topic.ensures.value))

pub returns-in_err-numbers : goal.returns-in_err-numbers
unfolding send_row
returns-in_err-numbers c = handed_on _ _ _ _ c.from_residual-in_err-numbers.ensures.1 (told_later _ _ _ c.in_ok-group.ensures.value.0 (told_later _ _ _ c.in_ok-topic.ensures.value.0 c.in_err-numbers.ensures.value))

pub returns-in_err-default_topic : goal.returns-in_err-default_topic
unfolding send_row
returns-in_err-default_topic c = handed_on _ _ _ _ c.from_residual-in_err-default_topic.ensures.1 (told_none _ _ (none_of_both _ _ c.in_ok-group.ensures.value.0 (none_of_both _ _ c.in_ok-topic.ensures.value.0 c.in_ok-numbers.ensures.value.0)) c.in_err-default_topic.ensures)

pub returns-in_err-props : goal.returns-in_err-props
unfolding send_row
returns-in_err-props c = handed_on _ _ _ _ c.from_residual-in_err-props.ensures.1 (told_none _ _ (none_of_both _ _ c.in_ok-group.ensures.value.0 (none_of_both _ _ c.in_ok-topic.ensures.value.0 c.in_ok-numbers.ensures.value.0)) c.in_err-props.ensures)

pub returns : goal.returns
unfolding send_row send_said send_numbers
returns c = (
  none_of_both _ _ c.in_ok-group.ensures.value.0 (none_of_both _ _ c.in_ok-topic.ensures.value.0 c.in_ok-numbers.ensures.value.0),
  search (rules, c.in_ok-group.ensures.value.1, c.in_ok-topic.ensures.value.1, c.in_ok-numbers.ensures.value.1, c.in_ok-default_topic.ensures.1, c.in_ok-props.ensures.1, c.of.ensures ∙ c.into_vec.ensures) depth 20,
)
