use Rattle.std.proofs.Common.{rules}
use Rattle.request_fields.specs.Rows.{pull_row}
use Rattle.request_fields.specs.Reading.{pull_said, pull_numbers}
use Rattle.request_fields.proofs.Later.{told_first, told_later, told_none, none_of_both, handed_on}
use Rattle.request_fields.proofs.rows.pull.Goals as goal

pub returns-in_err-group : goal.returns-in_err-group
unfolding pull_row
returns-in_err-group c = handed_on _ _ _ _ c.from_residual.ensures.1 (told_first _ _ _ c.in_err-group.ensures.value)

pub returns-in_err-topic : goal.returns-in_err-topic
unfolding pull_row
returns-in_err-topic c = handed_on _ _ _ _ c.from_residual-in_err-topic.ensures.1 (told_later _ _ _ c.in_ok-group.ensures.value.0 (told_first _ _ _ c.in_err-topic.ensures.value))

pub returns-in_err-numbers : goal.returns-in_err-numbers
unfolding pull_row
returns-in_err-numbers c = handed_on _ _ _ _ c.from_residual-in_err-numbers.ensures.1 (told_later _ _ _ c.in_ok-group.ensures.value.0 (told_later _ _ _ c.in_ok-topic.ensures.value.0 c.in_err-numbers.ensures.value))

pub returns-in_err-subscription : goal.returns-in_err-subscription
unfolding pull_row
returns-in_err-subscription c = handed_on _ _ _ _ c.from_residual-in_err-subscription.ensures.1 (told_none _ _ (none_of_both _ _ c.in_ok-group.ensures.value.0 (none_of_both _ _ c.in_ok-topic.ensures.value.0 c.in_ok-numbers.ensures.value.0)) c.in_err-subscription.ensures)

pub returns-in_err-expression : goal.returns-in_err-expression
unfolding pull_row
returns-in_err-expression c = handed_on _ _ _ _ c.from_residual-in_err-expression.ensures.1 (told_none _ _ (none_of_both _ _ c.in_ok-group.ensures.value.0 (none_of_both _ _ c.in_ok-topic.ensures.value.0 c.in_ok-numbers.ensures.value.0)) c.in_err-expression.ensures)

pub returns : goal.returns
unfolding pull_row pull_said pull_numbers
returns c = (
  none_of_both _ _ c.in_ok-group.ensures.value.0 (none_of_both _ _ c.in_ok-topic.ensures.value.0 c.in_ok-numbers.ensures.value.0),
  search (rules, c.in_ok-group.ensures.value.1, c.in_ok-topic.ensures.value.1, c.in_ok-numbers.ensures.value.1, c.in_ok-subscription.ensures.1, c.in_ok-expression.ensures.1) depth 20,
)
