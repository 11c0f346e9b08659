use Rattle.std.proofs.Common.{rules, refl}
use Rattle.request_fields.specs.Values.{i64_or}
use Rattle.request_fields.specs.Rows.{search_row}
use Rattle.request_fields.specs.Reading.{search_said}
use Rattle.request_fields.proofs.Later.{told_first, told_later, none_of_both, handed_on}
use Rattle.request_fields.proofs.rows.search.Goals as goal

pub returns-in_err-topic : goal.returns-in_err-topic
unfolding search_row
returns-in_err-topic c = handed_on _ _ _ _ c.from_residual.ensures.1 (told_first _ _ _ c.in_err-topic.ensures.value)

pub returns-in_err-queue : goal.returns-in_err-queue
unfolding search_row
returns-in_err-queue c = handed_on _ _ _ _ c.from_residual-in_err-queue.ensures.1 (told_later _ _ _ c.in_ok-topic.ensures.value.0 (told_first _ _ _ c.in_err-queue.ensures.value))

pub returns-in_err-time : goal.returns-in_err-time
unfolding search_row
returns-in_err-time c = handed_on _ _ _ _ c.from_residual-in_err-time.ensures.1 (told_later _ _ _ c.in_ok-topic.ensures.value.0 (told_later _ _ _ c.in_ok-queue.ensures.value.0 (told_first _ _ _ c.in_err-time.ensures.value)))

pub returns : goal.returns
unfolding search_row search_said i64_or
returns c = (
  none_of_both _ _ c.in_ok-topic.ensures.value.0 (none_of_both _ _ c.in_ok-queue.ensures.value.0 (none_of_both _ _ c.in_ok-time.ensures.value.0 refl)),
  search (rules, c.in_ok-topic.ensures.value.1, c.in_ok-queue.ensures.value.1, c.in_ok-time.ensures.value.1) depth 20,
)
