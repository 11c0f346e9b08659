use Rattle.std.proofs.Common.{rules, refl}
use Rattle.request_fields.specs.Rows.{end_row}
use Rattle.request_fields.specs.Reading.{end_said}
use Rattle.request_fields.proofs.Later.{told_first, told_later, none_of_both, handed_on}
use Rattle.request_fields.proofs.rows.end_transaction.Goals as goal

pub returns-in_err-group : goal.returns-in_err-group
unfolding end_row
returns-in_err-group c = handed_on _ _ _ _ c.from_residual.ensures.1 (told_first _ _ _ c.in_err-group.ensures.value)

pub returns-in_err-queue_offset : goal.returns-in_err-queue_offset
unfolding end_row
returns-in_err-queue_offset c = handed_on _ _ _ _ c.from_residual-in_err-queue_offset.ensures.1 (told_later _ _ _ c.in_ok-group.ensures.value.0 (told_first _ _ _ c.in_err-queue_offset.ensures.value))

pub returns-in_err-place : goal.returns-in_err-place
unfolding end_row
returns-in_err-place c = handed_on _ _ _ _ c.from_residual-in_err-place.ensures.1 (told_later _ _ _ c.in_ok-group.ensures.value.0 (told_later _ _ _ c.in_ok-queue_offset.ensures.value.0 (told_first _ _ _ c.in_err-place.ensures.value)))

pub returns-in_err-verdict : goal.returns-in_err-verdict
unfolding end_row
returns-in_err-verdict c = handed_on _ _ _ _ c.from_residual-in_err-verdict.ensures.1 (told_later _ _ _ c.in_ok-group.ensures.value.0 (told_later _ _ _ c.in_ok-queue_offset.ensures.value.0 (told_later _ _ _ c.in_ok-place.ensures.value.0 (told_first _ _ _ c.in_err-verdict.ensures.value))))

pub returns-in_err-msg_id : goal.returns-in_err-msg_id
unfolding end_row
returns-in_err-msg_id c = handed_on _ _ _ _ c.from_residual-in_err-msg_id.ensures.1 (told_later _ _ _ c.in_ok-group.ensures.value.0 (told_later _ _ _ c.in_ok-queue_offset.ensures.value.0 (told_later _ _ _ c.in_ok-place.ensures.value.0 (told_later _ _ _ c.in_ok-verdict.ensures.value.0 (told_later _ _ _ refl (told_first _ _ _ c.in_err-msg_id.ensures))))))

pub returns : goal.returns
unfolding end_row end_said
returns c = (
  none_of_both _ _ c.in_ok-group.ensures.value.0 (none_of_both _ _ c.in_ok-queue_offset.ensures.value.0 (none_of_both _ _ c.in_ok-place.ensures.value.0 (none_of_both _ _ c.in_ok-verdict.ensures.value.0 (none_of_both _ _ refl (none_of_both _ _ c.in_ok-msg_id.ensures.0 (none_of_both _ _ refl refl)))))),
  search (rules, c.in_ok-group.ensures.value.1, c.in_ok-queue_offset.ensures.value.1, c.in_ok-place.ensures.value.1, c.in_ok-verdict.ensures.value.1, c.in_ok-msg_id.ensures.1) depth 20,
)
