use Rattle.std.proofs.Common.{rules, refl}
use Rattle.request_fields.specs.Rows.{set_offset_row}
use Rattle.request_fields.specs.Reading.{set_offset_said}
use Rattle.request_fields.proofs.Later.{told_first, told_later, none_of_both, handed_on}
use Rattle.request_fields.proofs.rows.set_offset.Goals as goal

pub returns-in_err-group : goal.returns-in_err-group
unfolding set_offset_row
returns-in_err-group c = handed_on _ _ _ _ c.from_residual.ensures.1 (told_first _ _ _ c.in_err-group.ensures.value)

pub returns-in_err-topic : goal.returns-in_err-topic
unfolding set_offset_row
returns-in_err-topic c = handed_on _ _ _ _ c.from_residual-in_err-topic.ensures.1 (told_later _ _ _ c.in_ok-group.ensures.value.0 (told_first _ _ _ c.in_err-topic.ensures.value))

pub returns-in_err-queue : goal.returns-in_err-queue
unfolding set_offset_row
returns-in_err-queue c = handed_on _ _ _ _ c.from_residual-in_err-queue.ensures.1 (told_later _ _ _ c.in_ok-group.ensures.value.0 (told_later _ _ _ c.in_ok-topic.ensures.value.0 (told_first _ _ _ c.in_err-queue.ensures.value)))

pub returns-in_err-offset : goal.returns-in_err-offset
unfolding set_offset_row
returns-in_err-offset c = handed_on _ _ _ _ c.from_residual-in_err-offset.ensures.1 (told_later _ _ _ c.in_ok-group.ensures.value.0 (told_later _ _ _ c.in_ok-topic.ensures.value.0 (told_later _ _ _ c.in_ok-queue.ensures.value.0 (told_first _ _ _ c.in_err-offset.ensures.value))))

pub returns : goal.returns
unfolding set_offset_row set_offset_said
returns c = (
  none_of_both _ _ c.in_ok-group.ensures.value.0 (none_of_both _ _ c.in_ok-topic.ensures.value.0 (none_of_both _ _ c.in_ok-queue.ensures.value.0 (none_of_both _ _ c.in_ok-offset.ensures.value.0 refl))),
  search (rules, c.in_ok-group.ensures.value.1, c.in_ok-topic.ensures.value.1, c.in_ok-queue.ensures.value.1, c.in_ok-offset.ensures.value.1) depth 20,
)
