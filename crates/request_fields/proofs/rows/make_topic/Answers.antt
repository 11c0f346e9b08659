use Rattle.std.proofs.Common.{rules, refl}
use Rattle.request_fields.specs.Rows.{topic_row}
use Rattle.request_fields.specs.Reading.{topic_said}
use Rattle.request_fields.proofs.Later.{told_first, told_later, none_of_both, handed_on}
use Rattle.request_fields.proofs.rows.make_topic.Goals as goal

pub returns-in_err-topic : goal.returns-in_err-topic
unfolding topic_row
returns-in_err-topic c = handed_on _ _ _ _ c.from_residual.ensures.1 (told_first _ _ _ c.in_err-topic.ensures.value)

pub returns-in_err-read : goal.returns-in_err-read
unfolding topic_row
returns-in_err-read c = handed_on _ _ _ _ c.from_residual-in_err-read.ensures.1 (told_later _ _ _ c.in_ok-topic.ensures.value.0 (told_first _ _ _ c.in_err-read.ensures.value))

pub returns-in_err-write : goal.returns-in_err-write
unfolding topic_row
returns-in_err-write c = handed_on _ _ _ _ c.from_residual-in_err-write.ensures.1 (told_later _ _ _ c.in_ok-topic.ensures.value.0 (told_later _ _ _ c.in_ok-read.ensures.value.0 (told_first _ _ _ c.in_err-write.ensures.value)))

pub returns : goal.returns
unfolding topic_row topic_said
returns c = (
  none_of_both _ _ c.in_ok-topic.ensures.value.0 (none_of_both _ _ c.in_ok-read.ensures.value.0 (none_of_both _ _ c.in_ok-write.ensures.value.0 (none_of_both _ _ refl (none_of_both _ _ refl (none_of_both _ _ refl (none_of_both _ _ refl (none_of_both _ _ refl refl))))))),
  search (rules, c.in_ok-topic.ensures.value.1, c.in_ok-read.ensures.value.1, c.in_ok-write.ensures.value.1) depth 20,
)
