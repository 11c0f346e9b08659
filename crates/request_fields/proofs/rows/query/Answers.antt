use Rattle.std.proofs.Common.{rules, refl}
use Rattle.request_fields.specs.Values.{i64_or}
use Rattle.request_fields.specs.Rows.{query_row}
use Rattle.request_fields.specs.Reading.{query_said}
use Rattle.request_fields.proofs.Later.{told_first, told_later, none_of_both, handed_on}
use Rattle.request_fields.proofs.rows.query.Goals as goal

pub returns-in_err-topic : goal.returns-in_err-topic
unfolding query_row
returns-in_err-topic c = handed_on _ _ _ _ c.from_residual.ensures.1 (told_first _ _ _ c.in_err-topic.ensures.value)

pub returns-in_err-key : goal.returns-in_err-key
unfolding query_row
returns-in_err-key c = handed_on _ _ _ _ c.from_residual-in_err-key.ensures.1 (told_later _ _ _ c.in_ok-topic.ensures.value.0 (told_first _ _ _ c.in_err-key.ensures.value))

pub returns-in_err-most : goal.returns-in_err-most
unfolding query_row
returns-in_err-most c = handed_on _ _ _ _ c.from_residual-in_err-most.ensures.1 (told_later _ _ _ c.in_ok-topic.ensures.value.0 (told_later _ _ _ c.in_ok-key.ensures.value.0 (told_first _ _ _ c.in_err-most.ensures.value)))

pub returns-in_err-from : goal.returns-in_err-from
unfolding query_row
returns-in_err-from c = handed_on _ _ _ _ c.from_residual-in_err-from.ensures.1 (told_later _ _ _ c.in_ok-topic.ensures.value.0 (told_later _ _ _ c.in_ok-key.ensures.value.0 (told_later _ _ _ c.in_ok-most.ensures.value.0 (told_first _ _ _ c.in_err-from.ensures.value))))

pub returns-in_err-to : goal.returns-in_err-to
unfolding query_row
returns-in_err-to c = handed_on _ _ _ _ c.from_residual-in_err-to.ensures.1 (told_later _ _ _ c.in_ok-topic.ensures.value.0 (told_later _ _ _ c.in_ok-key.ensures.value.0 (told_later _ _ _ c.in_ok-most.ensures.value.0 (told_later _ _ _ c.in_ok-from.ensures.value.0 (told_first _ _ _ c.in_err-to.ensures.value)))))

pub returns : goal.returns
unfolding query_row query_said i64_or
returns c = (
  none_of_both _ _ c.in_ok-topic.ensures.value.0 (none_of_both _ _ c.in_ok-key.ensures.value.0 (none_of_both _ _ c.in_ok-most.ensures.value.0 (none_of_both _ _ c.in_ok-from.ensures.value.0 (none_of_both _ _ c.in_ok-to.ensures.value.0 refl)))),
  search (rules, c.in_ok-topic.ensures.value.1, c.in_ok-key.ensures.value.1, c.in_ok-most.ensures.value.1, c.in_ok-from.ensures.value.1, c.in_ok-to.ensures.value.1) depth 20,
)
