use Rattle.std.proofs.Common.{rules, refl}
use Rattle.request_fields.specs.Rows.{send_row}
use Rattle.request_fields.specs.Reading.{send_said, send_numbers}
use Rattle.request_fields.proofs.Later.{told_first, told_later, none_of_both, handed_on}
use Rattle.request_fields.proofs.send.numbers_of.Goals as goal

pub returns-in_err-queue-clause-value : goal.returns-in_err-queue-clause-value
unfolding send_row
returns-in_err-queue-clause-value c = handed_on _ _ _ _ c.from_residual.ensures.1 (told_first _ _ _ c.in_err-queue.ensures.value)

pub returns-in_err-sysflag-clause-value : goal.returns-in_err-sysflag-clause-value
unfolding send_row
returns-in_err-sysflag-clause-value c = handed_on _ _ _ _ c.from_residual-in_err-sysflag.ensures.1 (told_later _ _ _ c.in_ok-queue.ensures.value.0 (told_first _ _ _ c.in_err-sysflag.ensures.value))

pub returns-in_err-born-clause-value : goal.returns-in_err-born-clause-value
unfolding send_row
returns-in_err-born-clause-value c = handed_on _ _ _ _ c.from_residual-in_err-born.ensures.1 (told_later _ _ _ c.in_ok-queue.ensures.value.0 (told_later _ _ _ c.in_ok-sysflag.ensures.value.0 (told_first _ _ _ c.in_err-born.ensures.value)))

pub returns-in_err-flag-clause-value : goal.returns-in_err-flag-clause-value
unfolding send_row
returns-in_err-flag-clause-value c = handed_on _ _ _ _ c.from_residual-in_err-flag.ensures.1 (told_later _ _ _ c.in_ok-queue.ensures.value.0 (told_later _ _ _ c.in_ok-sysflag.ensures.value.0 (told_later _ _ _ c.in_ok-born.ensures.value.0 (told_first _ _ _ c.in_err-flag.ensures.value))))

pub returns-in_err-default_queues-clause-value : goal.returns-in_err-default_queues-clause-value
unfolding send_row
returns-in_err-default_queues-clause-value c = handed_on _ _ _ _ c.from_residual-in_err-default_queues.ensures.1 (told_later _ _ _ c.in_ok-queue.ensures.value.0 (told_later _ _ _ c.in_ok-sysflag.ensures.value.0 (told_later _ _ _ c.in_ok-born.ensures.value.0 (told_later _ _ _ c.in_ok-flag.ensures.value.0 (told_later _ _ _ refl (told_first _ _ _ c.in_err-default_queues.ensures.value))))))

pub returns-in_err-reconsume-clause-value : goal.returns-in_err-reconsume-clause-value
unfolding send_row
returns-in_err-reconsume-clause-value c = handed_on _ _ _ _ c.from_residual-in_err-reconsume.ensures.1 (told_later _ _ _ c.in_ok-queue.ensures.value.0 (told_later _ _ _ c.in_ok-sysflag.ensures.value.0 (told_later _ _ _ c.in_ok-born.ensures.value.0 (told_later _ _ _ c.in_ok-flag.ensures.value.0 (told_later _ _ _ refl (told_later _ _ _ c.in_ok-default_queues.ensures.value.0 (told_later _ _ _ refl (told_first _ _ _ c.in_err-reconsume.ensures.value))))))))

pub returns-in_err-_max_reconsume-clause-value : goal.returns-in_err-_max_reconsume-clause-value
unfolding send_row
returns-in_err-_max_reconsume-clause-value c = handed_on _ _ _ _ c.from_residual-in_err-_max_reconsume.ensures.1 (told_later _ _ _ c.in_ok-queue.ensures.value.0 (told_later _ _ _ c.in_ok-sysflag.ensures.value.0 (told_later _ _ _ c.in_ok-born.ensures.value.0 (told_later _ _ _ c.in_ok-flag.ensures.value.0 (told_later _ _ _ refl (told_later _ _ _ c.in_ok-default_queues.ensures.value.0 (told_later _ _ _ refl (told_later _ _ _ c.in_ok-reconsume.ensures.value.0 (told_first _ _ _ c.in_err-_max_reconsume.ensures.value)))))))))

pub returns-in_err-optional_untrue-clause-value : goal.returns-in_err-optional_untrue-clause-value
unfolding send_row
returns-in_err-optional_untrue-clause-value c = handed_on _ _ _ _ c.from_residual-in_err-optional_untrue.ensures.1 (told_later _ _ _ c.in_ok-queue.ensures.value.0 (told_later _ _ _ c.in_ok-sysflag.ensures.value.0 (told_later _ _ _ c.in_ok-born.ensures.value.0 (told_later _ _ _ c.in_ok-flag.ensures.value.0 (told_later _ _ _ refl (told_later _ _ _ c.in_ok-default_queues.ensures.value.0 (told_later _ _ _ refl (told_later _ _ _ c.in_ok-reconsume.ensures.value.0 (told_later _ _ _ c.in_ok-_max_reconsume.ensures.value.0 (told_later _ _ _ refl (told_first _ _ _ c.in_err-optional_untrue.ensures)))))))))))

pub returns-clause-value : goal.returns-clause-value
unfolding send_row send_numbers send_said
returns-clause-value c = (
  none_of_both _ _ c.in_ok-queue.ensures.value.0 (none_of_both _ _ c.in_ok-sysflag.ensures.value.0 (none_of_both _ _ c.in_ok-born.ensures.value.0 (none_of_both _ _ c.in_ok-flag.ensures.value.0 (none_of_both _ _ refl (none_of_both _ _ c.in_ok-default_queues.ensures.value.0 (none_of_both _ _ refl (none_of_both _ _ c.in_ok-reconsume.ensures.value.0 (none_of_both _ _ c.in_ok-_max_reconsume.ensures.value.0 (none_of_both _ _ refl (none_of_both _ _ c.in_ok-optional_untrue.ensures.0 refl)))))))))),
  search (rules, c.in_ok-queue.ensures.value.1, c.in_ok-sysflag.ensures.value.1, c.in_ok-born.ensures.value.1, c.in_ok-flag.ensures.value.1, c.in_ok-default_queues.ensures.value.1, c.in_ok-reconsume.ensures.value.1) depth 20,
)
