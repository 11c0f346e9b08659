use Rattle.std.proofs.Common.{rules, refl}
use Rattle.request_fields.specs.Values.{u31_at, i32_or, i64_or}
use Rattle.request_fields.specs.Rows.{pull_row}
use Rattle.request_fields.specs.Reading.{pull_said, pull_numbers}
use Rattle.request_fields.proofs.Later.{told_first, told_later, none_of_both, handed_on}
use Rattle.request_fields.proofs.rows.pull_numbers.Goals as goal

pub returns-in_err-queue-clause-value : goal.returns-in_err-queue-clause-value
unfolding pull_row
returns-in_err-queue-clause-value c = handed_on _ _ _ _ c.from_residual.ensures.1 (told_first _ _ _ c.in_err-queue.ensures.value)

pub returns-in_err-from-clause-value : goal.returns-in_err-from-clause-value
unfolding pull_row
returns-in_err-from-clause-value c = handed_on _ _ _ _ c.from_residual-in_err-from.ensures.1 (told_later _ _ _ c.in_ok-queue.ensures.value.0 (told_first _ _ _ c.in_err-from.ensures.value))

pub returns-in_err-most-clause-value : goal.returns-in_err-most-clause-value
unfolding pull_row
returns-in_err-most-clause-value c = handed_on _ _ _ _ c.from_residual-in_err-most.ensures.1 (told_later _ _ _ c.in_ok-queue.ensures.value.0 (told_later _ _ _ c.in_ok-from.ensures.value.0 (told_first _ _ _ c.in_err-most.ensures.value)))

pub returns-in_err-sysflag-clause-value : goal.returns-in_err-sysflag-clause-value
unfolding pull_row
returns-in_err-sysflag-clause-value c = handed_on _ _ _ _ c.from_residual-in_err-sysflag.ensures.1 (told_later _ _ _ c.in_ok-queue.ensures.value.0 (told_later _ _ _ c.in_ok-from.ensures.value.0 (told_later _ _ _ c.in_ok-most.ensures.value.0 (told_first _ _ _ c.in_err-sysflag.ensures.value))))

pub returns-in_err-commit-clause-value : goal.returns-in_err-commit-clause-value
unfolding pull_row
returns-in_err-commit-clause-value c = handed_on _ _ _ _ c.from_residual-in_err-commit.ensures.1 (told_later _ _ _ c.in_ok-queue.ensures.value.0 (told_later _ _ _ c.in_ok-from.ensures.value.0 (told_later _ _ _ c.in_ok-most.ensures.value.0 (told_later _ _ _ c.in_ok-sysflag.ensures.value.0 (told_first _ _ _ c.in_err-commit.ensures.value)))))

pub returns-in_err-suspend-clause-value : goal.returns-in_err-suspend-clause-value
unfolding pull_row
returns-in_err-suspend-clause-value c = handed_on _ _ _ _ c.from_residual-in_err-suspend.ensures.1 (told_later _ _ _ c.in_ok-queue.ensures.value.0 (told_later _ _ _ c.in_ok-from.ensures.value.0 (told_later _ _ _ c.in_ok-most.ensures.value.0 (told_later _ _ _ c.in_ok-sysflag.ensures.value.0 (told_later _ _ _ c.in_ok-commit.ensures.value.0 (told_first _ _ _ c.in_err-suspend.ensures.value))))))

pub returns-in_err-_version-clause-value : goal.returns-in_err-_version-clause-value
unfolding pull_row
returns-in_err-_version-clause-value c = handed_on _ _ _ _ c.from_residual-in_err-_version.ensures.1 (told_later _ _ _ c.in_ok-queue.ensures.value.0 (told_later _ _ _ c.in_ok-from.ensures.value.0 (told_later _ _ _ c.in_ok-most.ensures.value.0 (told_later _ _ _ c.in_ok-sysflag.ensures.value.0 (told_later _ _ _ c.in_ok-commit.ensures.value.0 (told_later _ _ _ c.in_ok-suspend.ensures.value.0 (told_later _ _ _ refl (told_first _ _ _ c.in_err-_version.ensures.value))))))))

pub returns-clause-value : goal.returns-clause-value
unfolding pull_row pull_numbers pull_said u31_at i64_or i32_or
returns-clause-value c = (
  none_of_both _ _ c.in_ok-queue.ensures.value.0 (none_of_both _ _ c.in_ok-from.ensures.value.0 (none_of_both _ _ c.in_ok-most.ensures.value.0 (none_of_both _ _ c.in_ok-sysflag.ensures.value.0 (none_of_both _ _ c.in_ok-commit.ensures.value.0 (none_of_both _ _ c.in_ok-suspend.ensures.value.0 (none_of_both _ _ refl (none_of_both _ _ c.in_ok-_version.ensures.value.0 (none_of_both _ _ refl refl)))))))),
  search (rules, c.in_ok-queue.ensures.value.1, c.in_ok-from.ensures.value.1, c.in_ok-most.ensures.value.1, c.in_ok-sysflag.ensures.value.1, c.in_ok-commit.ensures.value.1, c.in_ok-suspend.ensures.value.1) depth 20,
)
