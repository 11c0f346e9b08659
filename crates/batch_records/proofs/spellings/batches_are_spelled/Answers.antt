use Rattle.batch_records.proofs.BatchTexts.{spelled_is_read, read_is_spelled}
use Rattle.batch_records.proofs.spellings.batches_are_spelled.Goals as goal

pub returns-clause-read : goal.returns-clause-read
returns-clause-read c = λ body messages are. spelled_is_read body messages are

pub returns-clause-only : goal.returns-clause-only
returns-clause-only c = λ body messages fits e. read_is_spelled body messages fits e
