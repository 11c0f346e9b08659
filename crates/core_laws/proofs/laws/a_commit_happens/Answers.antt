use Rattle.core_laws.proofs.CommitExamples.{commit_is_answered, commits_half, copy_is_appended, one_copy, commit_is_answered_again, still_one_copy, told_committed, again_committed, run_to_refused, refused_rolled_back}
use Rattle.core_laws.proofs.laws.a_commit_happens.Goals as goal

pub returns-clause-answered : goal.returns-clause-answered
returns-clause-answered c = commit_is_answered

pub returns-clause-appended : goal.returns-clause-appended
returns-clause-appended c = (commits_half, copy_is_appended)

pub returns-clause-copied : goal.returns-clause-copied
returns-clause-copied c = one_copy

pub returns-clause-again : goal.returns-clause-again
returns-clause-again c = commit_is_answered_again

pub returns-clause-once : goal.returns-clause-once
returns-clause-once c = still_one_copy

pub returns-clause-committed : goal.returns-clause-committed
returns-clause-committed c = (told_committed, again_committed)

pub returns-clause-rolled_back : goal.returns-clause-rolled_back
returns-clause-rolled_back c = (run_to_refused, refused_rolled_back)
