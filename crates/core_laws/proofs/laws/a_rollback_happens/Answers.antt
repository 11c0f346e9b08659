use Rattle.core_laws.proofs.RollbackExamples.{rollback_is_answered, rollback_is_answered_again, undone_rolled_back, again_rolled_back, commit_is_refused}
use Rattle.core_laws.proofs.laws.a_rollback_happens.Goals as goal

pub returns-clause-answered : goal.returns-clause-answered
returns-clause-answered c = rollback_is_answered

pub returns-clause-again : goal.returns-clause-again
returns-clause-again c = rollback_is_answered_again

pub returns-clause-rolled_back : goal.returns-clause-rolled_back
returns-clause-rolled_back c = (undone_rolled_back, again_rolled_back)

pub returns-clause-refused : goal.returns-clause-refused
returns-clause-refused c = commit_is_refused
