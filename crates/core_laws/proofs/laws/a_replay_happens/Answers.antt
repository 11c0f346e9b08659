use Rattle.core_laws.proofs.CommitExamples as commits
use Rattle.core_laws.proofs.DeliveryExamples as deliveries
use Rattle.core_laws.proofs.Examples.{stands_for}
use Rattle.core_laws.proofs.ReplayExamples.{is_opening, queue_of_opening, key_of_opening, one_waits, queue_of_waiting, all_is_dispatched, queue_of_dispatched, half_of_crashed, level_of_crashed}
use Rattle.core_laws.proofs.laws.a_replay_happens.Goals as goal

pub returns-clause-tables : goal.returns-clause-tables
returns-clause-tables c s = stands_for s

pub returns-clause-waits : goal.returns-clause-waits
returns-clause-waits c = (one_waits, queue_of_waiting)

pub returns-clause-dispatched : goal.returns-clause-dispatched
returns-clause-dispatched c = (all_is_dispatched, queue_of_dispatched)

pub returns-clause-opened : goal.returns-clause-opened
returns-clause-opened c = (is_opening, queue_of_opening, key_of_opening)

pub returns-clause-crashed : goal.returns-clause-crashed
returns-clause-crashed c = (commits.crashes, half_of_crashed)

pub returns-clause-delivered : goal.returns-clause-delivered
returns-clause-delivered c = (deliveries.crashes, level_of_crashed)
