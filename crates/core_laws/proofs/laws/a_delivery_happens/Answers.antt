use Rattle.core_laws.proofs.DeliveryExamples.{delivery_runs, delivery_stands, flushed_is_2, runs_again, marks_stay, delivery_stays}
use Rattle.core_laws.proofs.Examples.{is_opening}
use Rattle.core_laws.proofs.laws.a_delivery_happens.Goals as goal

pub returns-clause-opening : goal.returns-clause-opening
returns-clause-opening c = (is_opening, λ i level number r at low high small is. absurd (cc))

pub returns-clause-run : goal.returns-clause-run
returns-clause-run c = delivery_runs

pub returns-clause-delivered : goal.returns-clause-delivered
returns-clause-delivered c = delivery_stands

pub returns-clause-flushed : goal.returns-clause-flushed
returns-clause-flushed c = flushed_is_2

pub returns-clause-crash : goal.returns-clause-crash
returns-clause-crash c = (runs_again, delivery_stays, marks_stay)
