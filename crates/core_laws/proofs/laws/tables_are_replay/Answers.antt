use Rattle.std.proofs.Common.{ap}
use Rattle.broker_model.specs.State.{State}
use Rattle.core_laws.proofs.Replay.{all_dispatched, after_crash}
use Rattle.core_laws.proofs.laws.tables_are_replay.Goals as goal

pub returns-clause-dispatched : goal.returns-clause-dispatched
returns-clause-dispatched a s tables all stands = all_dispatched s tables all stands

pub returns-clause-opened : goal.returns-clause-opened
returns-clause-opened a b tables opening stands = all_dispatched b.now tables (ap (λ (s : State). s.dispatched) opening.state) stands

pub returns-clause-crashed : goal.returns-clause-crashed
returns-clause-crashed a b c k setup tables goes stands = after_crash b c k setup tables goes stands
