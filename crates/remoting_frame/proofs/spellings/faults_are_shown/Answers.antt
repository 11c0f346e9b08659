use Rattle.remoting_frame.proofs.FaultLaws.{fault_is_shown, fault_is_told}
use Rattle.remoting_frame.proofs.spellings.faults_are_shown.Goals as goal

pub returns-clause-told : goal.returns-clause-told
returns-clause-told c = λ at bytes fault is. fault_is_told at bytes fault is

pub returns-clause-only : goal.returns-clause-only
returns-clause-only c = λ at bytes fault e. fault_is_shown at bytes fault e
