use Rattle.remoting_frame.proofs.StreamLaws.{fault_stays}
use Rattle.remoting_frame.proofs.streams.faults_stay.Goals as goal

pub returns : goal.returns
returns c = λ bytes more frames fault c. fault_stays bytes more frames fault c
