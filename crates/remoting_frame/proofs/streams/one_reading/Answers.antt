use Rattle.remoting_frame.proofs.StreamLaws.{one_reading}
use Rattle.remoting_frame.proofs.streams.one_reading.Goals as goal

pub returns : goal.returns
returns c = λ bytes frames others end stop c d. one_reading bytes frames others end stop c d
