use Rattle.remoting_frame.proofs.StreamLaws.{begins_more}
use Rattle.remoting_frame.proofs.streams.frames_stay.Goals as goal

pub returns : goal.returns
returns c = λ at bytes more frames end rest b. begins_more at bytes more frames end rest b
