use Rattle.remoting_frame.proofs.StreamLaws.{stream_is_cut}
use Rattle.remoting_frame.proofs.streams.each_stream_is_cut.Goals as goal

pub returns : goal.returns
returns c = λ bytes. stream_is_cut bytes
