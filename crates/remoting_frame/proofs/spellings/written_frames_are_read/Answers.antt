use Rattle.remoting_frame.proofs.FrameTexts.{written_is_next}
use Rattle.remoting_frame.proofs.spellings.written_frames_are_read.Goals as goal

pub returns : goal.returns
returns c = λ at form head body rest again within. written_is_next at form head body rest again within
