use Rattle.remoting_frame.proofs.FrameTexts.{frame_is_next, next_is_frame}
use Rattle.remoting_frame.proofs.spellings.frames_are_spelled.Goals as goal

pub returns-clause-read : goal.returns-clause-read
returns-clause-read c = λ bytes frame rest is. frame_is_next bytes frame rest is

pub returns-clause-only : goal.returns-clause-only
returns-clause-only c = λ at bytes frame rest fits e. next_is_frame at bytes frame rest fits e
