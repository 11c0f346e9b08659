-- Calls of a cutter, and what they fed and gave.
use Rattle.std.specs.Prelude.{◌≡◌, ◌++◌, ℕ, List, [], ◌∷◌, Some, Ok}
use Rattle.remoting_frame.specs.Held.{Held}
use Rattle.remoting_frame.specs.Cutting.{NextIs}
use Rattle.remoting_frame.specs.declared.frame.Frame.{Frame}

-- A piece was fed, or a frame was given. The other answers change nothing of what a cutter holds.
pub data Call : Type 0 where
  fed : List ℕ → Call
  gave : Frame → Call

-- these calls, in this order, lead from what was held to what is held
abbrev pub AreCalls : Held → List Call → Held → Type 0
AreCalls old [] new = old ≡ new
AreCalls old (fed piece ∷ calls) new = AreCalls (record { at = old.at; bytes = old.bytes ++ piece }) calls new
AreCalls old (gave frame ∷ calls) new = (after : Held) × NextIs old (Ok (Some frame)) after × AreCalls after calls new

-- the pieces that were fed, joined
abbrev pub stream_of : List Call → List ℕ
stream_of [] = []
stream_of (fed piece ∷ calls) = piece ++ stream_of calls
stream_of (gave frame ∷ calls) = stream_of calls

-- the frames that were given
abbrev pub frames_of : List Call → List Frame
frames_of [] = []
frames_of (fed piece ∷ calls) = frames_of calls
frames_of (gave frame ∷ calls) = frame ∷ frames_of calls
