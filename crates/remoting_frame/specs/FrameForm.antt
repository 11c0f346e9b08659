-- When bytes begin with a frame, said of the bytes as a whole.
use Rattle.std.specs.Prelude.{◌≡◌, ℕ, ◌+◌, ◌≤◌, ◌++◌, List, length, Some}
use Rattle.remoting_frame.specs.Headers.{header_in, form_byte, words}
use Rattle.remoting_frame.specs.declared.frame.Frame.{Frame}

-- The bytes are the two words of a frame, its header, its body and then the rest. What the first word counts is at
-- most 16,777,216.
pub record IsFrame (bytes : List ℕ) (frame : Frame) (rest : List ℕ) : Type 0 where
  pub header : List ℕ
  pub spelled : bytes ≡ words (form_byte frame.form) (length header) (length frame.body) ++ header ++ frame.body ++ rest
  pub read : header_in frame.form header ≡ Some frame.header
  pub within : 4 + length header + length frame.body ≤ 16777216
