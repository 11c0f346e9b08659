-- Headers and the fronts of frames, in each form.
use Rattle.std.specs.Prelude.{ℕ, ◌+◌, ◌*◌, ◌^◌, ◌++◌, List, length, Option}
use Rattle.std.specs.Int.{w32, to_be_bytes}
use Rattle.remoting_frame.specs.Head.{Head}
use Rattle.remoting_frame.specs.Json.{json_header}
use Rattle.remoting_frame.specs.Written.{json_text}
use Rattle.remoting_frame.specs.Binary.{binary_header}
use Rattle.remoting_frame.specs.BinaryText.{binary_text}
use Rattle.remoting_frame.specs.declared.frame.Form.{Form}
use Rattle.remoting_frame.specs.declared.frame.Form.TheVariants.{Json, Binary}

-- the header that the bytes are, all of them
abbrev pub header_in : Form → List ℕ → Option Head
header_in Json bytes = json_header bytes
header_in Binary bytes = binary_header bytes

-- the bytes that are written for a header
abbrev pub header_text : Form → Head → List ℕ
header_text Json h = json_text h
header_text Binary h = binary_text h

-- the byte of a form
abbrev pub form_byte : Form → ℕ
form_byte Json = 0
form_byte Binary = 1

-- the first eight bytes of a frame: how many bytes follow the first four, and the form with the header's length
unfoldable pub words : ℕ → ℕ → ℕ → List ℕ
words form header_len body = to_be_bytes w32 (4 + header_len + body) ++ to_be_bytes w32 (form * 2 ^ 24 + header_len)

-- a frame up to its body, which has so many bytes
abbrev pub front_bytes : Form → Head → ℕ → List ℕ
front_bytes form h body = words (form_byte form) (length (header_text form h)) body ++ header_text form h

-- a whole frame
abbrev pub frame_bytes : Form → Head → List ℕ → List ℕ
frame_bytes form h body = front_bytes form h (length body) ++ body
