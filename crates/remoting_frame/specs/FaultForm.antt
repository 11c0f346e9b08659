-- Which fault the next frame of a stream has, and the bytes that show it.
use Rattle.std.specs.Prelude.{◌≡◌, ℕ, ◌+◌, ◌/◌, ◌%◌, ◌^◌, ◌<◌, ◌≤◌, ◌⊎◌, List, length, take, drop, Some, None}
use Rattle.std.specs.Int.{w32, from_be_bytes}
use Rattle.remoting_frame.specs.Headers.{header_in}
use Rattle.remoting_frame.specs.Frames.{form_of}
use Rattle.remoting_frame.specs.declared.frame.Form.{Form}
use Rattle.remoting_frame.specs.declared.fault.FrameFault.{FrameFault}
use Rattle.remoting_frame.specs.declared.fault.FrameFault.TheVariants as faults

-- what the first four bytes count
abbrev pub counted : List ℕ → ℕ
counted bytes = from_be_bytes w32 (take 4 bytes)

-- the byte of the header's form, and how long the header is
abbrev pub form_at : List ℕ → ℕ
form_at bytes = from_be_bytes w32 (take 4 (drop 4 bytes)) / 2 ^ 24

abbrev pub header_len_at : List ℕ → ℕ
header_len_at bytes = from_be_bytes w32 (take 4 (drop 4 bytes)) % 2 ^ 24

-- the length is there, and is too small or too large
pub record HasNoLength (bytes : List ℕ) : Type 0 where
  pub there : 4 ≤ length bytes
  pub outside : (counted bytes < 4) ⊎ (16777216 < counted bytes)

-- both words are there, and the length is neither too small nor too large
pub record HasWords (bytes : List ℕ) : Type 0 where
  pub there : 8 ≤ length bytes
  pub least : 4 ≤ counted bytes
  pub most : counted bytes ≤ 16777216

pub record HasNoForm (bytes : List ℕ) : Type 0 where
  pub words : HasWords bytes
  pub unknown : form_of (form_at bytes) ≡ None

-- the header is longer than the frame
pub record HasNoRoom (bytes : List ℕ) : Type 0 where
  pub words : HasWords bytes
  pub form : Form
  pub known : form_of (form_at bytes) ≡ Some form
  pub over : counted bytes < 4 + header_len_at bytes

-- the whole header is there, in its frame and of a known form
pub record HasHeader (bytes : List ℕ) : Type 0 where
  pub words : HasWords bytes
  pub form : Form
  pub known : form_of (form_at bytes) ≡ Some form
  pub room : 4 + header_len_at bytes ≤ counted bytes
  pub whole : 8 + header_len_at bytes ≤ length bytes

-- the whole header is there, and is none of its form
pub record HasNoHeader (bytes : List ℕ) : Type 0 where
  pub there : HasHeader bytes
  pub unread : header_in there.form (take (header_len_at bytes) (drop 8 bytes)) ≡ None

-- the frame that starts at this place has this fault
abbrev pub HasFault : ℕ → List ℕ → FrameFault → Type 0
HasFault at bytes (faults.BadLength from) = (from ≡ at) × (HasNoLength bytes ⊎ HasNoRoom bytes)
HasFault at bytes (faults.BadForm from) = (from ≡ at) × HasNoForm bytes
HasFault at bytes (faults.BadHeader from) = (from ≡ at) × HasNoHeader bytes
HasFault at bytes faults.Memory = ⊥
