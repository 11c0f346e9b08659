-- The next frame of a stream.
use Rattle.std.specs.Prelude.{◌≡◌, ℕ, ◌+◌, ◌-◌, ◌/◌, ◌%◌, ◌^◌, ◌==◌, ◌||◌, List, nat_lt, length, take}
use Rattle.std.specs.Prelude.{drop, Option, Some, None, Result, Ok, Err, if◌then◌else◌, option_map}
use Rattle.std.specs.Int.{w32, from_be_bytes}
use Rattle.remoting_frame.specs.Head.{Head}
use Rattle.remoting_frame.specs.Headers.{header_in}
use Rattle.remoting_frame.specs.declared.frame.Form.{Form}
use Rattle.remoting_frame.specs.declared.frame.Form.TheVariants.{Json, Binary}
use Rattle.remoting_frame.specs.declared.frame.Frame.{Frame}
use Rattle.remoting_frame.specs.declared.fault.FrameFault.{FrameFault}
use Rattle.remoting_frame.specs.declared.fault.FrameFault.TheVariants as faults

-- A header is read there, well or not: nothing else takes memory.
abbrev pub ReadsHeader : {Y : Type 0} → Result (Option Y) FrameFault → Type 0
ReadsHeader (Ok None) = ⊥
ReadsHeader (Ok (Some y)) = Unit {0}
ReadsHeader (Err faults.Memory) = ⊥
ReadsHeader (Err (faults.BadLength at)) = ⊥
ReadsHeader (Err (faults.BadForm at)) = ⊥
ReadsHeader (Err (faults.BadHeader at)) = Unit {0}

-- What was returned, seen by view, is what is there, unless memory ran out at a header.
abbrev pub Answers : {X Y : Type 0} → (X → Y) → Result (Option X) FrameFault → Result (Option Y) FrameFault → Type 0
Answers view (Ok o) there = there ≡ Ok (option_map view o)
Answers view (Err faults.Memory) there = ReadsHeader there
Answers view (Err (faults.BadLength at)) there = there ≡ Err (faults.BadLength at)
Answers view (Err (faults.BadForm at)) there = there ≡ Err (faults.BadForm at)
Answers view (Err (faults.BadHeader at)) there = there ≡ Err (faults.BadHeader at)

-- the form that a byte stands for
abbrev pub form_of : ℕ → Option Form
form_of n = if n == 0 then Some Json else (if n == 1 then Some Binary else None)

-- The front of a frame. The lengths are the header's, and the whole frame's with its first four bytes.
pub record Front : Type 0 where
  pub form : Form
  pub header : Head
  pub header_len : ℕ
  pub len : ℕ

-- ---- the front that begins here, step by step from the left: the length, the word behind it, the form, the header

unfoldable pub with_header : ℕ → Form → ℕ → ℕ → Option Head → Result (Option Front) FrameFault
with_header at form header_len len None = Err (faults.BadHeader at)
with_header at form header_len len (Some header) = Ok (Some (record {
  form = form;
  header = header;
  header_len = header_len;
  len = len + 4;
}))

abbrev pub with_form : ℕ → List ℕ → ℕ → Option Form → ℕ → Result (Option Front) FrameFault
with_form at bytes len None header_len = Err (faults.BadForm at)
with_form at bytes len (Some form) header_len =
    if nat_lt len (4 + header_len) then Err (faults.BadLength at)
    else (if nat_lt (length bytes) (8 + header_len) then Ok None
    else with_header at form header_len len (header_in form (take header_len (drop 8 bytes))))

abbrev pub with_word : ℕ → List ℕ → ℕ → ℕ → Result (Option Front) FrameFault
with_word at bytes len word = with_form at bytes len (form_of (word / 2 ^ 24)) (word % 2 ^ 24)

unfoldable pub with_length : ℕ → List ℕ → ℕ → Result (Option Front) FrameFault
with_length at bytes len =
    if nat_lt len 4 || nat_lt 16777216 len then Err (faults.BadLength at)
    else (if nat_lt (length bytes) 8 then Ok None
    else with_word at bytes len (from_be_bytes w32 (take 4 (drop 4 bytes))))

-- the front of the frame that begins here, nothing as long as it isn't whole, or its first fault from the left
unfoldable pub first_of : ℕ → List ℕ → Result (Option Front) FrameFault
first_of at bytes = if nat_lt (length bytes) 4 then Ok None else with_length at bytes (from_be_bytes w32 (take 4 bytes))

-- ---- the frame

-- the frame that has this front, and the bytes after it, once they are there
unfoldable pub whole : ℕ → List ℕ → Front → Option (Frame × List ℕ)
whole at bytes f =
    if nat_lt (length bytes) f.len then None
    else Some (
      record {
        at = at;
        form = f.form;
        header = f.header;
        body = take (f.len - (8 + f.header_len)) (drop (8 + f.header_len) bytes);
      },
      drop f.len bytes,
    )

abbrev pub then_whole : ℕ → List ℕ → Result (Option Front) FrameFault → Result (Option (Frame × List ℕ)) FrameFault
then_whole at bytes (Err e) = Err e
then_whole at bytes (Ok None) = Ok None
then_whole at bytes (Ok (Some f)) = Ok (whole at bytes f)

-- the frame that begins here and the bytes after it, nothing as long as it isn't whole, or its fault
abbrev pub next_of : ℕ → List ℕ → Result (Option (Frame × List ℕ)) FrameFault
next_of at bytes = then_whole at bytes (first_of at bytes)
