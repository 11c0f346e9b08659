-- Which requests a link's stream has, and what is heard of each.
use Rattle.std.specs.Prelude.{◌≡◌, ◌==◌, ◌/◌, ◌%◌, ◌++◌, List, [], ◌∷◌, Bool, true, false, Option, Some, None, Result, Ok, Err}
use Rattle.std.specs.Int.{w32, cast_unsigned}
use Rattle.remoting_frame.specs.Head.{Head}
use Rattle.remoting_frame.specs.Held.{Held}
use Rattle.remoting_frame.specs.Frames.{next_of}
use Rattle.remoting_frame.specs.FaultForm.{HasHeader}
use Rattle.remoting_frame.specs.Streams.{BeginsWith}
use Rattle.remoting_frame.specs.declared.frame.Frame.{Frame}
use Rattle.remoting_frame.specs.declared.fault.FrameFault.{FrameFault}
use Rattle.remoting_frame.specs.declared.fault.FrameFault.TheVariants as faults
use Rattle.request_fields.specs.Reading.{Reads, request_of}
use Rattle.session.specs.declared.heard.Heard.{Heard}

-- ---- flags

-- flag bit 0: the frame is a response
abbrev pub is_response : Head → Bool
is_response head = cast_unsigned w32 head.flag % 2 == 1

-- flag bit 1: nobody waits for a reply
abbrev pub is_one_way : Head → Bool
is_one_way head = cast_unsigned w32 head.flag / 2 % 2 == 1

-- each of these frames is a response
abbrev pub AreResponses : List Frame → Type 0
AreResponses [] = Unit {0}
AreResponses (frame ∷ frames) = (is_response frame.header ≡ true) × AreResponses frames

-- ---- what is heard

-- what is heard is what this frame says; of the request, unless memory ran out
pub record IsHeard (heard : Heard) (frame : Frame) : Type 0 where
  pub form : heard.form ≡ frame.form
  pub code : heard.code ≡ frame.header.code
  pub opaque : heard.opaque ≡ frame.header.opaque
  pub one_way : heard.one_way ≡ is_one_way frame.header
  pub request : Reads heard.request (request_of frame.header frame.body)

-- what was held begins with these responses, and the rest is held
pub record Skips (old : Held) (skipped : List Frame) (new : Held) : Type 0 where
  pub begins : BeginsWith old.at old.bytes skipped new.at new.bytes
  pub responses : AreResponses skipped

-- what was held begins with responses and the frame of this request, and the rest is held
pub record HearsNext (heard : Heard) (old new : Held) : Type 0 where
  pub skipped : List Frame
  pub frame : Frame
  pub begins : BeginsWith old.at old.bytes (skipped ++ frame ∷ []) new.at new.bytes
  pub responses : AreResponses skipped
  pub request : is_response frame.header ≡ false
  pub is : IsHeard heard frame

-- what was held begins with responses, and of the rest, which is held, this is so
pub record HearsNone (old new : Held) (rest : Type 0) : Type 0 where
  pub skipped : List Frame
  pub skips : Skips old skipped new
  pub here : rest

-- The next request behind responses. Any other answer is what there is behind them, but that memory may want where a whole
-- header stands.
abbrev pub Hears : Held → Result (Option Heard) FrameFault → Held → Type 0
Hears old (Ok (Some heard)) new = HearsNext heard old new
Hears old (Ok None) new = HearsNone old new (next_of new.at new.bytes ≡ Ok None)
Hears old (Err faults.Memory) new = HearsNone old new (HasHeader new.bytes)
Hears old (Err (faults.BadLength at)) new = HearsNone old new (next_of new.at new.bytes ≡ Err (faults.BadLength at))
Hears old (Err (faults.BadForm at)) new = HearsNone old new (next_of new.at new.bytes ≡ Err (faults.BadForm at))
Hears old (Err (faults.BadHeader at)) new = HearsNone old new (next_of new.at new.bytes ≡ Err (faults.BadHeader at))
