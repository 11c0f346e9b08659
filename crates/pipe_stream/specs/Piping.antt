-- A stream of requests that was served, by what ended it.
use Rattle.std.specs.Prelude.{◌≡◌, ◌≢◌, ◌⊎◌, ℕ, ◌^◌, ◌++◌, List, [], ◌∷◌, length, Option, Some, None, Result, Ok, Err}
use Rattle.mq_outside.specs.Counts.{Rises}
use Rattle.remoting_frame.specs.Held.{Held}
use Rattle.remoting_frame.specs.Frames.{next_of}
use Rattle.remoting_frame.specs.Streams.{BeginsWith}
use Rattle.remoting_frame.specs.declared.frame.Frame.{Frame}
use Rattle.remoting_frame.specs.declared.fault.FrameFault.{FrameFault}
use Rattle.remoting_frame.specs.declared.fault.FrameFault.TheVariants as faults
use Rattle.session.specs.Hearing.{HearsNext, HearsNone}
use Rattle.session.specs.declared.heard.Heard.{Heard}
use Rattle.reply_fields.specs.Parts.{AskParts}
use Rattle.worker_turns.specs.Turns.{Steps}
use Rattle.worker_turns.specs.Acts.{Act, Acts, Change, DiskView, IsStill, HasUnwritten}
use Rattle.worker_turns.specs.Due.{AreDueAsks}
use Rattle.pipe_stream.specs.Telling.{FaultCounts, TookPart, asks_bytes, count_after}
use Rattle.pipe_stream.specs.Serving.{Sides, Point, Served, Ran, Broke, AreServed, acts_of, asks_of, begun_acts, bytes_of, frames_of}
use Rattle.pipe_stream.specs.Serving.{places_of, readings_of}
use Rattle.session.specs.Talks.{requests_of}
use Rattle.pipe_stream.specs.declared.stop.Stop.{Stop}
use Rattle.pipe_stream.specs.declared.stop.Stop.TheVariants.{Clock, Sink, Memory, Misplaced}
use Rattle.pipe_stream.specs.declared.stop.Halt.{Halt}
use Rattle.pipe_stream.specs.declared.stop.Halt.TheVariants.{BadFrame, Read, Stopped}

-- ---- causes

-- the sink's and the clock's counts of faults: each rises where it ended the serving of a request
abbrev pub CountsStop : {A : Type 0} → Result A Stop → FaultCounts → FaultCounts → Type 0
CountsStop (Ok done) sink clock = (sink.new ≡ sink.old) × (clock.new ≡ clock.old)
CountsStop (Err Clock) sink clock = Rises clock.old clock.new
CountsStop (Err Sink) sink clock = Rises sink.old sink.new
CountsStop (Err Memory) sink clock = Unit {0}
CountsStop (Err Misplaced) sink clock = Unit {0}

-- of the frames that are held
abbrev pub CountsHalt : {A : Type 0} → Result A Halt → FaultCounts → FaultCounts → Type 0
CountsHalt (Ok done) sink clock = (sink.new ≡ sink.old) × (clock.new ≡ clock.old)
CountsHalt (Err (BadFrame place)) sink clock = Unit {0}
CountsHalt (Err Read) sink clock = ⊥
CountsHalt (Err (Stopped stop)) sink clock = CountsStop {A = Unit {0}} (Err stop) sink clock

-- of the last turns
abbrev pub CountsClosing : {A : Type 0} → Result A Halt → FaultCounts → FaultCounts → Type 0
CountsClosing (Ok done) sink clock = Unit {0}
CountsClosing (Err (BadFrame place)) sink clock = ⊥
CountsClosing (Err Read) sink clock = ⊥
CountsClosing (Err (Stopped stop)) sink clock = CountsStop {A = Unit {0}} (Err stop) sink clock

-- of a whole stream
abbrev pub CountsPipe : {A : Type 0} → Result A Halt → (source sink clock : FaultCounts) → Type 0
CountsPipe (Ok done) source sink clock = Unit {0}
CountsPipe (Err (BadFrame place)) source sink clock = Unit {0}
CountsPipe (Err Read) source sink clock = Rises source.old source.new
CountsPipe (Err (Stopped stop)) source sink clock = CountsStop {A = Unit {0}} (Err stop) sink clock

-- ---- frames that are held

-- the frame that starts there is none
abbrev pub IsFaultAt : ℕ → FrameFault → Type 0
IsFaultAt place (faults.BadLength at) = at ≡ place
IsFaultAt place (faults.BadForm at) = at ≡ place
IsFaultAt place (faults.BadHeader at) = at ≡ place
IsFaultAt place faults.Memory = ⊥

-- the stream has a fault where it goes on, and it starts at the place
pub record FaultAt (place : ℕ) (held : Held) : Type 0 where
  pub fault : FrameFault
  pub is : next_of held.at held.bytes ≡ Err fault
  pub at : IsFaultAt place fault

-- what a fault of the stream ends the reading as
abbrev pub halt_of : FrameFault → Halt
halt_of (faults.BadLength at) = BadFrame at
halt_of (faults.BadForm at) = BadFrame at
halt_of (faults.BadHeader at) = BadFrame at
halt_of faults.Memory = Stopped Memory

-- what a talk gave: a request, nothing yet, or the place at which there is no frame
abbrev pub NextHeard : Held → Result (Option Heard) Halt → Held → Type 0
NextHeard old (Ok (Some heard)) new = HearsNext heard old new
NextHeard old (Ok None) new = HearsNone old new (next_of new.at new.bytes ≡ Ok None)
NextHeard old (Err (BadFrame place)) new = HearsNone old new (FaultAt place new)
NextHeard old (Err Read) new = ⊥
NextHeard old (Err (Stopped stop)) new = HearsNone old new (stop ≡ Memory)

-- all requests were served, or this ended it at one of them
abbrev pub RanBy : {C D A : Type 0} → Sides C D → Result A Halt → List Frame → Change C (Point D) → Type 0
RanBy sides (Ok done) frames change = Ran sides frames change
RanBy sides (Err (BadFrame place)) frames change = Ran sides frames change
RanBy sides (Err Read) frames change = Ran sides frames change
RanBy sides (Err (Stopped stop)) frames change = Broke sides stop frames change

-- what stands behind the frames that were served
abbrev pub HaltsAt : {A : Type 0} → Result A Halt → Held → Type 0
HaltsAt (Ok done) held = next_of held.at held.bytes ≡ Ok None
HaltsAt (Err (BadFrame place)) held = FaultAt place held
HaltsAt (Err Read) held = ⊥
HaltsAt (Err (Stopped stop)) held = Unit {0}

-- the frames at the front of what was held were served
pub record ServesHeld {C D A : Type 0} (sides : Sides C D) (result : Result A Halt) (held held_then : Held)
    (change : Change C (Point D)) : Type 0 where
  pub frames : List Frame
  pub cut : BeginsWith held.at held.bytes frames held_then.at held_then.bytes
  pub ran : RanBy sides result frames change
  pub halts : HaltsAt result held_then

-- the same while more may be held
pub record ServedHeld {C D : Type 0} (sides : Sides C D) (held held_then : Held) (change : Change C (Point D)) : Type 0 where
  pub frames : List Frame
  pub cut : BeginsWith held.at held.bytes frames held_then.at held_then.bytes
  pub ran : Ran sides frames change

-- ---- the whole stream

-- A source over a call: that it tells what it gave, what it had given and has given then, and what it has left.
pub record SourceSeen : Type 1 where
  pub tells : Type 0
  pub given : List ℕ
  pub given_then : List ℕ
  pub left_then : List ℕ

abbrev pub source_of : Type 0 → List ℕ → List ℕ → List ℕ → SourceSeen
source_of tells given given_then left_then = record { tells = tells; given = given; given_then = given_then; left_then = left_then }

-- how many bytes a stream may have
abbrev pub stream_limit : ℕ
stream_limit = 2 ^ 62

-- the bytes end in a part of a frame, which starts at the place, and the source has no more
pub record EndsInside (place at : ℕ) (rest : List ℕ) (source : Type 0) (left : List ℕ) : Type 0 where
  pub place_is : place ≡ at
  pub some : rest ≢ []
  pub waits : next_of at rest ≡ Ok None
  pub over : source → left ≡ []

-- There is no frame at the place: a fault is there, or the bytes end inside a frame, or as many were read as a stream may have.
abbrev pub IsBadAt : ℕ → ℕ → List ℕ → List ℕ → Type 0 → List ℕ → Type 0
IsBadAt place at rest bytes source left =
    FaultAt place (record { at = at; bytes = rest }) ⊎ (EndsInside place at rest source left
    ⊎ ((place ≡ stream_limit) × (length bytes ≡ stream_limit)))

-- how the bytes behind the last frame end the reading
abbrev pub EndsBy : {A : Type 0} → Result A Halt → ℕ → List ℕ → List ℕ → Type 0 → List ℕ → Type 0
EndsBy (Ok done) at rest bytes source left = (rest ≡ []) × (source → left ≡ [])
EndsBy (Err (BadFrame place)) at rest bytes source left = IsBadAt place at rest bytes source left
EndsBy (Err Read) at rest bytes source left = next_of at rest ≡ Ok None
EndsBy (Err (Stopped stop)) at rest bytes source left = Unit {0}

-- All requests among the frames were served, in order, and behind them the last turns were made, at one more reading, and their
-- check-backs written.
pub record RanOut {C D : Type 0} (sides : Sides C D) (frames : List Frame) (change : Change C (Point D)) : Type 0 where
  pub served : List Served
  pub reading : ℕ
  pub asks : List AskParts
  pub last : List Act
  pub due : AreDueAsks reading asks last
  pub asked : frames_of served ≡ requests_of frames
  pub each : AreServed sides.gives change.place.reads served change.place_then.reads
  pub happened : Acts sides.makes sides.disk (acts_of served ++ last) (places_of change)
  pub answered : sides.sink → change.place_then.taken ≡ change.place.taken
      ++ (bytes_of change.place.asked served ++ asks_bytes (count_after change.place.asked (asks_of served)) asks)
  pub read : sides.clock → change.place_then.readings ≡ change.place.readings ++ (readings_of served ++ reading ∷ [])

-- all requests were served, and the last turns made; or this ended it
abbrev pub RanToEnd : {C D A : Type 0} → Sides C D → Result A Halt → List Frame → Change C (Point D) → Type 0
RanToEnd sides (Ok done) frames change = RanOut sides frames change
RanToEnd sides (Err (BadFrame place)) frames change = Ran sides frames change
RanToEnd sides (Err Read) frames change = Ran sides frames change
RanToEnd sides (Err (Stopped stop)) frames change = Broke sides stop frames change

-- the change with this count of check-backs behind it
abbrev pub counted_to : {C D : Type 0} → ℕ → Change C (Point D) → Change C (Point D)
counted_to asked change = record change { place_then = record change.place_then { asked = asked } }

-- The bytes that were read are these frames and what stands behind them, and the requests among the frames were served in order,
-- with the last turns behind them, or those before the one at which this ended it.
pub record Piped {C D A : Type 0} (sides : Sides C D) (result : Result A Halt) (source : SourceSeen)
    (change : Change C (Point D)) : Type 0 where
  pub bytes : List ℕ
  pub frames : List Frame
  pub at : ℕ
  pub rest : List ℕ
  pub given_is : source.tells → source.given_then ≡ source.given ++ bytes
  pub cut : BeginsWith 0 bytes frames at rest
  pub ends : EndsBy result at rest bytes source.tells source.left_then
  pub asked : ℕ
  pub ran : RanToEnd sides result frames (counted_to asked change)

-- the source gave these bytes, where it tells what it gives
abbrev pub Gave : Type 0 → List ℕ → List ℕ → List ℕ → Type 0
Gave source given given_then bytes = source → given_then ≡ given ++ bytes

-- so many bytes were read, all of their frames were served, and the rest is held
pub record SoFar {C D : Type 0} (sides : Sides C D) (total : ℕ) (held : Held) (gave : List ℕ → Type 0)
    (change : Change C (Point D)) : Type 0 where
  pub bytes : List ℕ
  pub frames : List Frame
  pub total_is : length bytes ≡ total
  pub given_is : gave bytes
  pub cut : BeginsWith 0 bytes frames held.at held.bytes
  pub ran : Ran sides frames change

-- nothing is held where the source ended between two frames, and else the place is that of the frame that it ends in
abbrev pub EndsHere : Held → Result (Unit {0}) Halt → Type 0
EndsHere held (Ok done) = held.bytes ≡ []
EndsHere held (Err (BadFrame place)) = (place ≡ held.at) × (held.bytes ≢ [])
EndsHere held (Err Read) = ⊥
EndsHere held (Err (Stopped stop)) = ⊥

-- The last turns were made, at one more reading. Of what happened and its check-backs this is so, and of what was written of these.
pub record HasClosed {C D : Type 0} (makes : Steps C) (view : DiskView D) (sink clock : Type 0)
    (IsKind : ℕ → List AskParts → List Act → Type 0) (Took : (old new piece : List ℕ) → Type 0) (change : Change C (Point D)) : Type 0 where
  pub reading : ℕ
  pub asks : List AskParts
  pub acts : List Act
  pub kind : IsKind reading asks acts
  pub happened : Acts makes view acts (places_of change)
  pub took : sink → Took change.place.taken change.place_then.taken (asks_bytes change.place.asked asks)
  pub read : clock → change.place_then.readings ≡ change.place.readings ++ reading ∷ []

-- without a reading
pub record HasNoReading {C D : Type 0} (sink clock : Type 0) (change : Change C (Point D)) : Type 0 where
  pub still : IsStill (places_of change)
  pub took : sink → change.place_then.taken ≡ change.place.taken
  pub read : clock → change.place_then.readings ≡ change.place.readings

-- how they ended: whole, without a reading, or broken off
abbrev pub Closes : {C D A : Type 0} → Steps C → DiskView D → Type 0 → Type 0 → Result A Halt → Change C (Point D) → Type 0
Closes makes view sink clock (Ok done) change =
    HasClosed makes view sink clock AreDueAsks (λ old new piece. new ≡ old ++ piece) change
Closes makes view sink clock (Err (BadFrame place)) change = ⊥
Closes makes view sink clock (Err Read) change = ⊥
Closes makes view sink clock (Err (Stopped Clock)) change = HasNoReading sink clock change
Closes makes view sink clock (Err (Stopped Sink)) change = HasClosed makes view sink clock AreDueAsks TookPart change
Closes makes view sink clock (Err (Stopped Memory)) change =
    HasClosed makes view sink clock (λ reading asks acts. (asks ≡ []) ⊎ AreDueAsks reading asks acts) TookPart change
Closes makes view sink clock (Err (Stopped Misplaced)) change =
    HasClosed makes view sink clock (λ reading asks acts. HasUnwritten acts × (asks ≡ [])) TookPart change

-- what happened for the requests, and in the last turns
abbrev pub acts_in : {C D A : Type 0} (sides : Sides C D) (result : Result A Halt) (frames : List Frame) (change : Change C (Point D))
    → RanToEnd sides result frames change → List Act
acts_in sides (Ok done) frames change ran = acts_of ran.served ++ ran.last
acts_in sides (Err (BadFrame place)) frames change ran = acts_of ran.served
acts_in sides (Err Read) frames change ran = acts_of ran.served
acts_in sides (Err (Stopped stop)) frames change ran = acts_of ran.served ++ begun_acts ran.begun

-- the same of a stream that was served
abbrev pub acts_read : {C D A : Type 0} (sides : Sides C D) (result : Result A Halt) (source : SourceSeen) (change : Change C (Point D))
    → Piped sides result source change → List Act
acts_read sides result source change piped = acts_in sides result piped.frames (counted_to piped.asked change) piped.ran
