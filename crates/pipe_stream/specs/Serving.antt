-- Requests that were served, one after another: what was heard of each, what happened for it, and what was written.
use Rattle.std.specs.Prelude.{◌≡◌, ◌⊎◌, ℕ, ◌++◌, List, [], ◌∷◌, flat_map, map, Option, Some, None, Result, Ok, Err}
use Rattle.mq_outside.specs.Readings.{Giving}
use Rattle.remoting_frame.specs.declared.frame.Frame.{Frame}
use Rattle.reply_fields.specs.Parts.{AskParts, ReplyParts}
use Rattle.request_fields.specs.Reading.{Reads, request_of}
use Rattle.request_fields.specs.declared.request.Request.{Request}
use Rattle.request_fields.specs.declared.fault.RequestFault.{RequestFault}
use Rattle.session.specs.Hearing.{is_one_way}
use Rattle.session.specs.Talks.{requests_of}
use Rattle.session.specs.declared.caller.Caller.{Caller}
use Rattle.session.specs.declared.owed.Awaits.{Awaits}
use Rattle.worker_turns.specs.Turns.{Steps}
use Rattle.worker_turns.specs.Acts.{Act, Acts, Change, DiskView, Place, HasUnwritten, change_of}
use Rattle.worker_turns.specs.Turning.{AreTurnsAndDispatch}
use Rattle.worker_turns.specs.Due.{AreDueAsks}
use Rattle.pipe_stream.specs.Asking.{IsGiven, IsLooked}
use Rattle.pipe_stream.specs.Telling.{FaultCounts, fault_counts, IsTold, TookPart, asks_bytes, count_after}
use Rattle.pipe_stream.specs.declared.answer.Answer.{Answer}
use Rattle.pipe_stream.specs.declared.stop.Stop.{Stop}
use Rattle.pipe_stream.specs.declared.stop.Stop.TheVariants.{Clock, Sink, Memory, Misplaced}

-- who makes the broker's steps, what reads of stored pieces give, what is seen of the disk, and that the sink and the clock tell
-- what they hold
pub record Sides (C D : Type 0) : Type 1 where
  pub makes : Steps C
  pub gives : Giving
  pub disk : DiskView D
  pub sink : Type 0
  pub clock : Type 0

abbrev pub sides_of : {C D : Type 0} → Steps C → Giving → DiskView D → Type 0 → Type 0 → Sides C D
sides_of makes gives disk sink clock = record { makes = makes; gives = gives; disk = disk; sink = sink; clock = clock }

-- the disk, how often reads of stored pieces failed, what the sink took, the readings that the clock gave, and how many check-backs
-- were written
pub record Point (D : Type 0) : Type 0 where
  pub place : Place D
  pub reads : ℕ
  pub taken : List ℕ
  pub readings : List ℕ
  pub asked : ℕ

abbrev pub point_at : {D : Type 0} → Place D → ℕ → List ℕ → List ℕ → ℕ → Point D
point_at place reads taken readings asked =
    record { place = place; reads = reads; taken = taken; readings = readings; asked = asked }

-- none was written
abbrev pub point_of : {D : Type 0} → Place D → ℕ → List ℕ → List ℕ → Point D
point_of place reads taken readings = point_at place reads taken readings 0

-- the places of the disk in it
abbrev pub places_of : {C D : Type 0} → Change C (Point D) → Change C (Place D)
places_of change = change_of change.calls change.place.place change.calls_then change.place_then.place

-- ---- one request

-- who waits for the answer to the frame
abbrev pub caller_of : Frame → Caller
caller_of frame = record { form = frame.form; opaque = frame.header.opaque; one_way = is_one_way frame.header }

-- the reply to the answer: at once, or by what became of the record that it tells of
abbrev pub IsSettled : ReplyParts → Option Awaits → ReplyParts → List Act → Type 0
IsSettled said None reply acts = (reply ≡ said) × (acts ≡ [])
IsSettled said (Some awaits) reply acts = IsLooked said awaits reply acts

-- behind a reply that is told at once come flush turns
abbrev pub IsFollowed : Option Awaits → List Act → Type 0
IsFollowed None acts = AreTurnsAndDispatch acts
IsFollowed (Some awaits) acts = acts ≡ []

-- a request, the reading that was taken for it, the check-backs that were written before its answer, what happened for it, and the
-- bytes of its answer
pub record Served : Type 0 where
  pub frame : Frame
  pub reading : ℕ
  pub asks : List AskParts
  pub acts : List Act
  pub bytes : List ℕ

abbrev pub served_with : Frame → ℕ → List AskParts → List Act → List ℕ → Served
served_with frame reading asks acts bytes =
    record { frame = frame; reading = reading; asks = asks; acts = acts; bytes = bytes }

-- without check-backs
abbrev pub served_as : Frame → ℕ → List Act → List ℕ → Served
served_as frame reading acts bytes = served_with frame reading [] acts bytes

-- what was written for it, where so many check-backs were written before
abbrev pub written_for : ℕ → Served → List ℕ
written_for asked it = asks_bytes asked it.asks ++ it.bytes

-- The frame was read, what it asks was given to the broker at the reading of the clock, its record was waited for if the answer
-- says so, and these are the bytes that answer it.
pub record IsAnswered (gives : Giving) (it : Served) (answer : Answer) (faults : FaultCounts) : Type 0 where
  pub request : Result Request RequestFault
  pub given : List Act
  pub settled : List Act
  pub reply : ReplyParts
  pub read : Reads request (request_of it.frame.header it.frame.body)
  pub is_given : IsGiven it.frame.header.code it.reading request answer given
  pub is_settled : IsSettled answer.reply answer.awaits reply settled
  pub told : IsTold gives (caller_of it.frame) reply faults it.bytes
  pub are_all : it.acts ≡ given ++ settled

-- What was due was delivered and checked and what was pending flushed; the check-backs are those whose records that flushed; it was
-- answered, and flush turns came behind a reply that was told at once.
pub record IsServed (gives : Giving) (it : Served) (faults faults_then : ℕ) : Type 0 where
  pub answer : Answer
  pub before : List Act
  pub first : List Act
  pub later : List Act
  pub turned : AreDueAsks it.reading it.asks before
  pub answered : IsAnswered gives (served_as it.frame it.reading first it.bytes) answer (fault_counts faults faults_then)
  pub followed : IsFollowed answer.awaits later
  pub are_all : it.acts ≡ before ++ (first ++ later)

-- its answer was made, and then its serving broke off
pub record IsPartly (gives : Giving) (it : Served) (faults faults_then : ℕ) : Type 0 where
  pub answer : Answer
  pub before : List Act
  pub first : List Act
  pub later : List Act
  pub turned : AreDueAsks it.reading it.asks before
  pub answered : IsAnswered gives (served_as it.frame it.reading first it.bytes) answer (fault_counts faults faults_then)
  pub are_all : it.acts ≡ before ++ (first ++ later)

-- there are no bytes to write for it
pub record IsSilent (it : Served) : Type 0 where
  pub no_asks : it.asks ≡ []
  pub no_bytes : it.bytes ≡ []

-- its check-backs were made, and then its serving broke off
pub record IsAskedFirst (it : Served) : Type 0 where
  pub before : List Act
  pub later : List Act
  pub turned : AreDueAsks it.reading it.asks before
  pub no_bytes : it.bytes ≡ []
  pub are_all : it.acts ≡ before ++ later

-- one of the two
abbrev pub IsCut : Giving → Served → ℕ → ℕ → Type 0
IsCut gives it faults faults_then = IsAskedFirst it ⊎ IsPartly gives it faults faults_then

-- ---- many

-- each of them was served, while the reader's count of faults went from the first to the last
abbrev pub AreServed : Giving → ℕ → List Served → ℕ → Type 0
AreServed gives faults [] faults_then = faults_then ≡ faults
AreServed gives faults (it ∷ served) faults_then = (mid : ℕ) × IsServed gives it faults mid × AreServed gives mid served faults_then

-- what happened for all of them
abbrev pub acts_of : List Served → List Act
acts_of [] = []
acts_of (it ∷ served) = it.acts ++ acts_of served

-- the check-backs that were written
abbrev pub asks_of : List Served → List AskParts
asks_of = flat_map (λ it. it.asks)

-- what was written for all of them, where so many check-backs were written before
abbrev pub bytes_of : ℕ → List Served → List ℕ
bytes_of asked [] = []
bytes_of asked (it ∷ served) = written_for asked it ++ bytes_of (count_after asked it.asks) served

abbrev pub frames_of : List Served → List Frame
frames_of = map (λ it. it.frame)

abbrev pub readings_of : List Served → List ℕ
readings_of = map (λ it. it.reading)

-- The requests among the frames were served, in order. What is said of the sink and the clock is said where these tell what they
-- hold.
pub record Ran {C D : Type 0} (sides : Sides C D) (frames : List Frame) (change : Change C (Point D)) : Type 0 where
  pub served : List Served
  pub asked : frames_of served ≡ requests_of frames
  pub each : AreServed sides.gives change.place.reads served change.place_then.reads
  pub happened : Acts sides.makes sides.disk (acts_of served) (places_of change)
  pub answered : sides.sink → change.place_then.taken ≡ change.place.taken ++ bytes_of change.place.asked served
  pub counted : change.place_then.asked ≡ count_after change.place.asked (asks_of served)
  pub read : sides.clock → change.place_then.readings ≡ change.place.readings ++ readings_of served

-- What was begun when serving broke off: nothing, where the clock failed or memory ran out between two requests; a request with
-- what happened for it, whose bytes are none, those of its check-backs, or these and those of its answer; and behind the last one, at
-- one more reading, the last turns with their check-backs.
pub data Begun : Type 0 where
  Nothing : Begun
  Asked : Served → Begun
  Closing : (reading : ℕ) → List AskParts → List Act → Begun

-- The bytes that were to be written for it, where so many check-backs were written before.
abbrev pub begun_bytes : ℕ → Begun → List ℕ
begun_bytes asked Nothing = []
begun_bytes asked (Asked it) = written_for asked it
begun_bytes asked (Closing reading asks acts) = asks_bytes asked asks

abbrev pub begun_acts : Begun → List Act
begun_acts Nothing = []
begun_acts (Asked it) = it.acts
begun_acts (Closing reading asks acts) = acts

abbrev pub begun_readings : Begun → List ℕ
begun_readings Nothing = []
begun_readings (Asked it) = it.reading ∷ []
begun_readings (Closing reading asks acts) = reading ∷ []

-- it is the first of the requests that were not served, and none was left where the last turns were begun
abbrev pub IsNext : Begun → List Frame → Type 0
IsNext Nothing left = Unit {0}
IsNext (Asked it) [] = ⊥
IsNext (Asked it) (frame ∷ left) = it.frame ≡ frame
IsNext (Closing reading asks acts) left = left ≡ []

-- what the acts have where this broke them off: a batch that was taken and not written, where one was misplaced
abbrev pub StoppedIn : Stop → List Act → Type 0
StoppedIn Clock acts = Unit {0}
StoppedIn Sink acts = Unit {0}
StoppedIn Memory acts = Unit {0}
StoppedIn Misplaced acts = HasUnwritten acts

-- what was begun, by what broke it off
abbrev pub Breaks : Giving → Stop → Begun → ℕ → ℕ → Type 0
Breaks gives Clock begun faults faults_then = begun ≡ Nothing
Breaks gives Sink Nothing faults faults_then = ⊥
Breaks gives Sink (Asked it) faults faults_then = IsCut gives it faults faults_then
Breaks gives Sink (Closing reading asks acts) faults faults_then = AreDueAsks reading asks acts
Breaks gives Memory Nothing faults faults_then = Unit {0}
Breaks gives Memory (Asked it) faults faults_then = IsSilent it ⊎ IsCut gives it faults faults_then
Breaks gives Memory (Closing reading asks acts) faults faults_then = (asks ≡ []) ⊎ AreDueAsks reading asks acts
Breaks gives Misplaced Nothing faults faults_then = ⊥
Breaks gives Misplaced (Asked it) faults faults_then = HasUnwritten it.acts × (IsSilent it ⊎ IsCut gives it faults faults_then)
Breaks gives Misplaced (Closing reading asks acts) faults faults_then = HasUnwritten acts × (asks ≡ [])

-- The same where this ended it. What was written of what was begun is a front of its bytes.
pub record Broke {C D : Type 0} (sides : Sides C D) (stop : Stop) (frames : List Frame) (change : Change C (Point D)) : Type 0 where
  pub served : List Served
  pub begun : Begun
  pub left : List Frame
  pub mid : ℕ
  pub asked : frames_of served ++ left ≡ requests_of frames
  pub next : IsNext begun left
  pub each : AreServed sides.gives change.place.reads served mid
  pub breaks : Breaks sides.gives stop begun mid change.place_then.reads
  pub happened : Acts sides.makes sides.disk (acts_of served ++ begun_acts begun) (places_of change)
  pub answered : sides.sink → TookPart (change.place.taken ++ bytes_of change.place.asked served) change.place_then.taken
      (begun_bytes (count_after change.place.asked (asks_of served)) begun)
  pub read : sides.clock → change.place_then.readings ≡ change.place.readings ++ (readings_of served ++ begun_readings begun)

-- which of the two it is
abbrev pub Serves : {C D A : Type 0} → Sides C D → Result A Stop → List Frame → Change C (Point D) → Type 0
Serves sides (Ok done) frames change = Ran sides frames change
Serves sides (Err stop) frames change = Broke sides stop frames change

-- ---- one request, step by step

-- the answer was told, and this happened for it
pub record HasAnswered {C D : Type 0} (sides : Sides C D) (caller : Caller) (answer : Answer)
    (change : Change C (Point D)) : Type 0 where
  pub settled : List Act
  pub followed : List Act
  pub reply : ReplyParts
  pub bytes : List ℕ
  pub is_settled : IsSettled answer.reply answer.awaits reply settled
  pub is_followed : IsFollowed answer.awaits followed
  pub told : IsTold sides.gives caller reply (fault_counts change.place.reads change.place_then.reads) bytes
  pub happened : Acts sides.makes sides.disk (settled ++ followed) (places_of change)
  pub taken_is : sides.sink → change.place_then.taken ≡ change.place.taken ++ bytes

-- it was made, and then its serving broke off
pub record HasPartly {C D : Type 0} (sides : Sides C D) (stop : Stop) (caller : Caller) (answer : Answer)
    (change : Change C (Point D)) : Type 0 where
  pub settled : List Act
  pub followed : List Act
  pub reply : ReplyParts
  pub bytes : List ℕ
  pub is_settled : IsSettled answer.reply answer.awaits reply settled
  pub told : IsTold sides.gives caller reply (fault_counts change.place.reads change.place_then.reads) bytes
  pub happened : Acts sides.makes sides.disk (settled ++ followed) (places_of change)
  pub stopped : StoppedIn stop (settled ++ followed)
  pub took : sides.sink → TookPart change.place.taken change.place_then.taken bytes

-- it was not made
pub record HasBroken {C D : Type 0} (sides : Sides C D) (stop : Stop) (change : Change C (Point D)) : Type 0 where
  pub acts : List Act
  pub happened : Acts sides.makes sides.disk acts (places_of change)
  pub stopped : StoppedIn stop acts
  pub still : sides.sink → change.place_then.taken ≡ change.place.taken

-- which of them, by what ended it
abbrev pub Answers : {C D A : Type 0} → Sides C D → Caller → Answer → Result A Stop → Change C (Point D) → Type 0
Answers sides caller answer (Ok done) change = HasAnswered sides caller answer change
Answers sides caller answer (Err Clock) change = ⊥
Answers sides caller answer (Err Sink) change = HasPartly sides Sink caller answer change
Answers sides caller answer (Err Memory) change = HasPartly sides Memory caller answer change ⊎ HasBroken sides Memory change
Answers sides caller answer (Err Misplaced) change = HasPartly sides Misplaced caller answer change ⊎ HasBroken sides Misplaced change

-- the frame's request was given and answered
pub record HasHeard {C D : Type 0} (sides : Sides C D) (frame : Frame) (reading : ℕ) (change : Change C (Point D)) : Type 0 where
  pub answer : Answer
  pub first : List Act
  pub later : List Act
  pub bytes : List ℕ
  pub answered : IsAnswered sides.gives (served_as frame reading first bytes) answer
      (fault_counts change.place.reads change.place_then.reads)
  pub followed : IsFollowed answer.awaits later
  pub happened : Acts sides.makes sides.disk (first ++ later) (places_of change)
  pub taken_is : sides.sink → change.place_then.taken ≡ change.place.taken ++ bytes

-- its answer was made, and then its serving broke off
pub record HasPartlyHeard {C D : Type 0} (sides : Sides C D) (stop : Stop) (frame : Frame) (reading : ℕ)
    (change : Change C (Point D)) : Type 0 where
  pub answer : Answer
  pub first : List Act
  pub later : List Act
  pub bytes : List ℕ
  pub answered : IsAnswered sides.gives (served_as frame reading first bytes) answer
      (fault_counts change.place.reads change.place_then.reads)
  pub happened : Acts sides.makes sides.disk (first ++ later) (places_of change)
  pub stopped : StoppedIn stop (first ++ later)
  pub took : sides.sink → TookPart change.place.taken change.place_then.taken bytes

-- which of them, by what ended it
abbrev pub AnswersHeard : {C D A : Type 0} → Sides C D → Frame → ℕ → Result A Stop → Change C (Point D) → Type 0
AnswersHeard sides frame reading (Ok done) change = HasHeard sides frame reading change
AnswersHeard sides frame reading (Err Clock) change = ⊥
AnswersHeard sides frame reading (Err Sink) change = HasPartlyHeard sides Sink frame reading change
AnswersHeard sides frame reading (Err Memory) change = HasPartlyHeard sides Memory frame reading change ⊎ HasBroken sides Memory change
AnswersHeard sides frame reading (Err Misplaced) change = HasPartlyHeard sides Misplaced frame reading change
    ⊎ HasBroken sides Misplaced change

-- what was due was done, and the check-backs that came of it were written
pub record HasAsked {C D : Type 0} (makes : Steps C) (view : DiskView D) (sink : Type 0) (reading : ℕ)
    (change : Change C (Point D)) : Type 0 where
  pub asks : List AskParts
  pub acts : List Act
  pub due : AreDueAsks reading asks acts
  pub happened : Acts makes view acts (places_of change)
  pub taken_is : sink → change.place_then.taken ≡ change.place.taken ++ asks_bytes change.place.asked asks
  pub counted : change.place_then.asked ≡ count_after change.place.asked asks

-- the same where only a front of them was written
pub record HasPartlyAsked {C D : Type 0} (makes : Steps C) (view : DiskView D) (sink : Type 0) (reading : ℕ)
    (change : Change C (Point D)) : Type 0 where
  pub asks : List AskParts
  pub acts : List Act
  pub due : AreDueAsks reading asks acts
  pub happened : Acts makes view acts (places_of change)
  pub took : sink → TookPart change.place.taken change.place_then.taken (asks_bytes change.place.asked asks)

-- it broke off, and nothing was written
pub record HasAskedNone {C D : Type 0} (makes : Steps C) (view : DiskView D) (sink : Type 0) (stop : Stop)
    (change : Change C (Point D)) : Type 0 where
  pub acts : List Act
  pub happened : Acts makes view acts (places_of change)
  pub stopped : StoppedIn stop acts
  pub still : sink → change.place_then.taken ≡ change.place.taken

-- which of them, by what ended it
abbrev pub AsksFirst : {C D A : Type 0} → Steps C → DiskView D → Type 0 → ℕ → Result A Stop → Change C (Point D) → Type 0
AsksFirst makes view sink reading (Ok done) change = HasAsked makes view sink reading change
AsksFirst makes view sink reading (Err Clock) change = ⊥
AsksFirst makes view sink reading (Err Sink) change = HasPartlyAsked makes view sink reading change
AsksFirst makes view sink reading (Err Memory) change = HasPartlyAsked makes view sink reading change
    ⊎ HasAskedNone makes view sink Memory change
AsksFirst makes view sink reading (Err Misplaced) change = HasAskedNone makes view sink Misplaced change

-- the frame's request was served
pub record HasServed {C D : Type 0} (sides : Sides C D) (frame : Frame) (reading : ℕ) (change : Change C (Point D)) : Type 0 where
  pub asks : List AskParts
  pub acts : List Act
  pub bytes : List ℕ
  pub served : IsServed sides.gives (served_with frame reading asks acts bytes) change.place.reads change.place_then.reads
  pub happened : Acts sides.makes sides.disk acts (places_of change)
  pub taken_is : sides.sink → change.place_then.taken ≡ change.place.taken ++ (asks_bytes change.place.asked asks ++ bytes)
  pub counted : change.place_then.asked ≡ count_after change.place.asked asks

-- its check-backs or its answer were made, and then its serving broke off
pub record HasPartlyServed {C D : Type 0} (sides : Sides C D) (stop : Stop) (frame : Frame) (reading : ℕ)
    (change : Change C (Point D)) : Type 0 where
  pub asks : List AskParts
  pub acts : List Act
  pub bytes : List ℕ
  pub served : IsCut sides.gives (served_with frame reading asks acts bytes) change.place.reads change.place_then.reads
  pub happened : Acts sides.makes sides.disk acts (places_of change)
  pub stopped : StoppedIn stop acts
  pub took : sides.sink → TookPart change.place.taken change.place_then.taken (asks_bytes change.place.asked asks ++ bytes)

abbrev pub ServesAt : {C D A : Type 0} → Sides C D → Frame → ℕ → Result A Stop → Change C (Point D) → Type 0
ServesAt sides frame reading (Ok done) change = HasServed sides frame reading change
ServesAt sides frame reading (Err Clock) change = ⊥
ServesAt sides frame reading (Err Sink) change = HasPartlyServed sides Sink frame reading change
ServesAt sides frame reading (Err Memory) change = HasPartlyServed sides Memory frame reading change ⊎ HasBroken sides Memory change
ServesAt sides frame reading (Err Misplaced) change = HasPartlyServed sides Misplaced frame reading change
    ⊎ HasBroken sides Misplaced change
