-- Which bytes answer a request, and which ask about half messages.
use Rattle.std.specs.Prelude.{◌≡◌, ◌⊎◌, ℕ, ◌+◌, ◌%◌, ◌^◌, ◌++◌, List, [], ◌∷◌, ℤ, pos, codes, Result, Ok, Err}
use Rattle.mq_bytes.specs.Decimal.{digits_of}
use Rattle.mq_outside.specs.Counts.{Rises}
use Rattle.mq_outside.specs.Readings.{Giving}
use Rattle.reply_fields.specs.Asks.{ask_bytes}
use Rattle.reply_fields.specs.Parts.{AskParts, ReplyParts, plain}
use Rattle.reply_fields.specs.Replies.{AppendsReply}
use Rattle.session.specs.declared.caller.Caller.{Caller}
use Rattle.pipe_stream.specs.Asking.{Chooses}
use Rattle.pipe_stream.specs.declared.stop.Stop.{Stop}
use Rattle.pipe_stream.specs.declared.stop.Stop.TheVariants.{Clock, Sink, Memory, Misplaced}
use Rattle.worker_turns.specs.declared.broken.Broken.{Broken}
use Rattle.worker_turns.specs.declared.broken.Broken.TheVariants as broken

-- what broke acts off ends the reading
abbrev pub stopped_by : Broken → Stop
stopped_by broken.Misplaced = Misplaced
stopped_by broken.Memory = Memory

-- a device's count of faults before and after
pub record FaultCounts : Type 0 where
  pub old : ℕ
  pub new : ℕ

abbrev pub fault_counts : ℕ → ℕ → FaultCounts
fault_counts old new = record { old = old; new = new }

-- A sink over a call: that it tells what it took, and what it had taken and has taken then.
pub record SinkSeen : Type 1 where
  pub tells : Type 0
  pub taken : List ℕ
  pub taken_then : List ℕ

abbrev pub sink_of : Type 0 → List ℕ → List ℕ → SinkSeen
sink_of tells taken taken_then = record { tells = tells; taken = taken; taken_then = taken_then }

-- the reply where stored bytes could not be read, with the count of the reader's faults
abbrev pub unread : ℕ → ReplyParts
unread count = plain (pos 1) (codes "read " ++ digits_of count)

-- the bytes of the reply behind these; or of `read N`, where its stored bytes could not be read and the reader's count rose to N
abbrev pub Appends : Giving → Caller → ReplyParts → FaultCounts → List ℕ → List ℕ → Type 0
Appends gives caller reply faults old new = AppendsReply gives caller.form caller.opaque reply old new
    ⊎ (Rises faults.old faults.new × AppendsReply gives caller.form caller.opaque (unread faults.new) old new)

-- the bytes of the answer: none where nobody waits for one
abbrev pub IsTold : Giving → Caller → ReplyParts → FaultCounts → List ℕ → Type 0
IsTold gives caller reply faults bytes = Chooses caller.one_way (bytes ≡ []) (Appends gives caller reply faults [] bytes)

-- all of the bytes were written, and they are the answer's
pub record HasTold (gives : Giving) (caller : Caller) (reply : ReplyParts) (faults : FaultCounts) (sink : SinkSeen) : Type 0 where
  pub bytes : List ℕ
  pub told : IsTold gives caller reply faults bytes
  pub taken_is : sink.tells → sink.taken_then ≡ sink.taken ++ bytes

-- only first bytes of the piece were taken
pub record TookPart (old new piece : List ℕ) : Type 0 where
  pub part : List ℕ
  pub unwritten : List ℕ
  pub front : part ++ unwritten ≡ piece
  pub taken_is : new ≡ old ++ part

-- of the answer's bytes those at the front were written
pub record HasToldPart (gives : Giving) (caller : Caller) (reply : ReplyParts) (faults : FaultCounts) (sink : SinkSeen) : Type 0 where
  pub bytes : List ℕ
  pub told : IsTold gives caller reply faults bytes
  pub took : sink.tells → TookPart sink.taken sink.taken_then bytes

-- what was written, by what ended it
abbrev pub Tells : {A : Type 0} → Giving → Caller → ReplyParts → FaultCounts → SinkSeen → Result A Stop → Type 0
Tells gives caller reply faults sink (Ok done) = HasTold gives caller reply faults sink
Tells gives caller reply faults sink (Err Clock) = ⊥
Tells gives caller reply faults sink (Err Sink) = HasToldPart gives caller reply faults sink
Tells gives caller reply faults sink (Err Memory) = sink.tells → sink.taken_then ≡ sink.taken
Tells gives caller reply faults sink (Err Misplaced) = ⊥

-- of writing a piece: the sink's count rises exactly where it failed
abbrev pub CountsTelling : {A : Type 0} → Result A Stop → ℕ → ℕ → Type 0
CountsTelling (Ok done) old new = new ≡ old
CountsTelling (Err Clock) old new = ⊥
CountsTelling (Err Sink) old new = Rises old new
CountsTelling (Err Memory) old new = new ≡ old
CountsTelling (Err Misplaced) old new = new ≡ old

-- the bytes of `read N` behind these, where the reader has failed N times
abbrev pub AppendsUnread : Giving → Caller → FaultCounts → List ℕ → List ℕ → Type 0
AppendsUnread gives caller faults old new = (faults.new ≡ faults.old)
    × AppendsReply gives caller.form caller.opaque (unread faults.old) old new

-- all of a reply's bytes were written
pub record HasWrittenReply (gives : Giving) (caller : Caller) (reply : ReplyParts) (faults : FaultCounts) (sink : SinkSeen) : Type 0 where
  pub bytes : List ℕ
  pub are : Appends gives caller reply faults [] bytes
  pub taken_is : sink.tells → sink.taken_then ≡ sink.taken ++ bytes

-- some of them, at the front
pub record HasWrittenPart (gives : Giving) (caller : Caller) (reply : ReplyParts) (faults : FaultCounts) (sink : SinkSeen) : Type 0 where
  pub bytes : List ℕ
  pub are : Appends gives caller reply faults [] bytes
  pub took : sink.tells → TookPart sink.taken sink.taken_then bytes

-- what was written of a reply that somebody waits for
abbrev pub WritesReply : {A : Type 0} → Giving → Caller → ReplyParts → FaultCounts → SinkSeen → Result A Stop → Type 0
WritesReply gives caller reply faults sink (Ok done) = HasWrittenReply gives caller reply faults sink
WritesReply gives caller reply faults sink (Err Clock) = ⊥
WritesReply gives caller reply faults sink (Err Sink) = HasWrittenPart gives caller reply faults sink
WritesReply gives caller reply faults sink (Err Memory) = sink.tells → sink.taken_then ≡ sink.taken
WritesReply gives caller reply faults sink (Err Misplaced) = ⊥

-- ---- check-backs

-- the opaque of a check-back, before which so many were written: they are counted from 0, and from 0 again after 2^31 - 1
abbrev pub opaque_of : ℕ → ℤ
opaque_of asked = pos (asked % 2 ^ 31)

-- the count behind one more, which begins anew after 2^32 - 1
abbrev pub next_count : ℕ → ℕ
next_count asked = (asked + 1) % 2 ^ 32

-- the count behind these
abbrev pub count_after : ℕ → List AskParts → ℕ
count_after asked [] = asked
count_after asked (ask ∷ asks) = count_after (next_count asked) asks

-- the frames of these check-backs, one after another, where so many were written before
abbrev pub asks_bytes : ℕ → List AskParts → List ℕ
asks_bytes asked [] = []
asks_bytes asked (ask ∷ asks) = ask_bytes (opaque_of asked) ask.view ++ asks_bytes (next_count asked) asks

-- these bytes were written, or where that was ended a front of them
abbrev pub WritesPiece : {A : Type 0} → Result A Stop → (old new piece : List ℕ) → Type 0
WritesPiece (Ok done) old new piece = new ≡ old ++ piece
WritesPiece (Err stop) old new piece = TookPart old new piece

-- what ends writing is the sink, or want of memory
abbrev pub EndsWriting : {A : Type 0} → Result A Stop → Type 0
EndsWriting (Ok done) = Unit {0}
EndsWriting (Err Clock) = ⊥
EndsWriting (Err Sink) = Unit {0}
EndsWriting (Err Memory) = Unit {0}
EndsWriting (Err Misplaced) = ⊥
