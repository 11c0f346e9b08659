-- Calls of a session: what they fed, which requests they heard, and the bytes of replies and check-backs that left.
use Rattle.std.specs.Prelude.{◌≡◌, ◌⊎◌, ◌+◌, ◌++◌, ℕ, List, [], ◌∷◌, Bool, true, false, take, drop, filter, map}
use Rattle.std.specs.Prelude.{Option, Some, None, Result, Ok, Err}
use Rattle.reply_fields.specs.Parts.{ReplyParts, AskParts}
use Rattle.reply_fields.specs.Asks.{ask_bytes}
use Rattle.broker_events.specs.declared.event.Event.{Event}
use Rattle.broker_events.specs.declared.event.Event.TheVariants as events
use Rattle.broker_events.specs.declared.said.Said.{Said}
use Rattle.broker_events.specs.declared.said.Said.TheVariants as said
use Rattle.broker_events.specs.declared.said.Awaited.TheVariants.{Flushed, Failed, NotYet}
use Rattle.session.specs.Asking.{Asks, AreFor, opaque_of, next_count, count_after}
use Rattle.session.specs.Talks.{HasHeard}
use Rattle.session.specs.Room.{LooksForRoom, Try, AreTries, AreTriesOf, IsGivenUp, steps_of_tries}
use Rattle.session.specs.Serving.{Made, KeepsRest, KeepsLink, KeepsOut, ServesNext, IsAnswered}
use Rattle.session.specs.Readers.{ReaderView}
use Rattle.session.specs.Settling.{IsDueAfter, IsPut, IsSettled, unsent_of}
use Rattle.session.specs.declared.heard.Heard.{Heard}
use Rattle.session.specs.declared.owed.Owed.{Owed}
use Rattle.session.specs.declared.room.HeldRequest.{HeldRequest}
use Rattle.session.specs.declared.talk.Talk.{Talk}
use Rattle.session.specs.declared.session.Session.{Session}
use Rattle.session.specs.declared.serving.Step.{Step}
use Rattle.session.specs.declared.serving.Halt.{Halt}
use Rattle.session.specs.declared.serving.Halt.TheVariants as halts

-- A piece was fed; the next request was served, by these steps; room was looked for, by these steps; replies were settled, by these
-- steps, so many of them `read N`; these bytes, so many of the unsent ones, were sent; or a check-back was written.
pub data Call : Type 0 where
  fed : List ℕ → Call
  served : ℕ → Made → Result Step Halt → Call
  looked : Made → Result Bool Halt → Call
  settled : Made → ℕ → Call
  sent : ℕ → List ℕ → Call
  asked : AskParts → Call

-- memory did not want
abbrev pub HadMemory : Result Step Halt → Type 0
HadMemory (Ok step) = Unit {0}
HadMemory (Err (halts.BadFrame at)) = Unit {0}
HadMemory (Err halts.Memory) = ⊥

-- memory did not want where room was looked for
abbrev pub LookedWell : Result Bool Halt → Type 0
LookedWell (Ok may) = Unit {0}
LookedWell (Err halt) = ⊥

-- what the session is after a call in which memory did not want
abbrev pub IsCall : ReaderView → Session → Call → Session → Type 0
IsCall reader old (fed piece) new =
    (new.talk.cutter ≡ record { at = old.talk.cutter.at; bytes = old.talk.cutter.bytes ++ piece }) × KeepsRest old new
IsCall reader old (served now made result) new =
    HadMemory result × ServesNext now old made result new × KeepsLink old new × KeepsOut old new
IsCall reader old (looked made result) new =
    LookedWell result × LooksForRoom old.held old made result new × (new.talk ≡ old.talk) × KeepsOut old new
IsCall reader old (settled made reads) new =
    IsSettled reader old made reads new × (new.held ≡ old.held) × (new.talk ≡ old.talk) × (new.sent ≡ old.sent) × (new.asked ≡ old.asked)
IsCall reader old (sent count bytes) new = (bytes ≡ take count (unsent_of old)) × (unsent_of new ≡ drop count (unsent_of old))
    × (new.held ≡ old.held) × (new.talk ≡ old.talk) × (new.owed.items ≡ old.owed.items) × (new.asked ≡ old.asked)
IsCall reader old (asked ask) new = Asks old ask new

-- these calls, in this order, lead from the old session to the new one
abbrev pub AreCalls : ReaderView → Session → List Call → Session → Type 0
AreCalls reader old [] new = old ≡ new
AreCalls reader old (call ∷ calls) new = (after : Session) × IsCall reader old call after × AreCalls reader after calls new

-- ---- what the calls were given, and gave

-- the piece that a call fed
abbrev pub stream_in : Call → List ℕ
stream_in (fed piece) = piece
stream_in (served now made result) = []
stream_in (looked made result) = []
stream_in (settled made reads) = []
stream_in (sent count bytes) = []
stream_in (asked ask) = []

-- the bytes that were sent
abbrev pub sent_in : Call → List ℕ
sent_in (fed piece) = []
sent_in (served now made result) = []
sent_in (looked made result) = []
sent_in (settled made reads) = []
sent_in (sent count bytes) = bytes
sent_in (asked ask) = []

-- the steps that were made
abbrev pub made_in : Call → Made
made_in (fed piece) = []
made_in (served now made result) = made
made_in (looked made result) = made
made_in (settled made reads) = made
made_in (sent count bytes) = []
made_in (asked ask) = []

-- the steps at which requests were given to the broker, and room for them was looked for
abbrev pub asking_in : Call → Made
asking_in (fed piece) = []
asking_in (served now made result) = made
asking_in (looked made result) = made
asking_in (settled made reads) = []
asking_in (sent count bytes) = []
asking_in (asked ask) = []

-- the steps at which records were looked for that replies wait for
abbrev pub settling_in : Call → Made
settling_in (fed piece) = []
settling_in (served now made result) = []
settling_in (looked made result) = []
settling_in (settled made reads) = made
settling_in (sent count bytes) = []
settling_in (asked ask) = []

-- the check-backs that were written
abbrev pub asks_in : Call → List AskParts
asks_in (fed piece) = []
asks_in (served now made result) = []
asks_in (looked made result) = []
asks_in (settled made reads) = []
asks_in (sent count bytes) = []
asks_in (asked ask) = ask ∷ []

-- how many replies `read N` were written
abbrev pub read_replies_in : Call → ℕ
read_replies_in (fed piece) = 0
read_replies_in (served now made result) = 0
read_replies_in (looked made result) = 0
read_replies_in (settled made reads) = reads
read_replies_in (sent count bytes) = 0
read_replies_in (asked ask) = 0

-- the pieces that were fed, joined
abbrev pub stream_of : List Call → List ℕ
stream_of [] = []
stream_of (call ∷ calls) = stream_in call ++ stream_of calls

-- the bytes that were sent, joined
abbrev pub sent_of : List Call → List ℕ
sent_of [] = []
sent_of (call ∷ calls) = sent_in call ++ sent_of calls

-- all steps that were made, in order
abbrev pub made_of : List Call → Made
made_of [] = []
made_of (call ∷ calls) = made_in call ++ made_of calls

-- those of requests, in order
abbrev pub asking_of : List Call → Made
asking_of [] = []
asking_of (call ∷ calls) = asking_in call ++ asking_of calls

-- those of replies, in order
abbrev pub settling_of : List Call → Made
settling_of [] = []
settling_of (call ∷ calls) = settling_in call ++ settling_of calls

-- all check-backs that were written, in order
abbrev pub asks_of : List Call → List AskParts
asks_of [] = []
asks_of (call ∷ calls) = asks_in call ++ asks_of calls

-- how many replies `read N` were written in all
abbrev pub read_replies_of : List Call → ℕ
read_replies_of [] = 0
read_replies_of (call ∷ calls) = read_replies_in call + read_replies_of calls

-- it was not said that there is no room
abbrev pub has_room : Option Said → Bool
has_room None = true
has_room (Some (said.Reply reply)) = true
has_room (Some (said.After reply number turn)) = true
has_room (Some (said.Full pending)) = false
has_room (Some (said.Batch batch)) = true
has_room (Some said.Done) = true
has_room (Some (said.Awaited what)) = true
has_room (Some (said.Moved number)) = true
has_room (Some said.LogEnd) = true
has_room (Some (said.Delivered what)) = true
has_room (Some (said.Checked what)) = true

-- the event is a request, and found room
abbrev pub applies : Event → Option Said → Bool
applies (events.Request link host now request) what = has_room what
applies events.Take what = false
applies (events.Flushed receipt) what = false
applies (events.FlushFailed count) what = false
applies (events.Look number turn) what = false
applies (events.Dispatch most) what = false
applies (events.Deliver now) what = false
applies (events.Check now) what = false
applies (events.Leave link) what = false

-- the steps at which a request was applied: those at requests, but where there was no room
abbrev pub applied_in : Made → Made
applied_in = filter (λ step. applies step.0 step.1)

-- it became of a record that it is flushed, or that the disk failed
abbrev pub has_come : Option Said → Bool
has_come None = false
has_come (Some (said.Reply reply)) = false
has_come (Some (said.After reply number turn)) = false
has_come (Some (said.Full pending)) = false
has_come (Some (said.Batch batch)) = false
has_come (Some said.Done) = false
has_come (Some (said.Awaited Flushed)) = true
has_come (Some (said.Awaited (Failed count))) = true
has_come (Some (said.Awaited NotYet)) = false
has_come (Some (said.Moved number)) = false
has_come (Some said.LogEnd) = false
has_come (Some (said.Delivered what)) = false
has_come (Some (said.Checked what)) = false

-- the event is a look for a record that is not pending any more
abbrev pub finds : Event → Option Said → Bool
finds (events.Request link host now request) what = false
finds events.Take what = false
finds (events.Flushed receipt) what = false
finds (events.FlushFailed count) what = false
finds (events.Look number turn) what = has_come what
finds (events.Dispatch most) what = false
finds (events.Deliver now) what = false
finds (events.Check now) what = false
finds (events.Leave link) what = false

-- the looks for records that were not pending any more
abbrev pub found_in : Made → Made
found_in = filter (λ step. finds step.0 step.1)

-- ---- what was answered

-- a request, the times that it found no room, the steps by which it was answered then, and what was owed for it
pub record Answer : Type 0 where
  pub heard : Heard
  pub tries : List Try
  pub made : Made
  pub owed : Owed

-- After tries that found no room the answer is what came of the request at some reading of the clock; or it was given up, since a look
-- for the first pending record told a failure of the disk that the look directly after the last try did not tell.
abbrev pub IsAnswer : Talk → Answer → Type 0
IsAnswer talk answer = AreTries talk answer.heard answer.tries
    × (((now : ℕ) × IsAnswered talk now answer.heard answer.owed answer.made)
    ⊎ IsGivenUp answer.heard answer.tries answer.made answer.owed)

abbrev pub AreAnswers : Talk → List Answer → Type 0
AreAnswers talk [] = Unit {0}
AreAnswers talk (answer ∷ answers) = IsAnswer talk answer × AreAnswers talk answers

-- the steps of answers, joined
abbrev pub steps_of : List Answer → Made
steps_of [] = []
steps_of (answer ∷ answers) = (steps_of_tries answer.tries ++ answer.made) ++ steps_of answers

-- the request that found no room
abbrev pub held_in : Option HeldRequest → List Heard
held_in None = []
held_in (Some held) = held.heard ∷ []

-- The bytes are those of the reply that was due for what was owed, after these looks, and none where nobody waits for it. They are
-- `reads` replies `read N`.
pub record IsReplyTo (reader : ReaderView) (owed : Owed) (made : Made) (reads : ℕ) (bytes : List ℕ) : Type 0 where
  pub due : ReplyParts
  pub is : IsDueAfter owed.awaits owed.reply due made
  pub count : ℕ
  pub put : IsPut reader owed.caller due count reads [] bytes

-- the bytes are those of these replies, one after another, each after its looks
abbrev pub AreReplies : ReaderView → List Owed → Made → List ℕ → Type 0
AreReplies reader [] made bytes = (made ≡ []) × (bytes ≡ [])
AreReplies reader (owed ∷ more) made bytes = (looks : Made) × (others : Made) × (reads : ℕ) × (first : List ℕ) × (rest : List ℕ)
    × (made ≡ looks ++ others) × (bytes ≡ first ++ rest) × IsReplyTo reader owed looks reads first × AreReplies reader more others rest

-- what leaves, whole: the reply to what was owed, or a check-back
pub data Piece : Type 0 where
  replied : Owed → Piece
  checked : AskParts → Piece

-- the replies to what was owed
abbrev pub replies_to : List Owed → List Piece
replies_to [] = []
replies_to (owed ∷ more) = replied owed ∷ replies_to more

-- what was owed for the replies among these, in order
abbrev pub owed_among : List Piece → List Owed
owed_among [] = []
owed_among (replied owed ∷ pieces) = owed ∷ owed_among pieces
owed_among (checked ask ∷ pieces) = owed_among pieces

-- the check-backs among these, in order
abbrev pub asks_among : List Piece → List AskParts
asks_among [] = []
asks_among (replied owed ∷ pieces) = asks_among pieces
asks_among (checked ask ∷ pieces) = ask ∷ asks_among pieces

-- The bytes are those of these pieces, one after another: each reply after its looks, and each check-back with the opaque of its
-- place among those that were written, of which there were so many before. Of the replies `reads` are `read N`.
abbrev pub ArePieces : ReaderView → ℕ → List Piece → Made → ℕ → List ℕ → Type 0
ArePieces reader count [] made reads bytes = (made ≡ []) × (reads ≡ 0) × (bytes ≡ [])
ArePieces reader count (replied owed ∷ more) made reads bytes = (looks : Made) × (others : Made) × (one later : ℕ) × (first : List ℕ)
    × (rest : List ℕ) × (made ≡ looks ++ others) × (reads ≡ one + later) × (bytes ≡ first ++ rest) × IsReplyTo reader owed looks one first
    × ArePieces reader count more others later rest
ArePieces reader count (checked ask ∷ more) made reads bytes = (rest : List ℕ)
    × (bytes ≡ ask_bytes (opaque_of count) ask.view ++ rest) × ArePieces reader (next_count count) more made reads rest

-- What calls have done that fed this stream, made these steps for requests and these for replies, wrote these check-backs and sent these
-- bytes. The requests of the stream are `heard`; with one that was held before they are those that were answered and one that is held
-- now. With the tries of the one that was held before, the steps for requests are those of the answers, and the tries of the one that
-- is held now. What was owed before and the answers are what left and what is owed now; and what was to be sent before, the replies of
-- those that left and the check-backs are what was sent and what is to be sent now. So many of the replies are `read N`.
pub record HasServed (reader : ReaderView) (old : Session) (tried : List Try) (stream : List ℕ) (asking settling : Made)
    (asks : List AskParts) (reads : ℕ) (sent : List ℕ) (new : Session) : Type 0 where
  pub link : KeepsLink old new
  pub heard : List Heard
  pub hears : HasHeard old.talk.cutter.at (old.talk.cutter.bytes ++ stream) heard new.talk.cutter
  pub answers : List Answer
  pub are : AreAnswers old.talk answers
  pub each : held_in old.held ++ heard ≡ map (λ answer. answer.heard) answers ++ held_in new.held
  pub tries : List Try
  pub held : AreTriesOf old.talk new.held tries
  pub served : steps_of_tries tried ++ asking ≡ steps_of answers ++ steps_of_tries tries
  pub pieces : List Piece
  pub left : old.owed.items ++ map (λ answer. answer.owed) answers ≡ owed_among pieces ++ new.owed.items
  pub asked : asks_among pieces ≡ asks
  pub for_link : AreFor old.talk.link asks
  pub count : new.asked ≡ count_after old.asked asks
  pub looks : Made
  pub found : found_in settling ≡ looks
  pub bytes : List ℕ
  pub are_pieces : ArePieces reader old.asked pieces looks reads bytes
  pub went : unsent_of old ++ bytes ≡ sent ++ unsent_of new

-- nothing was heard yet, and nothing is owed
pub record IsNew (session : Session) : Type 0 where
  pub held : session.talk.cutter ≡ record { at = 0; bytes = [] }
  pub none : (session.held ≡ None) × (session.owed.items ≡ []) × (session.out.items ≡ []) × (session.sent ≡ 0)
  pub asked : session.asked ≡ 0

-- What calls of a new session have done: the requests of the stream are those that were answered, and one that is held. The steps that
-- were made for requests are those of the answers, in order, each behind the tries that found no room, and then the tries of the one
-- that is held; those at which a request was applied are among the answers'. What was sent, and is to be sent, are the replies of the
-- first requests, in order, one each, and none for those that wait for none, and between them, whole, the check-backs that were
-- written, in order, each for this link. The looks for replies that found something are those of these replies, of which as many are
-- `read N` as the calls wrote.
pub record RepliesInOrder (reader : ReaderView) (old : Session) (calls : List Call) (new : Session) : Type 0 where
  pub answers : List Answer
  pub are : AreAnswers old.talk answers
  pub hears : HasHeard 0 (stream_of calls) (map (λ answer. answer.heard) answers ++ held_in new.held) new.talk.cutter
  pub tries : List Try
  pub held : AreTriesOf old.talk new.held tries
  pub served : asking_of calls ≡ steps_of answers ++ steps_of_tries tries
  pub applied : applied_in (made_of calls) ≡ applied_in (steps_of answers)
  pub pieces : List Piece
  pub left : map (λ answer. answer.owed) answers ≡ owed_among pieces ++ new.owed.items
  pub asked : asks_among pieces ≡ asks_of calls
  pub for_link : AreFor old.talk.link (asks_of calls)
  pub replies : ArePieces reader 0 pieces (found_in (settling_of calls)) (read_replies_of calls) (sent_of calls ++ unsent_of new)
