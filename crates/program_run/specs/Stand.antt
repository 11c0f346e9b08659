-- What a client of `pipe` may rely on: a message that was answered with 0 stands on the disk, at the place that the reply names.
use Rattle.std.specs.Prelude.{◌≡◌, ◌⊎◌, ℕ, ◌+◌, ◌-◌, ◌≤◌, ◌++◌, List, [], ◌∷◌, map, pos, slice_get, All}
use Rattle.std.specs.Prelude.{Bool, true, false, codes, Option, Some, None, Ok}
use Rattle.mq_outside.specs.Files.{Files}
use Rattle.mq_outside.specs.Disk.{DiskState}
use Rattle.mq_outside.specs.Readings.{Giving}
use Rattle.remoting_frame.specs.Streams.{BeginsWith}
use Rattle.remoting_frame.specs.declared.frame.Frame.{Frame}
use Rattle.record_codec.specs.Entry.{Entry}
use Rattle.record_codec.specs.Props.{without}
use Rattle.request_fields.specs.Reading.{request_of}
use Rattle.request_fields.specs.Requests.{SendSaid}
use Rattle.request_fields.specs.declared.request.Request.TheVariants.{Send}
use Rattle.reply_fields.specs.Parts.{AskParts, ReplyParts}
use Rattle.log_model.specs.Bases.{Geometry, whole}
use Rattle.log_model.specs.Store.{IsHonest, KeepsIfHonest, StandsAtPlace, StoresLog}
use Rattle.broker_model.specs.Answers.{send_ext}
use Rattle.log_model.specs.Admissible.{half_topic, level_topic}
use Rattle.broker_model.specs.Sends.{is_half_send, kept_props, level_of, queue_named, waits, with_group, with_real}
use Rattle.session.specs.Talks.{requests_of}
use Rattle.pipe_stream.specs.Serving.{caller_of}
use Rattle.pipe_stream.specs.Telling.{FaultCounts, IsTold, TookPart, asks_bytes, count_after}
use Rattle.store_open.specs.Openings.{FORMAT, AreSizesOf}
use Rattle.store_open.specs.Words.{IsCommand}
use Rattle.store_open.specs.declared.format.Sizes.{Sizes}
use Rattle.store_open.specs.declared.words.Command.{Command}
use Rattle.store_open.specs.declared.status.Status.{Status}
use Rattle.broker_run.specs.Promise.{Call, KeepSeen, Seen, before, behind}

-- ---- an answer

-- a request, the check-backs that were written before its reply, the reply that was made to it, and the bytes that were to be written
-- for that
pub record Answered : Type 0 where
  pub frame : Frame
  pub asks : List AskParts
  pub reply : ReplyParts
  pub bytes : List ℕ

abbrev pub answered : Frame → List AskParts → ReplyParts → List ℕ → Answered
answered frame asks reply bytes = record { frame = frame; asks = asks; reply = reply; bytes = bytes }

-- the bytes for these requests, and of the check-backs behind them, where so many check-backs were written before
abbrev pub answers_bytes : ℕ → List Answered → List AskParts → List ℕ
answers_bytes asked [] behind = asks_bytes asked behind
answers_bytes asked (it ∷ answers) behind =
    asks_bytes asked it.asks ++ (it.bytes ++ answers_bytes (count_after asked it.asks) answers behind)

-- the bytes are the reply's, as the frame asks for them
abbrev pub IsWritten : Giving → Answered → Type 0
IsWritten gives it = (faults : FaultCounts) × IsTold gives (caller_of it.frame) it.reply faults it.bytes

-- the request sends this message, which waits for the disk, and the reply says 0
pub record IsAccepted (it : Answered) (send : SendSaid) : Type 0 where
  pub asked : request_of it.frame.header it.frame.body ≡ Ok (Send send)
  pub awaited : waits (kept_props send.props) ≡ true
  pub code : it.reply.code ≡ pos 0

-- ---- its record

-- a message of this delay level waits in the level's queue of the topic of delayed messages, and tells its own topic and queue by
-- its properties; one without a level stands in its own queue
abbrev pub IsKeptFor : Option ℕ → SendSaid → Entry → Type 0
IsKeptFor None send r = (r.topic ≡ send.topic) × (r.queue ≡ queue_named send.queue) × (r.props ≡ kept_props send.props)
IsKeptFor (Some level) send r = (r.topic ≡ level_topic) × (r.queue ≡ level - 1)
    × (r.props ≡ with_real send.topic (queue_named send.queue) (kept_props send.props))

-- a half message stands in the one queue of the topic of half messages, tells its own topic and queue by its properties, and its
-- producer group where it names none; it has no `DELAY`
abbrev pub IsHalfFor : SendSaid → Entry → Type 0
IsHalfFor send r = (r.topic ≡ half_topic) × (r.queue ≡ 0)
    × (r.props ≡ with_group send.group (with_real send.topic (queue_named send.queue) (without (codes "DELAY") (kept_props send.props))))

-- a half message is kept as one, and any other message as a delayed or a plain one
abbrev pub IsKeptAs : Bool → SendSaid → Entry → Type 0
IsKeptAs true send r = IsHalfFor send r
IsKeptAs false send r = IsKeptFor (level_of send) send r

-- the record has the message's body, its topic and queue or those of its delay level or of half messages, and its properties without
-- the names that the broker keeps for itself
pub record IsMessage (send : SendSaid) (r : Entry) : Type 0 where
  pub body : r.body ≡ send.body
  pub kept : IsKeptAs (is_half_send send) send r

-- From this moment on each crash leaves record `number` of the log at its place, and recovery keeps it, unless torn bytes pass for
-- another record.
pub record StandsFrom (S : Geometry) (log : List Entry) (number moment : ℕ) (disk : DiskState) : Type 0 where
  pub r : Entry
  pub is : slice_get log number ≡ Some r
  pub stands : (m : ℕ) (files : Files) → moment ≤ m → m ≤ disk.moment → disk.image_at m files → StandsAtPlace S files r
  pub kept : (m : ℕ) (files : Files) → moment ≤ m → m ≤ disk.moment → disk.image_at m files → KeepsIfHonest S log (number + 1) files

-- the message's record stands in the log, the reply names its place and its queue offset, and it stands on the disk from this moment on
pub record IsOnDisk (S : Geometry) (log : List Entry) (reply : ReplyParts) (send : SendSaid) (moment : ℕ) (disk : DiskState) : Type 0 where
  pub number : ℕ
  pub stands : StandsFrom S log number moment disk
  pub message : IsMessage send stands.r
  pub named : reply.ext ≡ send_ext send (stands.r ∷ [])

-- Each message that was accepted is on the disk from a moment on. These moments come one behind another, in the order of the answers.
abbrev pub AreOnDisk : Geometry → List Entry → ℕ → List Answered → DiskState → Type 0
AreOnDisk S log low [] disk = low ≤ disk.moment
AreOnDisk S log low (it ∷ answers) disk = (moment : ℕ) × (low ≤ moment)
    × ((send : SendSaid) → IsAccepted it send → IsOnDisk S log it.reply send moment disk)
    × AreOnDisk S log moment answers disk

-- ---- a call

-- The bytes that were read are these frames and a rest. The first requests among them were answered, in order; what was written is a
-- front of the bytes of these answers, with check-backs before each and behind the last; and each message that was accepted is on the
-- disk, in the log that it stores behind the call. What is said of the source and of the sink is said where these tell what they hold.
pub record AnswersStand {D : Type 0} (S : Geometry) (seen : Seen D) : Type 0 where
  pub bytes : List ℕ
  pub frames : List Frame
  pub end : ℕ
  pub rest : List ℕ
  pub answers : List Answered
  pub last_asks : List AskParts
  pub left : List Frame
  pub log : List Entry
  pub flushed : ℕ
  pub given : seen.source.tells → seen.source.given_then ≡ seen.source.given ++ bytes
  pub cut : BeginsWith 0 bytes frames end rest
  pub asked : map (λ it. it.frame) answers ++ left ≡ requests_of frames
  pub written : All (IsWritten seen.gives) answers
  pub taken : seen.sink → TookPart seen.taken seen.taken_then (answers_bytes 0 answers last_asks)
  pub stand : AreOnDisk S log (before seen).moment answers (behind seen)
  pub stores : StoresLog S log flushed (behind seen)

-- So it is in a store of these sizes, as its format says, whose disk stores a log and was read honestly.
pub record AnswersStandIn {D : Type 0} (command : Command) (seen : Seen D) (keep : KeepSeen) : Type 0 where
  pub sizes : Sizes
  pub sizes_are : keep.tells → AreSizesOf (keep.old.reads FORMAT) command.sizes sizes
  pub stand : (log : List Entry) (flushed : ℕ) → StoresLog (whole sizes.segment) log flushed (before seen)
      → IsHonest (whole sizes.segment) log flushed (before seen).reads → AnswersStand (whole sizes.segment) seen

-- The words are a command. Where it says that messages are synced, and the disk tells what it holds, nothing was written, or what was
-- answered stands.
pub record KeepsAnswers {D : Type 0} (words : List (List ℕ)) (seen : Seen D) (keep : KeepSeen) : Type 0 where
  pub command : Command
  pub asked : IsCommand words command
  pub kept : command.sync ≡ true → seen.disk.tells → (seen.taken_then ≡ seen.taken) ⊎ AnswersStandIn command seen keep

-- what a call did that gave this status keeps its answers
abbrev pub AnswersAreKept : {D : Type 0} → List (List ℕ) → Status → Seen D → KeepSeen → Type 0
AnswersAreKept words status seen keep = Call words status seen keep → KeepsAnswers words seen keep
