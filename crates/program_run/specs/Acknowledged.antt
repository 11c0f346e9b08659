-- What a client of `serve` may rely on: a message that was answered with 0 was found on the disk, and stands there, at the place that
-- the reply names.
use Rattle.std.specs.Prelude.{◌≡◌, ℕ, ◌++◌, List, [], ◌∷◌, length, map, take, pos, slice_get, All, true, Ok, Some}
use Rattle.mq_outside.specs.Disk.{DiskState}
use Rattle.mq_peers.specs.Ended.{LinkEnd}
use Rattle.remoting_frame.specs.Held.{Held}
use Rattle.record_codec.specs.Entry.{Entry}
use Rattle.request_fields.specs.Requests.{SendSaid}
use Rattle.request_fields.specs.declared.request.Request.TheVariants.{Send}
use Rattle.reply_fields.specs.Asks.{ask_bytes}
use Rattle.reply_fields.specs.Parts.{AskParts, ReplyParts}
use Rattle.log_model.specs.Bases.{Geometry, whole}
use Rattle.log_model.specs.Store.{IsHonest, StoresLog}
use Rattle.log_model.specs.Stored.{FlushTurn}
use Rattle.broker_events.specs.declared.event.Event.{Event}
use Rattle.broker_events.specs.declared.event.Event.TheVariants as events
use Rattle.broker_events.specs.declared.said.Awaited.TheVariants.{Flushed}
use Rattle.broker_events.specs.declared.said.Said.TheVariants as said
use Rattle.broker_model.specs.Sends.{kept_props, waits}
use Rattle.flush_story.specs.Keeping.{AreInOrder}
use Rattle.core_log.specs.declared.parts.Parts.{Parts}
use Rattle.session.specs.Asking.{next_count, opaque_of}
use Rattle.session.specs.Readers.{ReaderView}
use Rattle.session.specs.Serving.{Made, caller_of}
use Rattle.session.specs.Settling.{IsPut}
use Rattle.session.specs.Talks.{HasHeard}
use Rattle.session.specs.declared.heard.Heard.{Heard}
use Rattle.link_service.specs.Transcripts.{counted_to}
use Rattle.store_open.specs.Openings.{FORMAT, own_format}
use Rattle.store_open.specs.ServeWords.{IsServeCommand}
use Rattle.store_open.specs.declared.format.Sizes.{Sizes}
use Rattle.store_open.specs.declared.serve_words.ServeCommand.{ServeCommand}
use Rattle.store_open.specs.declared.status.Status.{Status}
use Rattle.broker_serve.specs.Serves.{HasServed, PutsAllAlong, run_over, setup_by}
use Rattle.program_run.specs.Runs.{ServeSeen}
use Rattle.program_run.specs.Stand.{IsOnDisk}

-- ---- what was written to a link

-- a request that a link gave, the reply that was due for it, and the bytes that were to be written for that
pub record Replied : Type 0 where
  pub heard : Heard
  pub reply : ReplyParts
  pub bytes : List ℕ

-- what was to be written to a link, whole: for a request, or a check-back
pub data Piece : Type 0 where
  replied : Replied → Piece
  checked : AskParts → Piece

-- what was written for requests, in order
abbrev pub replied_among : List Piece → List Replied
replied_among [] = []
replied_among (replied it ∷ pieces) = it ∷ replied_among pieces
replied_among (checked ask ∷ pieces) = replied_among pieces

-- the bytes of all of it, where so many check-backs were written before
abbrev pub piece_bytes : ℕ → List Piece → List ℕ
piece_bytes asked [] = []
piece_bytes asked (replied it ∷ pieces) = it.bytes ++ piece_bytes asked pieces
piece_bytes asked (checked ask ∷ pieces) = ask_bytes (opaque_of asked) ask.view ++ piece_bytes (next_count asked) pieces

-- The bytes are the reply's, as the request asks for them: none where nobody waits for it; and `read N` or 901 in its place only where
-- there was a cause.
abbrev pub IsWritten : ReaderView → Replied → Type 0
IsWritten reader it = (count reads : ℕ) × IsPut reader (caller_of it.heard) it.reply count reads [] it.bytes

-- the request sends this message, which waits for the disk, and the reply says 0
pub record IsAccepted (it : Replied) (send : SendSaid) : Type 0 where
  pub asked : it.heard.request ≡ Ok (Send send)
  pub awaited : waits (kept_props send.props) ≡ true
  pub code : it.reply.code ≡ pos 0

-- ---- flush turns of a history

-- how many records a flush turn flushed that ended Ok with this entry
abbrev pub flushed_in : Event → List ℕ
flushed_in (events.Request link host now request) = []
flushed_in events.Take = []
flushed_in (events.Flushed receipt) = receipt.count ∷ []
flushed_in (events.FlushFailed count) = []
flushed_in (events.Look number turn) = []
flushed_in (events.Dispatch most) = []
flushed_in (events.Deliver now) = []
flushed_in (events.Check now) = []
flushed_in (events.Leave link) = []

-- the same of each flush turn of a history, in order
abbrev pub flushed_by : Made → List ℕ
flushed_by [] = []
flushed_by (step ∷ steps) = flushed_in step.0 ++ flushed_by steps

-- the moment at which the last of these turns ended, or this one where there is none
abbrev pub last_moment : ℕ → List FlushTurn → ℕ
last_moment low [] = low
last_moment low (turn ∷ turns) = last_moment turn.moment turns

-- a history that began at this moment of the disk, its flush turns that ended Ok, each with its moment, and the log that it left
pub record Past : Type 0 where
  pub geometry : Geometry
  pub history : Made
  pub began : ℕ
  pub turns : List FlushTurn
  pub log : List Entry

-- the turns are those of the history, one moment behind the other, and the disk behind it stores the log
pub record IsPast (past : Past) (disk : DiskState) : Type 0 where
  pub turns : map (λ turn. turn.count) past.turns ≡ flushed_by past.history
  pub order : AreInOrder past.began past.turns disk.moment
  pub flushed : ℕ
  pub stores : StoresLog past.geometry past.log flushed disk

-- A look of this history found record `number` flushed. By then the flush turns before it had ended, the last at this moment.
pub record IsFound (past : Past) (number moment : ℕ) : Type 0 where
  pub before : Made
  pub turn : ℕ
  pub behind : Made
  pub looked : past.history ≡ before ++ (events.Look number turn, Some (said.Awaited Flushed)) ∷ behind
  pub moment_is : moment ≡ last_moment past.began (take (length (flushed_by before)) past.turns)

-- The message's record was found flushed. From the moment on at which the last flush turn before that had ended it stands on the disk,
-- whatever crashes, at the place that the reply names.
pub record IsAcknowledged (past : Past) (disk : DiskState) (reply : ReplyParts) (send : SendSaid) : Type 0 where
  pub moment : ℕ
  pub on_disk : IsOnDisk past.geometry past.log reply send moment disk
  pub found : IsFound past on_disk.number moment

-- ---- a run

-- What a link gave begins with requests: the first of them were answered, in order, and what it took is a front of the bytes of these
-- answers, with check-backs between them. Each message among them that was accepted was found on the disk, and stands there.
pub record LinkStands (reader : ReaderView) (past : Past) (disk : DiskState) (it : LinkEnd) : Type 0 where
  pub read : List ℕ
  pub unread : List ℕ
  pub given : it.given ≡ read ++ unread
  pub pieces : List Piece
  pub left : List Heard
  pub held : Held
  pub heard : HasHeard 0 read (map (λ one. one.heard) (replied_among pieces) ++ left) held
  pub written : All (IsWritten reader) (replied_among pieces)
  pub unsent : List ℕ
  pub taken : it.taken ++ unsent ≡ piece_bytes 0 pieces
  pub stand : All (λ one. (send : SendSaid) → IsAccepted one send → IsAcknowledged past disk one.reply send) (replied_among pieces)

-- each of these links is answered so
abbrev pub LinksStand : ReaderView → Past → DiskState → List LinkEnd → Type 0
LinksStand reader past disk links = (k : ℕ) (it : LinkEnd) → slice_get links k ≡ Some it → LinkStands reader past disk it

-- Links were served, with this history. Where messages are synced, the disk tells what it holds, had stored a log before the run and was
-- read of honestly: behind the run it stores the log of this history, whose flush turns ended one behind the other. Where the links that
-- ended are told, with what they gave and took, each accepted message of each of them was found on the disk by a look of this history,
-- and stands there since the flush turn before that look.
pub record KeepsServed {D : Type 0} (words : List (List ℕ)) (status : Status) (seen : ServeSeen D) (core : Parts) : Type 0 where
  pub command : ServeCommand
  pub asked : IsServeCommand words command
  pub sizes : Sizes
  pub served : HasServed seen.views (setup_by command sizes.segment)
      (run_over status seen.old seen.new seen.read_faults seen.keep)
      (λ start history. PutsAllAlong (own_format (seen.keep.old.reads FORMAT) command.sizes) start history seen.keep.old seen.keep.new)
      core
  pub kept : command.sync ≡ true → seen.views.disk.tells → (log : List Entry) (flushed : ℕ)
      → StoresLog (whole sizes.segment) log flushed (seen.views.disk.state seen.old)
      → IsHonest (whole sizes.segment) log flushed (seen.views.disk.state seen.old).reads
      → (past : Past) × IsPast past (seen.views.disk.state seen.new) × (past.geometry ≡ whole sizes.segment)
      × (past.history ≡ served.history) × (past.began ≡ (seen.views.disk.state served.began).moment)
      × (seen.views.links.tells → seen.views.links.told
      → LinksStand (counted_to seen.views.gives served.failures.0) past (seen.views.disk.state seen.new) seen.views.links.first
      × LinksStand (counted_to seen.views.gives served.failures.1) past (seen.views.disk.state seen.new) seen.views.links.second)
