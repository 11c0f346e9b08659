-- What one call of `run_pipe` did, by the status that it answered.
use Rattle.std.specs.Prelude.{◌≡◌, ◌≢◌, ◌⊎◌, ℕ, ◌+◌, ◌<◌, ◌≤◌, ◌++◌, List, [], ◌∷◌, codes, length, take}
use Rattle.std.specs.Prelude.{All, Option, Some, None, Result, Ok, Err}
use Rattle.mq_outside.specs.Counts.{Rises}
use Rattle.mq_outside.specs.Files.{Files, OldOrNew}
use Rattle.mq_outside.specs.Disk.{DiskState, EachImage, IsCrashImage, Throughout}
use Rattle.mq_outside.specs.declared.faults.DiskFault.{DiskFault}
use Rattle.mq_outside.specs.declared.faults.DiskFault.TheVariants as keeper
use Rattle.mq_outside.specs.Readings.{Giving}
use Rattle.remoting_frame.specs.Streams.{BeginsWith}
use Rattle.remoting_frame.specs.declared.frame.Frame.{Frame}
use Rattle.record_codec.specs.Entry.{Entry}
use Rattle.log_model.specs.Bases.{Geometry, whole}
use Rattle.log_model.specs.Segments.{AreSegmentFiles}
use Rattle.log_model.specs.Store.{Keeps, IsDamagedAt, IsHonest, StoresLog}
use Rattle.log_model.specs.Stored.{FlushTurn, KeepsAtLeast, stored, turned_by, turned_in, Stored}
use Rattle.segment_files.specs.Turn.{IsReady, growing}
use Rattle.store_open.specs.Words.{IsCommand}
use Rattle.store_open.specs.Openings.{FORMAT, AreSizesOf, IsForeign, IsOpened, own_format}
use Rattle.store_open.specs.declared.format.Sizes.{Sizes}
use Rattle.store_open.specs.declared.words.Command.{Command}
use Rattle.store_open.specs.declared.status.Status.{Status}
use Rattle.exit_status.specs.Statuses.{TellsDevice}
use Rattle.exit_status.specs.Stores.{Leaves, Misread, PutsFormat, Refused, StoreOver, Unrecovered, store_over, told_before}
use Rattle.broker_model.specs.State.{State, Saved}
use Rattle.broker_model.specs.Tables.{OffsetRow, TopicRow}
use Rattle.broker_model.specs.Events as model
use Rattle.broker_model.specs.Run.{Boot, Move, Steps, Run, opened}
use Rattle.broker_events.specs.declared.event.Event.{Event}
use Rattle.broker_events.specs.declared.said.Said.{Said}
use Rattle.broker_events.specs.declared.event.Setup.{Setup}
use Rattle.broker_events.specs.Steps.{event_of, SaysIn}
use Rattle.broker_core.specs.declared.alone.Alone.{Alone}
use Rattle.core_log.specs.Loads.{whole_log}
use Rattle.core_log.specs.Represents.{setup_of}
use Rattle.config_store.specs.Configs.{OFFSETS, TOPICS, HasConfig, KeepsConfig, PutsConfig}
use Rattle.config_store.specs.Faults.{IsBadText}
use Rattle.config_store.specs.Texts.{IsKeptTopic, offsets_text_of, topics_text_of}
use Rattle.group_tables.specs.Offsets.{IsOffset}
use Rattle.log_opening.specs.Opens.{OpensWith, saved_as}
use Rattle.log_opening.specs.declared.opening.Opened.{Opened}
use Rattle.worker_turns.specs.Acts.{Act, Acted, DiskView, Place, steps_of, turns_of, change_of}
use Rattle.worker_turns.specs.Turning.{AreAllTurns}
use Rattle.worker_turns.specs.declared.broken.Broken.{Broken}
use Rattle.worker_turns.specs.declared.broken.Broken.TheVariants as broken
use Rattle.pipe_stream.specs.Serving.{Sides, sides_of, point_of}
use Rattle.pipe_stream.specs.Piping.{SourceSeen, Piped, acts_read, stream_limit}
use Rattle.flush_story.specs.Keeping.{AreInOrder, AreExact}
use Rattle.flush_story.specs.Leads.{alone}
use Rattle.pipe_stream.specs.declared.stop.Halt.{Halt}
use Rattle.pipe_stream.specs.declared.stop.Halt.TheVariants.{BadFrame, Read, Stopped}
use Rattle.pipe_stream.specs.declared.stop.Stop.TheVariants as stops
use Rattle.pipe_stream.specs.Telling.{FaultCounts}
use Rattle.broker_run.specs.Closing.{ended_as}
use Rattle.broker_run.specs.declared.ended.Ended.{Ended}

-- ---- the status

-- what ended the reading tells the status, and behind a source that ended the last flush turn
abbrev pub StatusTells : {A : Type 0} → Status → Result A Halt → Option ℕ → Type 0
StatusTells status (Ok done) None = status.code ≡ 0
StatusTells status (Ok done) (Some count) = status.code ≡ 5
StatusTells status (Err (BadFrame place)) last = (status.code ≡ 2) × (status.place ≡ place)
StatusTells status (Err Read) last = status.code ≡ 3
StatusTells status (Err (Stopped stops.Sink)) last = status.code ≡ 4
StatusTells status (Err (Stopped stops.Memory)) last = status.code ≡ 7
StatusTells status (Err (Stopped stops.Clock)) last = ((status.code ≡ 10) × (status.name ≡ codes "clock")) ⊎ (status.code ≡ 7)
StatusTells status (Err (Stopped stops.Misplaced)) last = ⊥

-- The same where memory may run out in the last flush turns. No batch begins elsewhere than where the flusher writes, so no status
-- tells of one.
abbrev pub StatusOf : {A : Type 0} → Status → Result A Halt → Result (Option ℕ) Broken → Type 0
StatusOf status ended (Ok last) = StatusTells status ended last
StatusOf status ended (Err broken.Memory) = status.code ≡ 7
StatusOf status ended (Err broken.Misplaced) = ⊥

-- ---- the status once the kept files were replaced, or not

-- the source ended, and nothing is pending
abbrev pub AllWell : {A : Type 0} → Result A Halt → Result (Option ℕ) Broken → Type 0
AllWell (Ok done) (Ok None) = Unit {0}
AllWell (Ok done) (Ok (Some count)) = ⊥
AllWell (Ok done) (Err fault) = ⊥
AllWell (Err halt) last = ⊥

-- what ended the reading, the last flush turns and the replacement of the kept files tell the status
abbrev pub StatusAfter : {A B : Type 0} → Status → Result A Halt → Result (Option ℕ) Broken → Result B DiskFault → Type 0
StatusAfter status ended last (Ok done) = StatusOf status ended last
StatusAfter status ended last (Err keeper.Memory) = status.code ≡ 7
StatusAfter status ended last (Err keeper.Failed) =
    (AllWell ended last × TellsDevice status (codes "keep")) ⊎ (StatusOf status ended last × (status.code ≢ 0))

-- ---- the run of the model

-- the moves are the steps, each with an answer that is what was said
abbrev pub AreMoves : List (Event × Option Said) → List Move → Type 0
AreMoves [] [] = Unit {0}
AreMoves [] (move ∷ moves) = ⊥
AreMoves (step ∷ steps) [] = ⊥
AreMoves (step ∷ steps) (move ∷ moves) =
    ((answer : Option model.Answer) × (move ≡ Steps (event_of step.0) answer) × SaysIn step.1 answer) × AreMoves steps moves

-- what the command asks for, in a store of these sizes
abbrev pub pipe_setup : Command → Sizes → Setup
pipe_setup command sizes = record { segment = sizes.segment; host = command.host; sync = command.sync }

-- the boot that opens over this log, with what was kept beside it
abbrev pub opened_over : Setup → Saved → List Entry → Boot
opened_over setup saved log = record { now = opened (setup_of setup) (whole_log log) saved; before = [] }

-- a run of the model from the opening over this log, whose moves are these acts' steps
pub record RunsTo (setup : Setup) (saved : Saved) (log : List Entry) (acts : List Act) (reached : State) : Type 0 where
  pub moves : List Move
  pub boot : Boot
  pub are : AreMoves (steps_of acts) moves
  pub run : Run (opened_over setup saved log) moves boot
  pub reached_is : boot.now ≡ reached

-- ---- what is seen of a call

-- how often each device has failed
pub record AllFaults : Type 0 where
  pub source : ℕ
  pub sink : ℕ
  pub disk : ℕ
  pub keep : ℕ
  pub clock : ℕ

-- A call over the devices: that the disk, the sink and the clock tell what they hold, what reads of stored pieces give, and what
-- was held before the call and behind it.
pub record Seen (D : Type 0) : Type 1 where
  pub source : SourceSeen
  pub gives : Giving
  pub disk : DiskView D
  pub sink : Type 0
  pub clock : Type 0
  pub old : D
  pub new : D
  pub taken : List ℕ
  pub taken_then : List ℕ
  pub readings : List ℕ
  pub readings_then : List ℕ

-- what the disk holds before the call, and behind it
abbrev pub before : {D : Type 0} → Seen D → DiskState
before seen = seen.disk.state seen.old

abbrev pub behind : {D : Type 0} → Seen D → DiskState
behind seen = seen.disk.state seen.new

-- who makes steps in it: a core alone
abbrev pub sides_for : {D : Type 0} → Seen D → Sides Alone D
sides_for seen = sides_of alone seen.gives seen.disk seen.sink seen.clock

-- a keep over a call, and how often it has failed
pub record KeepSeen : Type 1 where
  pub tells : Type 0
  pub old : DiskState
  pub new : DiskState
  pub failed : ℕ
  pub failed_then : ℕ

-- the disk and the keep over it
abbrev pub store_seen : {D : Type 0} → Seen D → KeepSeen → StoreOver
store_seen seen keep = store_over seen.disk.tells (before seen) (behind seen) keep.tells keep.old keep.new

-- ---- the kept files

-- From old to new each of the three texts is as it was or is this one, and each other one is as it was.
pub record ReplacesAll (format offsets topics : List ℕ) (old new : Files) : Type 0 where
  pub format_is : OldOrNew format (old FORMAT) (new FORMAT)
  pub offsets_are : OldOrNew offsets (old OFFSETS) (new OFFSETS)
  pub topics_are : OldOrNew topics (old TOPICS) (new TOPICS)
  pub others : (name : List ℕ) → name ≢ FORMAT → name ≢ OFFSETS → name ≢ TOPICS → new name ≡ old name

-- a crash image of this keep, but that each of the three may have its new text
abbrev pub IsImageKept : List ℕ → List ℕ → List ℕ → DiskState → Files → Type 0
IsImageKept format offsets topics keep files = (before : Files) × IsCrashImage keep before × ReplacesAll format offsets topics before files

-- So it is as it is read, and in each crash image of each moment.
pub record PutsAll (format offsets topics : List ℕ) (old new : DiskState) : Type 0 where
  pub reads : ReplacesAll format offsets topics old.reads new.reads
  pub at_each : Throughout old new (IsImageKept format offsets topics old)

-- the two kept files have the texts of this state, and stay so through a crash
abbrev pub KeepsTexts : State → DiskState → Type 0
KeepsTexts s keep = KeepsConfig (offsets_text_of s.offsets) (topics_text_of s.topics) keep

-- each offset and each topic of this state can be kept, so a file with its text is of its form, and the next run loads it
abbrev pub CanBeKept : State → Type 0
CanBeKept s = All IsOffset s.offsets × All IsKeptTopic s.topics

-- At the end of a run the two kept files have the texts of this state, unless memory ran out or the keep failed; with status 0 they
-- always have.
pub record EndsKept (status : Status) (keep : KeepSeen) (s : State) : Type 0 where
  pub done : keep.tells → status.code ≢ 7 → (Rises keep.failed keep.failed_then → ⊥) → KeepsTexts s keep.new
  pub well : keep.tells → status.code ≡ 0 → KeepsTexts s keep.new

-- The same, and meanwhile each of them was as before or had the text of this state: from a keep on whose format stands.
pub record KeepsOpen (status : Status) (keep : KeepSeen) (s : State) : Type 0 where
  pub puts : keep.tells → PutsConfig (offsets_text_of s.offsets) (topics_text_of s.topics) keep.old keep.new
  pub ends : EndsKept status keep s
  pub formed : CanBeKept s

-- and from before the opening on, in which the format may have been put
pub record KeepsState (format : List ℕ) (status : Status) (keep : KeepSeen) (s : State) : Type 0 where
  pub puts : keep.tells → PutsAll format (offsets_text_of s.offsets) (topics_text_of s.topics) keep.old keep.new
  pub ends : EndsKept status keep s
  pub formed : CanBeKept s

-- ---- a run from a store

-- What every crash leaves of a store that had a log with so many records flushed, when a run from `log` on ended with this log.
-- Up to a moment it was being opened, and then a crash leaves exactly the files of the run's first log. From then on the turns that
-- ended Ok came one behind another, and each record that a turn flushed stays from its moment on: at that moment a crash leaves
-- exactly the files of what was flushed.
pub record Survives (it : Stored) (log : List Entry) (turns : List FlushTurn) (reached : List Entry)
    (old new : DiskState) : Type 0 where
  pub opening : ℕ
  pub later : old.moment ≤ opening
  pub order : AreInOrder opening turns new.moment
  pub before : (m : ℕ) (files : Files) → old.moment ≤ m → m ≤ opening → new.image_at m files
      → Leaves it.geometry it.log it.flushed files
  pub opened : (files : Files) → new.image_at opening files → AreSegmentFiles it.geometry log files
  pub after : (m : ℕ) (files : Files) → opening ≤ m → m ≤ new.moment → new.image_at m files
      → Leaves it.geometry reached (length log + turned_by turns m) files
  pub exact : AreExact it.geometry reached (length log) turns new
  pub stores : StoresLog it.geometry reached (length log + turned_in turns) new

-- The requests of the source were served by a core that was opened over this log, and then flush turns were made. All that
-- happened is a run of the model.
pub record RunFrom {D : Type 0} (setup : Setup) (saved : Saved) (log : List Entry) (ended : Ended) (seen : Seen D)
    (holds : List Act → State → Type 0) : Type 0 where
  pub calls : Alone
  pub served : Alone
  pub closed : Alone
  pub place : Place D
  pub mid : Place D
  pub final : Place D
  pub reads : ℕ
  pub reads_then : ℕ
  pub first : List Act
  pub piped : Piped (sides_for seen) ended.reading seen.source
      (change_of calls (point_of place reads seen.taken seen.readings)
      served (point_of mid reads_then seen.taken_then seen.readings_then))
  pub first_is : first ≡ acts_read (sides_for seen) ended.reading seen.source
      (change_of calls (point_of place reads seen.taken seen.readings)
      served (point_of mid reads_then seen.taken_then seen.readings_then)) piped
  pub flushed : Acted alone seen.disk (AreAllTurns ended.last) (change_of served mid closed final)
  pub reached : State
  pub runs : RunsTo setup saved log (first ++ flushed.acts) reached
  pub done : holds (first ++ flushed.acts) reached

-- A run from the log that recovery keeps of the files as they were read, which leaves of the kept files what is said of its state.
pub record BeginsWithKept {D : Type 0} (setup : Setup) (saved : Saved) (ended : Ended) (seen : Seen D)
    (kept : State → Type 0) : Type 0 where
  pub records : List Entry
  pub keeps : Keeps (whole setup.segment) records (before seen).reads
  pub ran : RunFrom setup saved records ended seen (λ acts reached. kept reached)

-- A run from a prefix of the stored log that has all that was flushed, and every crash leaves what it flushed.
pub record KeepsOn {D : Type 0} (setup : Setup) (saved : Saved) (it : Stored) (ended : Ended) (seen : Seen D)
    (kept : State → Type 0) : Type 0 where
  pub number : ℕ
  pub low : it.flushed ≤ number
  pub high : number ≤ length it.log
  pub ran : RunFrom setup saved (take number it.log) ended seen
      (λ acts reached. Survives it (take number it.log) (turns_of acts) reached.log.records (before seen) (behind seen) × kept reached)

-- A run from some log.
pub record RunsFromSome {D : Type 0} (setup : Setup) (saved : Saved) (ended : Ended) (seen : Seen D)
    (kept : State → Type 0) : Type 0 where
  pub log : List Entry
  pub ran : RunFrom setup saved log ended seen (λ acts reached. kept reached)

-- Requests were served from a log that was opened with what the kept files had, in a store of these sizes, as the command asks. At
-- the end the kept files were replaced by the texts of the run's last state.
pub record Served {D : Type 0} (command : Command) (status : Status) (seen : Seen D) (keep : KeepSeen) : Type 0 where
  pub ended : Result (Unit {0}) Halt
  pub last : Result (Option ℕ) Broken
  pub replaced : Result (Unit {0}) DiskFault
  pub tells : StatusAfter status ended last replaced
  pub sizes : Sizes
  pub opened_as : IsOpened command.sizes sizes (told_before (store_seen seen keep)) keep.new
  pub offsets : List OffsetRow
  pub topics : List TopicRow
  pub config : keep.tells → HasConfig keep.old.reads offsets topics
  pub some : RunsFromSome (pipe_setup command sizes) (saved_as offsets topics) (ended_as ended last) seen
      (KeepsState (own_format (keep.old.reads FORMAT) command.sizes) status keep)
  pub begins : seen.disk.tells → BeginsWithKept (pipe_setup command sizes) (saved_as offsets topics) (ended_as ended last) seen
      (KeepsState (own_format (keep.old.reads FORMAT) command.sizes) status keep)
  pub durable : seen.disk.tells → (log : List Entry) (flushed : ℕ) → StoresLog (whole sizes.segment) log flushed (before seen)
      → IsHonest (whole sizes.segment) log flushed (before seen).reads
      → KeepsOn (pipe_setup command sizes) (saved_as offsets topics) (stored (whole sizes.segment) log flushed)
      (ended_as ended last) seen
      (KeepsState (own_format (keep.old.reads FORMAT) command.sizes) status keep)

-- nothing was read from the source or the clock, and nothing written to the sink
pub record IsUntouched {D : Type 0} (seen : Seen D) : Type 0 where
  pub given_is : seen.source.given_then ≡ seen.source.given
  pub taken_is : seen.taken_then ≡ seen.taken
  pub readings_is : seen.readings_then ≡ seen.readings

-- The opening ended the call. At each moment the format is as it was before, or the right text, and no other text changes.
pub record IsNotServed {D : Type 0} (command : Command) (status : Status) (seen : Seen D) (keep : KeepSeen) : Type 0 where
  pub untouched : IsUntouched seen
  pub why : Refused status (store_seen seen keep)
      ⊎ (Misread status (store_seen seen keep) ⊎ Unrecovered command.sizes status (store_seen seen keep))
  pub puts : PutsFormat command.sizes (store_seen seen keep)

-- The words are a command, and this came of it.
pub record Call {D : Type 0} (words : List (List ℕ)) (status : Status) (seen : Seen D) (keep : KeepSeen) : Type 0 where
  pub command : Command
  pub asked : IsCommand words command
  pub called : Served command status seen keep ⊎ IsNotServed command status seen keep

-- each fault of a device is told only where the device's count rose
pub record Causes (status : Status) (old new : AllFaults) : Type 0 where
  pub read : status.code ≡ 3 → Rises old.source new.source
  pub write : status.code ≡ 4 → Rises old.sink new.sink
  pub disk_failed : status.code ≡ 5 → Rises old.disk new.disk
  pub device : status.code ≡ 10 → ((status.name ≡ codes "clock") × Rises old.clock new.clock)
      ⊎ ((status.name ≡ codes "keep") × Rises old.keep new.keep)
  pub known : (status.code ≤ 8) ⊎ (status.code ≡ 10)

-- ---- a run from a log that is open

-- What every crash leaves of a log all of which was flushed, when a run from it on ended.
pub record KeepsAfter (setup : Setup) (log : List Entry) (acts : List Act) (reached : State) (old new : DiskState) : Type 0 where
  pub kept : KeepsAtLeast (whole setup.segment) reached.log.records (λ m. length log + turned_by (turns_of acts) m) old new
  pub opened : EachImage (AreSegmentFiles (whole setup.segment) log) old
  pub order : AreInOrder old.moment (turns_of acts) new.moment
  pub exact : AreExact (whole setup.segment) reached.log.records (length log) (turns_of acts) new
  pub stores : StoresLog (whole setup.segment) reached.log.records (length log + turned_in (turns_of acts)) new

-- what such a run leaves of the disk, where all of the log was flushed and no zeros are written ahead
abbrev pub LeavesDisk : {D : Type 0} → Opened → Seen D → Setup → List Entry → List Act → State → Type 0
LeavesDisk it seen setup log acts reached =
    seen.disk.tells → it.flusher.file.ahead ≡ 0 → IsReady (stored (whole setup.segment) log (length log)) 0 (growing it.flusher.file (before seen))
    → KeepsAfter setup log acts reached (before seen) (behind seen)

-- The requests were served from each log over which this was opened, and then the kept files were replaced.
pub record ServedOver {D : Type 0} (it : Opened) (status : Status) (seen : Seen D) (keep : KeepSeen) : Type 0 where
  pub ended : Result (Unit {0}) Halt
  pub last : Result (Option ℕ) Broken
  pub replaced : Result (Unit {0}) DiskFault
  pub tells : StatusAfter status ended last replaced
  pub runs : (setup : Setup) (saved : Saved) (log : List Entry) → OpensWith setup saved log it
      → RunFrom setup saved log (ended_as ended last) seen
      (λ acts reached. LeavesDisk it seen setup log acts reached × KeepsOpen status keep reached)

-- the causes of the statuses of such a run
pub record CountsStatus (status : Status) (source sink disk clock : FaultCounts) : Type 0 where
  pub read : status.code ≡ 3 → Rises source.old source.new
  pub write : status.code ≡ 4 → Rises sink.old sink.new
  pub disk_failed : status.code ≡ 5 → Rises disk.old disk.new
  pub clock_failed : status.code ≡ 10 → (status.name ≡ codes "clock") × Rises clock.old clock.new
  pub known : (status.code ≡ 0) ⊎ ((status.code ≡ 2) ⊎ ((status.code ≡ 3) ⊎ ((status.code ≡ 4) ⊎
      ((status.code ≡ 5) ⊎ ((status.code ≡ 7) ⊎ (status.code ≡ 10))))))
  pub disk_grows : disk.old ≤ disk.new

-- the same once the kept files were replaced, or not
pub record CountsEnd (status : Status) (source sink disk clock keep : FaultCounts) : Type 0 where
  pub read : status.code ≡ 3 → Rises source.old source.new
  pub write : status.code ≡ 4 → Rises sink.old sink.new
  pub disk_failed : status.code ≡ 5 → Rises disk.old disk.new
  pub device : status.code ≡ 10 → ((status.name ≡ codes "clock") × Rises clock.old clock.new)
      ⊎ ((status.name ≡ codes "keep") × Rises keep.old keep.new)
  pub known : (status.code ≡ 0) ⊎ ((status.code ≡ 2) ⊎ ((status.code ≡ 3) ⊎ ((status.code ≡ 4) ⊎
      ((status.code ≡ 5) ⊎ ((status.code ≡ 7) ⊎ (status.code ≡ 10))))))

-- ---- a call in which nothing fails

-- the files are damaged nowhere
abbrev pub AreUndamaged : Geometry → Files → Type 0
AreUndamaged S files = (place : ℕ) (name : List ℕ) → IsDamagedAt S files place name → ⊥

-- The words are a command, the store is this program's and undamaged, its options agree with its format, its kept files are of their
-- form, the bytes that were read are whole frames, and no device's count rises. What is said of the store is said of its files and
-- texts as they are told.
pub record IsQuiet {D : Type 0} (words : List (List ℕ)) (seen : Seen D) (keep : KeepSeen) (old new : AllFaults) : Type 0 where
  pub asked : (command : Command) × IsCommand words command
  pub disk_tells : seen.disk.tells
  pub keep_tells : keep.tells
  pub source_tells : seen.source.tells
  pub own : (command : Command) (name : List ℕ) → IsCommand words command
      → IsForeign (before seen).reads (keep.old.reads FORMAT) command.sizes name → ⊥
  pub undamaged : (command : Command) (sizes : Sizes) → IsCommand words command
      → AreSizesOf (keep.old.reads FORMAT) command.sizes sizes → AreUndamaged (whole sizes.segment) (before seen).reads
  pub formed : (name : List ℕ) → IsBadText keep.old.reads name → ⊥
  pub bytes : List ℕ
  pub frames : List Frame
  pub end : ℕ
  pub given_is : seen.source.given_then ≡ seen.source.given ++ bytes
  pub cut : BeginsWith 0 bytes frames end []
  pub few : length bytes < stream_limit
  pub source_still : Rises old.source new.source → ⊥
  pub sink_still : Rises old.sink new.sink → ⊥
  pub disk_still : Rises old.disk new.disk → ⊥
  pub keep_still : Rises old.keep new.keep → ⊥
  pub clock_still : Rises old.clock new.clock → ⊥

-- it ended as it should, or memory ran out
abbrev pub EndsWell : Status → Type 0
EndsWell status = (status.code ≡ 0) ⊎ (status.code ≡ 7)
