-- Crashes, and runs: steps, savings of the kept files, and crashes.
use Rattle.std.specs.Prelude.{◌≡◌, ◌⊎◌, ℕ, ◌+◌, ◌≤◌, min, max, List, [], ◌∷◌, map, codes, Option, Some, None, if◌then◌else◌}
use Rattle.std.specs.Str.{bytes_eq}
use Rattle.std.specs.Str.Parse.{digits_value}
use Rattle.record_codec.specs.Entry.{Entry}
use Rattle.record_codec.specs.Props.{value_of}
use Rattle.log_model.specs.Bases.{Base}
use Rattle.log_model.specs.Admissible.{is_system_topic}
use Rattle.log_model.specs.Numbered.{Log, IsLawful, count_of, below, queue_max, above}
use Rattle.log_model.specs.Transactions.{last_of}
use Rattle.log_model.specs.Drafts.{text_in}
use Rattle.broker_model.specs.Tables.{TopicRow, OffsetRow}
use Rattle.broker_model.specs.Clients.{no_clients}
use Rattle.broker_model.specs.State.{State, Setup, Saved}
use Rattle.broker_model.specs.Events
use Rattle.broker_model.specs.Step.{Step}
use Rattle.broker_model.specs.Removal.{IsRemovable}

-- ---- the topics that an opening knows

-- the topic has this queue: one that isn't known yet has at least 4 queues
abbrev pub with_queue : List ℕ → ℕ → List TopicRow → List TopicRow
with_queue topic queue [] = record { topic = topic; queues = max 4 (queue + 1) } ∷ []
with_queue topic queue (row ∷ rows) =
    if bytes_eq row.topic topic then record { topic = row.topic; queues = max row.queues (queue + 1) } ∷ rows
    else row ∷ with_queue topic queue rows

-- the same of a topic of clients; the broker's own topics are in no table
abbrev pub with_own_queue : List ℕ → ℕ → List TopicRow → List TopicRow
with_own_queue topic queue rows = if is_system_topic topic then rows else with_queue topic queue rows

-- the topic that a half or delayed message is for is known too, and its queue
abbrev pub with_real_queue : Option (List ℕ) → Entry → List TopicRow → List TopicRow
with_real_queue None r rows = rows
with_real_queue (Some topic) r rows = with_own_queue topic (digits_value 10 (text_in (codes "REAL_QID") r.props)) rows

-- with the topics of these records
abbrev pub with_topics_of : List Entry → List TopicRow → List TopicRow
with_topics_of [] rows = rows
with_topics_of (r ∷ records) rows =
    with_topics_of records (with_real_queue (value_of (codes "REAL_TOPIC") r.props) r (with_own_queue r.topic r.queue rows))

-- with the queues that a base names
abbrev pub with_named : List (List ℕ × ℕ) → List TopicRow → List TopicRow
with_named [] rows = rows
with_named (named ∷ queues) rows = with_named queues (with_own_queue named.0 named.1 rows)

-- the topics of the kept file, of the base, and of the log
abbrev pub known_topics : List TopicRow → Log → List TopicRow
known_topics rows log = with_topics_of log.records (with_named log.base.named rows)

-- ---- openings and crashes

-- a stored offset, at most the end of its queue
abbrev pub cut_offset : Log → OffsetRow → OffsetRow
cut_offset log row = record row { offset = min row.offset (queue_max log row.topic row.queue) }

-- stored offsets, each at most the end of its queue
abbrev pub cut_offsets : Log → List OffsetRow → List OffsetRow
cut_offsets log rows = map (cut_offset log) rows

-- when a record was stored, 0 where there is none
abbrev pub store_time : Option Entry → ℕ
store_time None = 0
store_time (Some r) = r.store

-- the state of an opening: all of the log is on the disk and dispatched, and nothing else is known but the kept files
abbrev pub opened : Setup → Log → Saved → State
opened setup log saved = record {
  setup = setup;
  log = log;
  flushed = count_of log;
  dispatched = count_of log;
  out = None;
  turns = 0;
  failed = [];
  topics = known_topics saved.topics log;
  offsets = cut_offsets log saved.offsets;
  locks = [];
  clients = no_clients;
  now = store_time (last_of log.records);
  saved = saved;
}

-- the log that a crash keeps: of the records with numbers below k those from the saved base on
abbrev pub kept_log : State → ℕ → Log
kept_log s k = above (below s.log k) s.saved.base

-- the state after a crash that keeps the records with numbers below k
abbrev pub crashed : State → ℕ → Setup → State
crashed s k setup = opened setup (kept_log s k) s.saved

-- a crash may keep the records with numbers below k: all that are on the disk, and maybe more. Segments keep their size.
pub record CanCrash (s : State) (k : ℕ) (setup : Setup) : Type 0 where
  pub no_less : s.flushed ≤ k
  pub no_more : k ≤ count_of s.log
  pub segment : setup.segment ≡ s.setup.segment

-- ---- runs

-- what a run goes through: events with their answers, savings, and crashes that keep the records with numbers below some number
pub data Move : Type 0 where
  Steps : Events.Event → Option Events.Answer → Move
  SavesOffsets : Move
  SavesTopics : Move
  SavesBase : Base → Move
  Crashes : (kept : ℕ) → Setup → Move

-- a state, and the earlier states since the last opening, the newest first
pub record Boot : Type 0 where
  pub now : State
  pub before : List State

-- one of these states
abbrev pub IsAmong : List State → State → Type 0
IsAmong [] s = ⊥
IsAmong (state ∷ states) s = (s ≡ state) ⊎ IsAmong states s

-- the state of the boot now, or an earlier one
abbrev pub IsOfBoot : Boot → State → Type 0
IsOfBoot b s = (s ≡ b.now) ⊎ IsAmong b.before s

-- once the kept files have this
abbrev pub with_saved : Boot → Saved → Boot
with_saved b saved = record { now = record b.now { saved = saved }; before = b.now ∷ b.before }

-- The boot goes on by a move. The kept files get the offsets or the topics that a state of this boot had, or a base at which one
-- of them might begin and that isn't below the saved one.
abbrev pub Goes : Boot → Move → Boot → Type 0
Goes b (Steps e said) c = Step b.now e said c.now × (c.before ≡ b.now ∷ b.before)
Goes b SavesOffsets c = (s : State) × IsOfBoot b s × (c ≡ with_saved b (record b.now.saved { offsets = s.offsets }))
Goes b SavesTopics c = (s : State) × IsOfBoot b s × (c ≡ with_saved b (record b.now.saved { topics = s.topics }))
Goes b (SavesBase base) c = (s : State) × IsOfBoot b s × IsRemovable s base × (b.now.saved.base.records ≤ base.records)
    × (c ≡ with_saved b (record b.now.saved { base = base }))
Goes b (Crashes k setup) c = CanCrash b.now k setup × (c ≡ record { now = crashed b.now k setup; before = [] })

-- a run along which each move has P, of the boot before it, the move, and the boot after it
abbrev pub RunWith : (Boot → Move → Boot → Type 0) → Boot → List Move → Boot → Type 0
RunWith P b [] c = c ≡ b
RunWith P b (move ∷ moves) c = (next : Boot) × Goes b move next × P b move next × RunWith P next moves c

-- nothing is asked of a move
abbrev pub Anything : Boot → Move → Boot → Type 0
Anything b move c = Unit {0}

-- a run from a boot by these moves to a boot
abbrev pub Run : Boot → List Move → Boot → Type 0
Run b moves c = RunWith Anything b moves c

-- where a run begins: a lawful log is opened, and the saved base is the log's
pub record IsOpening (b : Boot) : Type 0 where
  pub lawful : IsLawful b.now.setup.segment b.now.log
  pub base : b.now.saved.base ≡ b.now.log.base
  pub state : b.now ≡ opened b.now.setup b.now.log b.now.saved
  pub before : b.before ≡ []

-- the move is a crash
abbrev pub IsCrash : Move → Type 0
IsCrash (Crashes k setup) = Unit {0}
IsCrash (Steps e said) = ⊥
IsCrash SavesOffsets = ⊥
IsCrash SavesTopics = ⊥
IsCrash (SavesBase base) = ⊥

-- none of the moves is a crash: all of them are in one boot
abbrev pub IsOneBoot : List Move → Type 0
IsOneBoot [] = Unit {0}
IsOneBoot (move ∷ moves) = (IsCrash move → ⊥) × IsOneBoot moves
