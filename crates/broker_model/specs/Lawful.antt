-- Which states there are.
use Rattle.std.specs.Prelude.{◌≡◌, ℕ, ◌+◌, ◌<◌, ◌≤◌, ◌^◌, ◌||◌, take, slice_get, codes, bit_and, true, false, All, Option, Some, None}
use Rattle.std.specs.List.{AllPairs}
use Rattle.record_codec.specs.Entry.{Entry}
use Rattle.record_codec.specs.Layout.{size, IsHost}
use Rattle.record_codec.specs.Props.{value_of}
use Rattle.log_model.specs.Admissible.{half_topic, is_system_topic, NamesEarlier}
use Rattle.log_model.specs.Kinds.{is_half, is_delayed, is_copy, is_discard}
use Rattle.log_model.specs.Numbered.{Log, IsLawful, count_of, queue_max}
use Rattle.broker_model.specs.Tables.{TopicRow}
use Rattle.broker_model.specs.State.{State, Out, FailedTurn}
use Rattle.broker_model.specs.Removal.{IsCutAt}

-- where a flush turn is out, it is like this
abbrev pub IfOut : Option Out → (Out → Type 0) → Type 0
IfOut None P = Unit {0}
IfOut (Some out) P = P out

-- a flush turn that is out writes some of the records that it holds, which are pending, and more than those of each failed turn
pub record IsTurn (s : State) (out : Out) : Type 0 where
  pub some : 0 < out.count
  pub few : s.flushed + out.count ≤ out.held
  pub held : out.held ≤ count_of s.log
  pub grows : All (λ f. f.held ≤ out.held) s.failed

-- a failed turn held records from some that is flushed or the first pending one on, and was one of those that were taken
pub record IsFailedTurn (s : State) (f : FailedTurn) : Type 0 where
  pub from : f.from ≤ s.flushed
  pub held : f.held ≤ count_of s.log
  pub turn : f.turn ≤ s.turns

-- the saved base cuts the log behind dispatched records
pub record IsSaved (s : State) : Type 0 where
  pub ahead : ℕ
  pub cut : IsCutAt s.setup.segment s.log ahead s.saved.base
  pub dispatched : s.log.base.records + ahead ≤ s.dispatched

-- a topic of clients has 1 to 1,024 queues
pub record IsTopic (row : TopicRow) : Type 0 where
  pub some : 0 < row.queues
  pub few : row.queues ≤ 1024
  pub plain : is_system_topic row.topic ≡ false

-- The state is one that may come: its log is lawful, its numbers stand in order, what is out is pending, no record was stored
-- later than now, the saved base cuts the log, failed turns stand in their order, and its host and its topics can be written.
pub record IsState (s : State) : Type 0 where
  pub log : IsLawful s.setup.segment s.log
  pub base : s.log.base.records ≤ s.dispatched
  pub dispatched : s.dispatched ≤ s.flushed
  pub flushed : s.flushed ≤ count_of s.log
  pub out : IfOut s.out (IsTurn s)
  pub now : (i : ℕ) (r : Entry) → slice_get s.log.records i ≡ Some r → r.store ≤ s.now
  pub saved : IsSaved s
  pub failed : All (IsFailedTurn s) s.failed
  pub host : IsHost s.setup.host
  pub time : s.now < 2 ^ 62
  pub topics : All IsTopic s.topics
  pub order : AllPairs (λ f g. (f.held ≤ g.held) × (f.turn ≤ g.turn)) s.failed

-- ---- what the laws of runs need of a log

-- the record may stand behind the log, as far as its numbers and its kind tell, whatever its bytes
pub record IsInOrder (log : Log) (r : Entry) : Type 0 where
  pub place : (i : ℕ) (earlier : Entry) → slice_get log.records i ≡ Some earlier → earlier.offset + size earlier ≤ r.offset
  pub begins : log.base.place ≤ r.offset
  pub queue_offset : r.queue_offset ≡ queue_max log r.topic r.queue
  pub names : NamesEarlier (queue_max log half_topic 0) r
  pub prepared : (is_copy r || is_discard r) ≡ true → r.prepared < r.offset
  pub bits : (is_half r || is_delayed r) ≡ true → bit_and r.sysflag 12 ≡ 0
  pub mark : (is_half r || is_delayed r || is_discard r) ≡ true → value_of (codes "DELAY_FROM") r.props ≡ None
  pub half : is_half r ≡ true → r.queue ≡ 0

-- each record stands in order behind those before it
abbrev pub IsOrderly : Log → Type 0
IsOrderly log = (i : ℕ) (r : Entry) → slice_get log.records i ≡ Some r
    → IsInOrder (record { base = log.base; records = take i log.records }) r
