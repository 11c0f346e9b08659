-- The state of the broker. Records are numbered over the whole log, those before its base counted.
--
--     removed       consumers see these      on the disk         pending: the batch that is out, and the rest
--   |-------------|------------------------|-------------------|--------------------|--------------|
--   0         base.records             dispatched           flushed      flushed + out.count    count_of log
use Rattle.std.specs.Prelude.{ℕ, ◌/◌, ◌==◌, List, [], ◌∷◌, sum_by, take_while, Bool, Option}
use Rattle.record_codec.specs.Entry.{Entry}
use Rattle.record_codec.specs.Layout.{size}
use Rattle.log_model.specs.Bases.{Base}
use Rattle.log_model.specs.Numbered.{Log, below, records_from}
use Rattle.broker_model.specs.Tables.{TopicRow, OffsetRow, LockRow}
use Rattle.broker_model.specs.Clients.{ClientTable}

-- what is fixed in a boot: the bytes of a segment, the broker's host, and whether replies wait for the flush
pub record Setup : Type 0 where
  pub segment : ℕ
  pub host : List ℕ
  pub sync : Bool

-- A flush turn that is out: how many records it writes, from the first pending one on, and the number after the last record
-- that it holds up, which are all that were pending when it began.
pub record Out : Type 0 where
  pub count : ℕ
  pub held : ℕ

-- a flush turn that failed: which one it was, the records that it held up by their first number and the one after the last, and
-- the disk's count of failures then
pub record FailedTurn : Type 0 where
  pub turn : ℕ
  pub from : ℕ
  pub held : ℕ
  pub count : ℕ

-- what the kept files have
pub record Saved : Type 0 where
  pub offsets : List OffsetRow
  pub topics : List TopicRow
  pub base : Base

-- Records with numbers below `flushed` are on the disk, those below `dispatched` are seen by consumers. `turns` flush turns were
-- taken in this boot; those that failed stand in their order. `now` is the greatest reading so far, in milliseconds.
pub record State : Type 0 where
  pub setup : Setup
  pub log : Log
  pub flushed : ℕ
  pub dispatched : ℕ
  pub out : Option Out
  pub turns : ℕ
  pub failed : List FailedTurn
  pub topics : List TopicRow
  pub offsets : List OffsetRow
  pub locks : List LockRow
  pub clients : ClientTable
  pub now : ℕ
  pub saved : Saved

-- the records that are not yet on the disk
abbrev pub pending : State → List Entry
pending s = records_from s.log s.flushed

-- how many bytes they have
abbrev pub pending_bytes : State → ℕ
pending_bytes s = sum_by size (pending s)

-- what consumers see: the dispatched part of the log
abbrev pub seen : State → Log
seen s = below s.log s.dispatched

-- the first of some records, and those behind it that lie in its segment
abbrev pub same_segment : ℕ → List Entry → List Entry
same_segment segment [] = []
same_segment segment (r ∷ records) = take_while (λ other. other.offset / segment == r.offset / segment) (r ∷ records)

-- the pending records that a flush turn takes
abbrev pub next_batch : State → List Entry
next_batch s = same_segment s.setup.segment (pending s)
