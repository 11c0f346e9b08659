-- What may happen to the broker, and what it answers. Times are in milliseconds.
use Rattle.std.specs.Prelude.{ℕ, List, Option}
use Rattle.request_fields.specs.declared.clients.QueueName.{QueueName}
use Rattle.record_codec.specs.Entry.{Entry}
use Rattle.log_model.specs.Bases.{Base}
use Rattle.request_fields.specs.declared.request.Request.{Request}

-- a request, the link and the host that it came from, and the reading of the clock
pub record Asked : Type 0 where
  pub link : ℕ
  pub host : List ℕ
  pub now : ℕ
  pub request : Request

-- A request; a flush turn begins, ends, or fails, with the disk's count of failures; somebody looks what became of a record, and
-- names the number of turns that had been taken; flushed records are shown to consumers; a delayed message is delivered; a half
-- message is checked; a link ends; the records below a base are removed.
pub data Event : Type 0 where
  Asks : Asked → Event
  Take : Event
  Flushed : (count : ℕ) → Event
  FlushFailed : (count : ℕ) → Event
  Look : (number turn : ℕ) → Event
  Dispatch : (most : ℕ) → Event
  Deliver : (now : ℕ) → Event
  Check : (now : ℕ) → Event
  Leave : (link : ℕ) → Event
  Trim : Base → Event

-- a reply, whose body is the layouts of these records, one after another
pub record Reply : Type 0 where
  pub code : ℕ
  pub remark : List ℕ
  pub ext : List (List ℕ × List ℕ)
  pub body : List Entry

-- what became of a record: it is on the disk, or a turn that held it failed with this count, or neither yet
pub data Awaited : Type 0 where
  IsFlushed : Awaited
  HasFailed : (count : ℕ) → Awaited
  NotYet : Awaited

-- a flush turn that begins: the number of its first record, its records, and the blank before them by place and size
pub record Taken : Type 0 where
  pub from : ℕ
  pub records : List Entry
  pub blank : Option (ℕ × ℕ)

-- a check: of which origin, the number of the first record that it appended, and the link and the record to be asked
pub record CheckDone : Type 0 where
  pub origin : ℕ
  pub number : ℕ
  pub asks : Option (ℕ × Entry)

-- A reply at once, or one that waits until the record of this number is on the disk, with the number of turns taken; the queues
-- that a client gets; the buffer is full, with the number of the first pending record; the end of all places; what the other
-- events answer: the batch, that it is done, what became of a record, how many records are dispatched, the level and the number
-- of the delivery, and the check.
pub data Answer : Type 0 where
  Replies : Reply → Answer
  After : (reply : Reply) → (number turn : ℕ) → Answer
  Locked : List QueueName → Answer
  Full : (pending : ℕ) → Answer
  LogEnd : Answer
  Batch : Option Taken → Answer
  Done : Answer
  Looked : Awaited → Answer
  Moved : ℕ → Answer
  Delivered : Option (ℕ × ℕ) → Answer
  Checked : Option CheckDone → Answer
