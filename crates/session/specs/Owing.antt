-- What is owed for a request, and what is written of it.
use Rattle.std.specs.Prelude.{◌≡◌, ◌⊎◌, ◌-◌, ◌^◌, ℕ, ◌++◌, List, [], pos, codes, nat_le, nat_lt, if◌then◌else◌}
use Rattle.std.specs.Prelude.{Option, Some, None, Result, Ok, Err}
use Rattle.std.specs.declared.alloc.AllocError.{AllocError}
use Rattle.mq_bytes.specs.Decimal.{digits_of}
use Rattle.remoting_frame.specs.Head.{pairs_size}
use Rattle.reply_fields.specs.Parts.{ReplyParts, plain}
use Rattle.reply_fields.specs.Refusals.{fault_reply}
use Rattle.reply_fields.specs.Replies.{AppendsReply}
use Rattle.request_fields.specs.declared.fault.RequestFault.TheVariants as faults
use Rattle.mq_outside.specs.declared.faults.DiskFault.{DiskFault}
use Rattle.mq_outside.specs.declared.faults.DiskFault.TheVariants.{Failed, Memory}
use Rattle.broker_events.specs.declared.event.Event.{Event}
use Rattle.broker_events.specs.declared.event.Event.TheVariants as events
use Rattle.broker_events.specs.declared.said.Said.{Said}
use Rattle.broker_events.specs.declared.said.Said.TheVariants as said
use Rattle.broker_events.specs.declared.said.Awaited.{Awaited}
use Rattle.session.specs.Readers.{ReaderView, HasCause}
use Rattle.session.specs.declared.caller.Caller.{Caller}
use Rattle.session.specs.declared.owed.Applied.{Applied}
use Rattle.session.specs.declared.owed.Applied.TheVariants.{Owes, Full}
use Rattle.session.specs.declared.owed.Awaits.{Awaits}

-- who makes steps: what was before, an event, what was said to it, and what is after
abbrev pub Steps : Type 0 → Type 1
Steps C = C → Event → Option Said → C → Type 0

-- ---- what came of a request

-- the event is a request
abbrev pub IsRequest : Event → Type 0
IsRequest (events.Request link host now request) = Unit {0}
IsRequest events.Take = ⊥
IsRequest (events.Flushed receipt) = ⊥
IsRequest (events.FlushFailed count) = ⊥
IsRequest (events.Look number turn) = ⊥
IsRequest (events.Dispatch most) = ⊥
IsRequest (events.Deliver now) = ⊥
IsRequest (events.Check now) = ⊥
IsRequest (events.Leave link) = ⊥

-- what was said to a request is what came of it
abbrev pub applied_of : Option Said → Option Applied
applied_of None = Some (Owes (fault_reply faults.Memory) None)
applied_of (Some (said.Reply reply)) = Some (Owes reply None)
applied_of (Some (said.After reply number turn)) = Some (Owes reply (Some (record { number = number; turn = turn })))
applied_of (Some (said.Full pending)) = Some (Full pending)
applied_of (Some (said.Batch batch)) = None
applied_of (Some said.Done) = None
applied_of (Some (said.Awaited what)) = None
applied_of (Some (said.Moved number)) = None
applied_of (Some said.LogEnd) = None
applied_of (Some (said.Delivered what)) = None
applied_of (Some (said.Checked what)) = None

-- what came of it is what was said; where memory wants for telling so, nothing was said
abbrev pub IsTold : {E : Type 0} → Option Said → Result Applied E → Type 0
IsTold what (Ok applied) = applied_of what ≡ Some applied
IsTold what (Err fault) = what ≡ None

-- one step was made, and what came of the request is what was said
pub record IsApplied {C : Type 0} (makes : Steps C) (x : C) (event : Event) (result : Result Applied AllocError) (y : C) : Type 0 where
  pub what : Option Said
  pub made : makes x event what y
  pub told : IsTold what result

-- ---- what became of its record

-- one look for this record, and what became of it
abbrev pub look_for : Awaits → Awaited → Event × Option Said
look_for awaits what = (events.Look awaits.number awaits.turn, Some (said.Awaited what))

-- what is looked for where a request found no room: a turn since the beginning of the log that held the first pending record
abbrev pub room_at : ℕ → Awaits
room_at pending = record { number = pending; turn = 0 }

-- the fields of the reply, unless they leave no room for a remark
abbrev pub fields_within : ReplyParts → List (List ℕ × List ℕ)
fields_within reply = if nat_le (pairs_size reply.ext) 65000 then reply.ext else []

-- the reply where the disk failed, with its count
abbrev pub not_flushed : ReplyParts → ℕ → ReplyParts
not_flushed reply count = record { code = pos 10; remark = codes "flush " ++ digits_of count; ext = fields_within reply; body = [] }

-- ---- what is written

-- the reply where one can't be written: memory wants, or its stored bytes can't be read, with the count of the reader's faults
abbrev pub unwritten : DiskFault → ℕ → ReplyParts
unwritten Failed count = plain (pos 1) (codes "read " ++ digits_of count)
unwritten Memory count = fault_reply faults.Memory

-- how many replies `read N` that is: one where the reader failed; none is counted where N is the greatest u64, at which the count of
-- failures stays
abbrev pub read_replies_by : DiskFault → ℕ → ℕ
read_replies_by Failed count = if nat_lt count (2 ^ 64 - 1) then 1 else 0
read_replies_by Memory count = 0

-- The reply was written; or why it can't be, and then there is a cause. How many replies `read N` were written, one at most, is `reads`.
abbrev pub IsWritten : ReaderView → Caller → ReplyParts → ℕ → ℕ → List ℕ → List ℕ → Type 0
IsWritten reader caller reply count reads old new = ((reads ≡ 0) × AppendsReply reader.gives caller.form caller.opaque reply old new)
    ⊎ ((fault : DiskFault) × HasCause reader fault count × (reads ≡ read_replies_by fault count)
    × AppendsReply reader.gives caller.form caller.opaque (unwritten fault count) old new)
