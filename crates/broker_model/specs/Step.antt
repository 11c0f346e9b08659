-- One step of the broker: the state that an event leaves, and the step with its answer.
use Rattle.std.specs.Prelude.{◌≡◌, ℕ, ◌+◌, ◌-◌, ◌^◌, ◌≤◌, ◌==◌, min, max, List, [], ◌∷◌, ◌++◌}
use Rattle.std.specs.Prelude.{length, ℤ, pos, negsuc, bit_and, Option, Some, None, if◌then◌else◌}
use Rattle.std.specs.Int.{w32, cast_unsigned}
use Rattle.record_codec.specs.Entry.{Entry}
use Rattle.log_model.specs.Numbered.{count_of, queue_max, with_appended, above}
use Rattle.request_fields.specs.Requests.{PullSaid}
use Rattle.request_fields.specs.declared.request.Request.{Request}
use Rattle.request_fields.specs.declared.request.Request.TheVariants.{Send, Pull, Query, OffsetOf, SetOffset, MakeTopic, Search, MaxOffset}
use Rattle.request_fields.specs.declared.request.Request.TheVariants.{MinOffset, ViewById, Beat, Unregister, EndTransaction, Lock, Unlock}
use Rattle.broker_model.specs.Tables.{OffsetRow, with_topic, with_offset, granted, with_locks, without_locks}
use Rattle.broker_model.specs.Clients.{after_beat, after_unregister, after_leave}
use Rattle.broker_model.specs.State.{State, Out, FailedTurn, seen}
use Rattle.broker_model.specs.Events
use Rattle.broker_model.specs.Refusals.{send_queues}
use Rattle.broker_model.specs.Appended.{moment, is_refused, made_by}
use Rattle.broker_model.specs.Answers.{answer_of, taken}

-- ---- what requests change

-- the number, where it isn't negative
abbrev pub if_natural : ℤ → Option ℕ
if_natural (pos n) = Some n
if_natural (negsuc n) = None

-- the offset that a pull stores besides, where bit 1 says so
abbrev pub pull_offset : PullSaid → Option ℕ
pull_offset p = if bit_and (cast_unsigned w32 p.sysflag) 1 == 1 then if_natural p.commit else None

-- the offset row of a group that asks to store an offset of a queue: at most the queue's end, as consumers see it
abbrev pub offset_row : State → List ℕ → List ℕ → ℕ → ℕ → OffsetRow
offset_row s group topic queue offset =
    record { group = group; topic = topic; queue = queue; offset = min offset (queue_max (seen s) topic queue) }

-- with this offset stored, if any
abbrev pub stored : State → List ℕ → List ℕ → ℕ → Option ℕ → State
stored s group topic queue None = s
stored s group topic queue (Some offset) = record s { offsets = with_offset (offset_row s group topic queue offset) s.offsets }

-- with this topic, which has at least n queues then
abbrev pub with_made : State → List ℕ → ℕ → State
with_made s topic n = record s { topics = with_topic topic n s.topics }

-- the state after a request that came on this link, at this reading of the clock, but for the log and the time
unfoldable pub request_changed : State → ℕ → ℕ → Request → State
request_changed s link now (Send send) = with_made s send.topic (send_queues s send)
request_changed s link now (Pull p) = stored s p.group p.topic p.queue (pull_offset p)
request_changed s link now (Query q) = s
request_changed s link now (OffsetOf q) = s
request_changed s link now (SetOffset q) = stored s q.group q.topic q.queue (Some q.offset)
request_changed s link now (MakeTopic t) = with_made s t.topic (max t.read t.write)
request_changed s link now (Search q) = s
request_changed s link now (MaxOffset q) = s
request_changed s link now (MinOffset q) = s
request_changed s link now (ViewById v) = s
request_changed s link now (Beat b) = record s { clients = after_beat link b s.clients }
request_changed s link now (Unregister u) = record s { clients = after_unregister u.client u.producer u.consumer s.clients }
request_changed s link now (EndTransaction end) = s
request_changed s link now (Lock l) =
    record s { locks = with_locks now l.group l.client (granted now l.group l.client s.locks l.queues) s.locks }
request_changed s link now (Unlock l) = record s { locks = without_locks l.group l.client l.queues s.locks }

-- ---- what the other events change

-- one more turn was taken; 2^64 - 1 stays
abbrev pub next_turn : ℕ → ℕ
next_turn turns = min (turns + 1) (2 ^ 64 - 1)

-- a flush turn begins with this batch, and holds up all that is pending
abbrev pub out_of : State → Option Events.Taken → State
out_of s None = s
out_of s (Some t) = record s { out = Some (record { count = length t.records; held = count_of s.log }); turns = next_turn s.turns }

-- the failed turns with the one that is out, which failed with this count
abbrev pub failed_turns : State → ℕ → Option Out → List FailedTurn
failed_turns s count None = s.failed
failed_turns s count (Some out) = s.failed ++ record { turn = s.turns; from = s.flushed; held = out.held; count = count } ∷ []

-- the state after an event that isn't refused, but for the records that it appends and the time
unfoldable pub changed : State → Events.Event → State
changed s (Events.Asks a) = request_changed s a.link a.now a.request
changed s Events.Take = out_of s (taken s)
changed s (Events.Flushed count) = record s { flushed = s.flushed + count; out = None }
changed s (Events.FlushFailed count) = record s { failed = failed_turns s count s.out; out = None }
changed s (Events.Look number turn) = s
changed s (Events.Dispatch most) = record s { dispatched = min s.flushed (s.dispatched + most) }
changed s (Events.Deliver now) = s
changed s (Events.Check now) = s
changed s (Events.Leave link) = record s { clients = after_leave link s.clients }
changed s (Events.Trim base) = record s { log = above s.log base }

-- the state at this time with these records appended to its log
abbrev pub with_records : State → ℕ → List Entry → State
with_records s now [] = record s { now = now }
with_records s now (r ∷ records) = record s { log = with_appended s.log (r ∷ records); now = now }

-- the state after an event
unfoldable pub after : State → Events.Event → State
after s e = if is_refused s e then s else with_records (changed s e) (moment s e) (made_by s e)

-- ---- the step

-- the batch that is out has so many records
abbrev pub IsOut : Option Out → ℕ → Type 0
IsOut None count = ⊥
IsOut (Some out) count = out.count ≡ count

-- a batch is out
abbrev pub SomeOut : Option Out → Type 0
SomeOut None = ⊥
SomeOut (Some out) = Unit {0}

-- The event may happen: a flush turn ends with the batch that is out, and a base that is taken over is the saved one and not
-- below the log's.
abbrev pub IsPossible : State → Events.Event → Type 0
IsPossible s (Events.Flushed count) = IsOut s.out count
IsPossible s (Events.FlushFailed count) = SomeOut s.out
IsPossible s (Events.Trim base) = (base ≡ s.saved.base) × (s.log.base.records ≤ base.records)
IsPossible s (Events.Asks a) = Unit {0}
IsPossible s Events.Take = Unit {0}
IsPossible s (Events.Look number turn) = Unit {0}
IsPossible s (Events.Dispatch most) = Unit {0}
IsPossible s (Events.Deliver now) = Unit {0}
IsPossible s (Events.Check now) = Unit {0}
IsPossible s (Events.Leave link) = Unit {0}

-- the event may run out of memory
abbrev pub MayTakeMemory : Events.Event → Type 0
MayTakeMemory (Events.Asks a) = Unit {0}
MayTakeMemory Events.Take = Unit {0}
MayTakeMemory (Events.Deliver now) = Unit {0}
MayTakeMemory (Events.Check now) = Unit {0}
MayTakeMemory (Events.Flushed count) = ⊥
MayTakeMemory (Events.FlushFailed count) = ⊥
MayTakeMemory (Events.Look number turn) = ⊥
MayTakeMemory (Events.Dispatch most) = ⊥
MayTakeMemory (Events.Leave link) = ⊥
MayTakeMemory (Events.Trim base) = ⊥

-- One step: the event has this answer in the state and leaves the other state. Where memory ran out there is no answer, and
-- nothing changed.
abbrev pub Step : State → Events.Event → Option Events.Answer → State → Type 0
Step s e None new = MayTakeMemory e × (new ≡ s)
Step s e (Some answer) new = IsPossible s e × (answer ≡ answer_of s e) × (new ≡ after s e)
