-- Events and answers, as the model has them.
use Rattle.std.specs.Prelude.{◌≡◌, ℕ, List, [], ◌∷◌, length, Option, Some, None, option_map, Result, Ok, Err}
use Rattle.record_codec.specs.Entry.{Entry}
use Rattle.log_model.specs.Queues.{said_by}
use Rattle.log_model.specs.Segments.{layouts}
use Rattle.log_model.specs.declared.batch.Batch.{Batch}
use Rattle.reply_fields.specs.Parts.{AskParts}
use Rattle.broker_model.specs.Events as model
use Rattle.broker_events.specs.declared.event.Event.{Event}
use Rattle.broker_events.specs.declared.event.Event.TheVariants.{Request, Take, Flushed, FlushFailed, Look, Dispatch, Deliver, Check, Leave}
use Rattle.broker_events.specs.declared.said.Said.{Said}
use Rattle.broker_events.specs.declared.said.Said.TheVariants as said
use Rattle.broker_events.specs.declared.said.Checked.{Checked}
use Rattle.broker_events.specs.declared.said.Awaited.{Awaited}
use Rattle.broker_events.specs.declared.said.Awaited.TheVariants as awaited
use Rattle.broker_events.specs.Replies.{IsReplyOf, IsToldAs}

-- ---- events

-- the event as the model has it
abbrev pub event_of : Event → model.Event
event_of (Request link host now request) = model.Asks (record { link = link; host = host; now = now; request = request })
event_of Take = model.Take
event_of (Flushed receipt) = model.Flushed receipt.count
event_of (FlushFailed count) = model.FlushFailed count
event_of (Look number turn) = model.Look number turn
event_of (Dispatch most) = model.Dispatch most
event_of (Deliver now) = model.Deliver now
event_of (Check now) = model.Check now
event_of (Leave link) = model.Leave link

-- flush turns are begun and ended by the owner of the key alone
abbrev pub IsKeyed : Event → Type 0
IsKeyed (Request link host now request) = ⊥
IsKeyed Take = Unit {0}
IsKeyed (Flushed receipt) = Unit {0}
IsKeyed (FlushFailed count) = Unit {0}
IsKeyed (Look number turn) = ⊥
IsKeyed (Dispatch most) = ⊥
IsKeyed (Deliver now) = ⊥
IsKeyed (Check now) = ⊥
IsKeyed (Leave link) = ⊥

-- the event may run out of memory
abbrev pub MayTakeMemory : Event → Type 0
MayTakeMemory (Request link host now request) = Unit {0}
MayTakeMemory Take = Unit {0}
MayTakeMemory (Flushed receipt) = ⊥
MayTakeMemory (FlushFailed count) = ⊥
MayTakeMemory (Look number turn) = ⊥
MayTakeMemory (Dispatch most) = ⊥
MayTakeMemory (Deliver now) = Unit {0}
MayTakeMemory (Check now) = Unit {0}
MayTakeMemory (Leave link) = ⊥

-- ---- answers

-- this may be said to a request
abbrev pub IsOfRequest : Said → Type 0
IsOfRequest (said.Reply reply) = Unit {0}
IsOfRequest (said.After reply number turn) = Unit {0}
IsOfRequest (said.Full pending) = Unit {0}
IsOfRequest (said.Batch batch) = ⊥
IsOfRequest said.Done = ⊥
IsOfRequest (said.Awaited what) = ⊥
IsOfRequest (said.Moved number) = ⊥
IsOfRequest said.LogEnd = ⊥
IsOfRequest (said.Delivered what) = ⊥
IsOfRequest (said.Checked what) = ⊥

-- this may be said to a delivery
abbrev pub IsOfDelivery : Said → Type 0
IsOfDelivery (said.Reply reply) = ⊥
IsOfDelivery (said.After reply number turn) = ⊥
IsOfDelivery (said.Full pending) = Unit {0}
IsOfDelivery (said.Batch batch) = ⊥
IsOfDelivery said.Done = ⊥
IsOfDelivery (said.Awaited what) = ⊥
IsOfDelivery (said.Moved number) = ⊥
IsOfDelivery said.LogEnd = Unit {0}
IsOfDelivery (said.Delivered what) = Unit {0}
IsOfDelivery (said.Checked what) = ⊥

-- this may be said to a check
abbrev pub IsOfCheck : Said → Type 0
IsOfCheck (said.Reply reply) = ⊥
IsOfCheck (said.After reply number turn) = ⊥
IsOfCheck (said.Full pending) = Unit {0}
IsOfCheck (said.Batch batch) = ⊥
IsOfCheck said.Done = ⊥
IsOfCheck (said.Awaited what) = ⊥
IsOfCheck (said.Moved number) = ⊥
IsOfCheck said.LogEnd = Unit {0}
IsOfCheck (said.Delivered what) = ⊥
IsOfCheck (said.Checked what) = Unit {0}

-- this may be said to the event: each event has its own answers
abbrev pub IsAnswerTo : Event → Said → Type 0
IsAnswerTo (Request link host now request) what = IsOfRequest what
IsAnswerTo Take what = (batch : Option Batch) × (what ≡ said.Batch batch)
IsAnswerTo (Flushed receipt) what = what ≡ said.Done
IsAnswerTo (FlushFailed count) what = what ≡ said.Done
IsAnswerTo (Look number turn) what = (awaited : Awaited) × (what ≡ said.Awaited awaited)
IsAnswerTo (Dispatch most) what = (number : ℕ) × (what ≡ said.Moved number)
IsAnswerTo (Deliver now) what = IsOfDelivery what
IsAnswerTo (Check now) what = IsOfCheck what
IsAnswerTo (Leave link) what = what ≡ said.Done

-- what was said, nothing where memory ran out
abbrev pub said_in : {E : Type 0} → Result Said E → Option Said
said_in (Ok said) = Some said
said_in (Err fault) = None

-- where the first of the records stands
abbrev pub begins_at : List Entry → ℕ → Type 0
begins_at [] place = ⊥
begins_at (r ∷ records) place = place ≡ r.offset

-- the batch has the records that the model's turn takes
pub record IsBatchFor (batch : Batch) (taken : model.Taken) : Type 0 where
  pub from : batch.from ≡ taken.from
  pub count : batch.count ≡ length taken.records
  pub place : begins_at taken.records batch.place
  pub blank : batch.blank ≡ taken.blank
  pub bytes : batch.bytes ≡ layouts taken.records

-- a batch for what is taken, or neither
abbrev pub AreBatchesFor : Option Batch → Option model.Taken → Type 0
AreBatchesFor None None = Unit {0}
AreBatchesFor None (Some taken) = ⊥
AreBatchesFor (Some batch) None = ⊥
AreBatchesFor (Some batch) (Some taken) = IsBatchFor batch taken

-- the model answers that this batch is taken, or none
abbrev pub IsTakenAs : Option Batch → model.Answer → Type 0
IsTakenAs batch answer = (taken : Option model.Taken) × (answer ≡ model.Batch taken) × AreBatchesFor batch taken

-- what became of a record, as the model has it
abbrev pub awaited_of : Awaited → model.Awaited
awaited_of awaited.Flushed = model.IsFlushed
awaited_of (awaited.Failed count) = model.HasFailed count
awaited_of awaited.NotYet = model.NotYet

-- who is asked, and for which record, as the model has it
abbrev pub asked_of : AskParts → ℕ × Entry
asked_of ask = (ask.link, said_by ask.view)

-- a check as the model has it
abbrev pub checked_of : Checked → model.CheckDone
checked_of done = record { origin = done.origin; number = done.number; asks = option_map asked_of done.ask }

-- what is said is what the model answers
abbrev pub Says : Said → model.Answer → Type 0
Says (said.Reply reply) answer = IsToldAs reply answer
Says (said.After reply number turn) answer = (told : model.Reply) × (answer ≡ model.After told number turn) × IsReplyOf reply told
Says (said.Full pending) answer = answer ≡ model.Full pending
Says (said.Batch batch) answer = IsTakenAs batch answer
Says said.Done answer = answer ≡ model.Done
Says (said.Awaited what) answer = answer ≡ model.Looked (awaited_of what)
Says (said.Moved number) answer = answer ≡ model.Moved number
Says said.LogEnd answer = answer ≡ model.LogEnd
Says (said.Delivered what) answer = answer ≡ model.Delivered what
Says (said.Checked what) answer = answer ≡ model.Checked (option_map checked_of what)

-- the same, where nothing was said since memory ran out
abbrev pub SaysIn : Option Said → Option model.Answer → Type 0
SaysIn None None = Unit {0}
SaysIn None (Some answer) = ⊥
SaysIn (Some what) None = ⊥
SaysIn (Some what) (Some answer) = Says what answer
