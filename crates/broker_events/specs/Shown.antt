-- What the owner of the key sees: the end of the flushed records and the batch that is out, and how steps move them.
use Rattle.std.specs.Prelude.{◌≡◌, true, ℕ, ◌+◌, ◌^◌, ◌<◌, length, Option, Some, None}
use Rattle.log_model.specs.declared.batch.Batch.{Batch}
use Rattle.log_model.specs.Batches.{IsReceiptFor}
use Rattle.broker_events.specs.Served.{is_served}
use Rattle.broker_events.specs.declared.event.Event.{Event}
use Rattle.broker_events.specs.declared.event.Event.TheVariants.{Request, Take, Flushed, FlushFailed, Look, Dispatch, Deliver, Check, Leave}
use Rattle.broker_events.specs.declared.said.Said.{Said}
use Rattle.broker_events.specs.declared.said.Said.TheVariants as said

-- how many records are flushed, the removed ones counted; the place where they end; and the batch that is out
pub record Shown : Type 0 where
  pub flushed : ℕ
  pub end : ℕ
  pub out : Option Batch

-- a batch is out, and is like this
abbrev pub IsOut : Option Batch → (Batch → Type 0) → Type 0
IsOut None P = ⊥
IsOut (Some batch) P = P batch

-- The event may be given: a request is served, a reading of the clock is below 2^62, and a flush turn ends with the batch that is
-- out.
abbrev pub Accepts : Shown → Event → Type 0
Accepts shown (Request link host now request) = (now < 2 ^ 62) × (is_served request ≡ true)
Accepts shown Take = Unit {0}
Accepts shown (Flushed receipt) = IsOut shown.out (λ batch. IsReceiptFor batch receipt)
Accepts shown (FlushFailed count) = IsOut shown.out (λ batch. Unit {0})
Accepts shown (Look number turn) = Unit {0}
Accepts shown (Dispatch most) = Unit {0}
Accepts shown (Deliver now) = now < 2 ^ 62
Accepts shown (Check now) = now < 2 ^ 62
Accepts shown (Leave link) = Unit {0}

-- the batch that is out after a turn was asked for: what was said, or what was out before
abbrev pub taken : Shown → Option Said → Shown
taken shown (Some (said.Batch (Some batch))) = record shown { out = Some batch }
taken shown _ = shown

-- the batch is flushed
abbrev pub after_batch : Shown → Option Batch → Shown
after_batch shown None = shown
after_batch shown (Some batch) = record { flushed = shown.flushed + batch.count; end = batch.place + length batch.bytes; out = None }

-- what is shown after an event and what was said to it
abbrev pub moved : Shown → Event → Option Said → Shown
moved shown (Request link host now request) what = shown
moved shown Take what = taken shown what
moved shown (Flushed receipt) what = after_batch shown shown.out
moved shown (FlushFailed count) what = record shown { out = None }
moved shown (Look number turn) what = shown
moved shown (Dispatch most) what = shown
moved shown (Deliver now) what = shown
moved shown (Check now) what = shown
moved shown (Leave link) what = shown
