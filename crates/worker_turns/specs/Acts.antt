-- What happened to the broker and its disk, act by act.
use Rattle.std.specs.Prelude.{◌≡◌, ◌⊎◌, ℕ, ◌++◌, List, [], ◌∷◌, Option, Some, None, Ok, Err}
use Rattle.mq_outside.specs.Counts.{Rises}
use Rattle.mq_outside.specs.Disk.{DiskState}
use Rattle.log_model.specs.Batches.{IsReceiptFor}
use Rattle.log_model.specs.Stored.{FlushTurn, flush_turn}
use Rattle.log_model.specs.declared.batch.Batch.{Batch}
use Rattle.log_model.specs.declared.batch.Receipt.{Receipt}
use Rattle.segment_files.specs.Turn.{Growing, growing}
use Rattle.segment_files.specs.declared.last_file.LastFile.{LastFile}
use Rattle.broker_events.specs.Makes.{Makes}
use Rattle.broker_events.specs.Shown.{Shown}
use Rattle.broker_events.specs.declared.event.Event.{Event}
use Rattle.broker_events.specs.declared.event.Event.TheVariants.{Request, Take, Flushed, FlushFailed, Look, Dispatch, Deliver, Check, Leave}
use Rattle.broker_events.specs.declared.said.Said.{Said}
use Rattle.broker_events.specs.declared.said.Said.TheVariants as said
use Rattle.worker_turns.specs.Turns.{Steps, TakesFrom, SyncedLog, synced_log, Writes}

-- a flush turn that ended Ok: what it wrote, its receipt, and the disk's moment at its end
pub record Turn : Type 0 where
  pub batch : Batch
  pub receipt : Receipt
  pub moment : ℕ

-- A step of the broker with what was said to it, which left the disk as it was; a flush turn that ended Ok; and one that failed,
-- where the disk counts so many faults.
pub data Act : Type 0 where
  Made : Event → Option Said → Act
  Wrote : Turn → Act
  Missed : Batch → (count : ℕ) → Act

-- what is seen of disks of this type: that they tell what they hold, what that is, and how often one failed and was synced
pub record DiskView (D : Type 0) : Type 1 where
  pub tells : Type 0
  pub state : D → DiskState
  pub faults : D → ℕ
  pub syncs : D → ℕ

abbrev pub view_of : {D : Type 0} → Type 0 → (D → DiskState) → (D → ℕ) → (D → ℕ) → DiskView D
view_of tells state faults syncs = record { tells = tells; state = state; faults = faults; syncs = syncs }

-- the log's last file with the offset of the next bytes, and the disk
pub record Place (D : Type 0) : Type 0 where
  pub file : LastFile
  pub disk : D

abbrev pub place_of : {D : Type 0} → LastFile → D → Place D
place_of file disk = record { file = file; disk = disk }

-- a log that is open for batches there
abbrev pub growing_at : {D : Type 0} → DiskView D → Place D → Growing
growing_at view at = growing at.file (view.state at.disk)

-- with how often its disk was synced
abbrev pub synced_at : {D : Type 0} → DiskView D → Place D → SyncedLog
synced_at view at = synced_log (growing_at view at) (view.syncs at.disk)

-- who makes the broker's steps and a place, and those that they became
pub record Change (C P : Type 0) : Type 0 where
  pub calls : C
  pub place : P
  pub calls_then : C
  pub place_then : P

abbrev pub change_of : {C P : Type 0} → C → P → C → P → Change C P
change_of calls place calls_then place_then = record { calls = calls; place = place; calls_then = calls_then; place_then = place_then }

-- it has the key, and no batch is out
pub record IsFree (key : Type 0) (shown : Shown) : Type 0 where
  pub key_is : key
  pub none_out : shown.out ≡ None

-- no batch is flushed by the event
abbrev pub IsBetween : Event → Type 0
IsBetween (Request link host now request) = Unit {0}
IsBetween Take = Unit {0}
IsBetween (Flushed receipt) = ⊥
IsBetween (FlushFailed count) = Unit {0}
IsBetween (Look number turn) = Unit {0}
IsBetween (Dispatch most) = Unit {0}
IsBetween (Deliver now) = Unit {0}
IsBetween (Check now) = Unit {0}
IsBetween (Leave link) = Unit {0}

-- a batch was taken by the step
pub record TakesBatch (e : Event) (what : Option Said) : Type 0 where
  pub batch : Batch
  pub event : e ≡ Take
  pub said_is : what ≡ Some (said.Batch (Some batch))

-- One step was made, and the disk is as it was. A batch is taken so, without being written, only where one that can be taken doesn't
-- begin where the flusher writes.
pub record HasMade {C D : Type 0} (makes : Steps C) (e : Event) (what : Option Said) (change : Change C (Place D)) : Type 0 where
  pub made : makes change.calls e what change.calls_then
  pub between : IsBetween e
  pub apart : TakesBatch e what → TakesFrom makes change.calls change.place.file → ⊥
  pub still : change.place_then ≡ change.place

-- a flush turn wrote its batch and synced it, and the batch is flushed
pub record HasWritten {C D : Type 0} (makes : Steps C) (view : DiskView D) (turn : Turn) (change : Change C (Place D)) : Type 0 where
  pub steps : Makes makes change.calls ((Take, Some (said.Batch (Some turn.batch))) ∷ (Flushed turn.receipt, Some said.Done) ∷ [])
      change.calls_then
  pub is : IsReceiptFor turn.batch turn.receipt
  pub wrote : Writes view.tells (synced_at view change.place) (synced_at view change.place_then) turn.batch (Ok turn.receipt)
  pub ended : turn.moment ≡ (view.state change.place_then.disk).moment
  pub still : view.faults change.place_then.disk ≡ view.faults change.place.disk

-- a flush turn failed, and its batch is pending again
pub record HasMissed {C D : Type 0} (makes : Steps C) (view : DiskView D) (batch : Batch) (count : ℕ)
    (change : Change C (Place D)) : Type 0 where
  pub steps : Makes makes change.calls ((Take, Some (said.Batch (Some batch))) ∷ (FlushFailed count, Some said.Done) ∷ [])
      change.calls_then
  pub wrote : Writes view.tells (synced_at view change.place) (synced_at view change.place_then) batch (Err (record { count = count }))
  pub rises : Rises (view.faults change.place.disk) (view.faults change.place_then.disk)
  pub count_is : count ≡ view.faults change.place_then.disk

-- the act was this
abbrev pub Happens : {C D : Type 0} → Steps C → DiskView D → Act → Change C (Place D) → Type 0
Happens makes view (Made e what) change = HasMade makes e what change
Happens makes view (Wrote turn) change = HasWritten makes view turn change
Happens makes view (Missed batch count) change = HasMissed makes view batch count change

-- nothing happened
pub record IsStill {C P : Type 0} (change : Change C P) : Type 0 where
  pub calls : change.calls_then ≡ change.calls
  pub place : change.place_then ≡ change.place

-- these acts, one after another, lead from the first broker and its disk to the second
abbrev pub Acts : {C D : Type 0} → Steps C → DiskView D → List Act → Change C (Place D) → Type 0
Acts makes view [] change = IsStill change
Acts {C} {D} makes view (act ∷ acts) change = (calls : C) × (place : Place D)
    × Happens makes view act (change_of change.calls change.place calls place)
    × Acts makes view acts (change_of calls place change.calls_then change.place_then)

-- acts of this kind do
pub record Acted {C D : Type 0} (makes : Steps C) (view : DiskView D) (IsKind : List Act → Type 0)
    (change : Change C (Place D)) : Type 0 where
  pub acts : List Act
  pub kind : IsKind acts
  pub happened : Acts makes view acts change

-- a batch was taken by the act, and not written
abbrev pub IsUnwritten : Act → Type 0
IsUnwritten (Made e what) = TakesBatch e what
IsUnwritten (Wrote turn) = ⊥
IsUnwritten (Missed batch count) = ⊥

-- by one of them
abbrev pub HasUnwritten : List Act → Type 0
HasUnwritten [] = ⊥
HasUnwritten (act ∷ acts) = IsUnwritten act ⊎ HasUnwritten acts

-- ---- what acts are for the broker and for the log

-- the steps of an act, each event with what was said to it
abbrev pub steps_in : Act → List (Event × Option Said)
steps_in (Made e what) = (e, what) ∷ []
steps_in (Wrote turn) = (Take, Some (said.Batch (Some turn.batch))) ∷ (Flushed turn.receipt, Some said.Done) ∷ []
steps_in (Missed batch count) = (Take, Some (said.Batch (Some batch))) ∷ (FlushFailed count, Some said.Done) ∷ []

-- the steps of all of them, in order
abbrev pub steps_of : List Act → List (Event × Option Said)
steps_of [] = []
steps_of (act ∷ acts) = steps_in act ++ steps_of acts

-- the flush turns that ended Ok, each with how many records it flushed and its moment
abbrev pub turns_in : Act → List FlushTurn
turns_in (Made e what) = []
turns_in (Wrote turn) = flush_turn turn.receipt.count turn.moment ∷ []
turns_in (Missed batch count) = []

abbrev pub turns_of : List Act → List FlushTurn
turns_of [] = []
turns_of (act ∷ acts) = turns_in act ++ turns_of acts
