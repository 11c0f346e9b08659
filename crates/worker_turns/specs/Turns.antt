-- What a flush turn of a worker is: the steps that it makes, and what its batch did to the disk.
use Rattle.std.specs.Prelude.{◌≡◌, ℕ, [], ◌∷◌, Option, Some, None, Result, Ok, Err, OnOk}
use Rattle.mq_outside.specs.Counts.{Counted, Rises}
use Rattle.log_model.specs.Batches.{IsBatchOf, IsReceiptFor}
use Rattle.log_model.specs.Log.{IsWellFormed}
use Rattle.log_model.specs.Stored.{Stored}
use Rattle.log_model.specs.declared.batch.Batch.{Batch}
use Rattle.log_model.specs.declared.batch.Receipt.{Receipt}
use Rattle.segment_files.specs.Turn.{Growing, CanTurn, HasTurned, IsPlaced, PlacesOn, MovesOn, GoesToPlace, opens_segment, syncs_of}
use Rattle.segment_files.specs.declared.last_file.LastFile.{LastFile}
use Rattle.group_flush.specs.declared.flusher.FlushFault.{FlushFault}
use Rattle.broker_events.specs.Makes.{Makes}
use Rattle.broker_events.specs.declared.event.Event.{Event}
use Rattle.broker_events.specs.declared.event.Event.TheVariants.{Take, Flushed, FlushFailed}
use Rattle.broker_events.specs.declared.said.Said.{Said}
use Rattle.broker_events.specs.declared.said.Said.TheVariants as said
use Rattle.worker_turns.specs.declared.flush.FlushEnd.{FlushEnd}
use Rattle.worker_turns.specs.declared.flush.FlushEnd.TheVariants.{Idle, Done, Failed, Misplaced, Memory}

-- who makes steps: what was before, an event, what was said to it, and what is after
abbrev pub Steps : Type 0 → Type 1
Steps C = C → Event → Option Said → C → Type 0

-- each batch that can be taken now is written from its place on
abbrev pub TakesFrom : {C : Type 0} → Steps C → C → LastFile → Type 0
TakesFrom {C} makes x file = (batch : Batch) (y : C) → makes x Take (Some (said.Batch (Some batch))) y → GoesToPlace file batch

-- a log that is open for batches, and how often its disk was synced
pub record SyncedLog : Type 1 where
  pub log : Growing
  pub syncs : ℕ

abbrev pub synced_log : Growing → ℕ → SyncedLog
synced_log log syncs = record { log = log; syncs = syncs }

-- What the turn of the batch did: to each log that is open on this disk and of which the batch is the next one; and where
-- the next bytes go, whatever the disk tells. An Ok has synced the batch, and the blank before it.
pub record Writes (tells : Type 0) (old new : SyncedLog) (batch : Batch) (result : Result Receipt FlushFault) : Type 0 where
  pub turned : tells → (it : Stored) (behind : ℕ) → CanTurn it behind batch old.log
      → HasTurned it behind batch result old.log new.log
  pub places : (it : Stored) → IsWellFormed it.geometry it.log → IsBatchOf it.geometry it.log it.flushed batch
      → IsPlaced it old.log.file → PlacesOn it batch result new.log.file
  pub moves : MovesOn tells batch result old.log.file new.log.file
  pub synced : OnOk result (Counted (syncs_of (opens_segment old.log.file batch)) old.syncs new.syncs)

-- a turn of some batch that ended Ok: it was taken, written, and is flushed
pub record IsDone {C : Type 0} (makes : Steps C) (writes : Batch → Result Receipt FlushFault → Type 0) (x y : C) : Type 0 where
  pub batch : Batch
  pub receipt : Receipt
  pub steps : Makes makes x ((Take, Some (said.Batch (Some batch))) ∷ (Flushed receipt, Some said.Done) ∷ []) y
  pub is : IsReceiptFor batch receipt
  pub wrote : writes batch (Ok receipt)

-- a turn of some batch that failed, where the disk counts so many faults: it was taken, and is pending again
pub record HasFailed {C : Type 0} (makes : Steps C) (writes : Batch → Result Receipt FlushFault → Type 0)
    (count : ℕ) (x y : C) : Type 0 where
  pub batch : Batch
  pub steps : Makes makes x ((Take, Some (said.Batch (Some batch))) ∷ (FlushFailed count, Some said.Done) ∷ []) y
  pub wrote : writes batch (Err (record { count = count }))

-- a turn of some batch of which nothing was written: it was taken, and is pending again
pub record IsPutBack {C : Type 0} (makes : Steps C) (x y : C) : Type 0 where
  pub batch : Batch
  pub count : ℕ
  pub steps : Makes makes x ((Take, Some (said.Batch (Some batch))) ∷ (FlushFailed count, Some said.Done) ∷ []) y

-- the steps of a turn that ended like this, and what its batch did
abbrev pub HasEnded : {C : Type 0} → Steps C → (Batch → Result Receipt FlushFault → Type 0) → C → FlushEnd → C → Type 0
HasEnded makes writes x Idle y = Makes makes x ((Take, Some (said.Batch None)) ∷ []) y
HasEnded makes writes x Done y = IsDone makes writes x y
HasEnded makes writes x (Failed count) y = HasFailed makes writes count x y
HasEnded makes writes x Misplaced y = IsPutBack makes x y
HasEnded makes writes x Memory y = Makes makes x ((Take, None) ∷ []) y

-- no batch was written
abbrev pub WroteNone : FlushEnd → Type 0
WroteNone Idle = Unit {0}
WroteNone Done = ⊥
WroteNone (Failed count) = ⊥
WroteNone Misplaced = Unit {0}
WroteNone Memory = Unit {0}

-- the disk's count of faults rises exactly in a turn that failed, which tells it
abbrev pub CountsEnd : FlushEnd → ℕ → ℕ → Type 0
CountsEnd Idle old new = new ≡ old
CountsEnd Done old new = new ≡ old
CountsEnd (Failed count) old new = Rises old new × (count ≡ new)
CountsEnd Misplaced old new = new ≡ old
CountsEnd Memory old new = new ≡ old
