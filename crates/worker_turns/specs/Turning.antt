-- Flush turns, one after another, and what consumers see behind them.
use Rattle.std.specs.Prelude.{◌≡◌, ℕ, ◌^◌, ◌-◌, ◌++◌, List, [], ◌∷◌, map, Option, Some, None, Result, Ok, Err}
use Rattle.mq_outside.specs.Counts.{Rises}
use Rattle.log_model.specs.declared.batch.Batch.{Batch}
use Rattle.broker_events.specs.declared.event.Event.TheVariants.{Take, Dispatch}
use Rattle.broker_events.specs.declared.said.Said.TheVariants as said
use Rattle.worker_turns.specs.declared.flush.FlushEnd.{FlushEnd}
use Rattle.worker_turns.specs.declared.flush.FlushEnd.TheVariants.{Idle, Done, Failed, Misplaced, Memory}
use Rattle.worker_turns.specs.Turns.{Steps}
use Rattle.worker_turns.specs.Acts.{Turn, Act, Made, Wrote, Missed, HasUnwritten}
use Rattle.worker_turns.specs.declared.broken.Broken.{Broken}
use Rattle.worker_turns.specs.declared.broken.Broken.TheVariants as broken

-- nothing was pending
abbrev pub idle : Act
idle = Made Take (Some (said.Batch None))

-- the acts of one flush turn, by how it ended
abbrev pub IsTurn : FlushEnd → List Act → Type 0
IsTurn Idle acts = acts ≡ idle ∷ []
IsTurn Done acts = (turn : Turn) × (acts ≡ Wrote turn ∷ [])
IsTurn (Failed count) acts = (batch : Batch) × (acts ≡ Missed batch count ∷ [])
IsTurn Misplaced acts = HasUnwritten acts
IsTurn Memory acts = Unit {0}

-- what the acts have where this broke them off: a batch that was taken and not written, where one was misplaced
abbrev pub BrokeBy : Broken → List Act → Type 0
BrokeBy broken.Misplaced acts = HasUnwritten acts
BrokeBy broken.Memory acts = Unit {0}

-- the last turn found nothing pending, or failed, where the disk counts so many faults
abbrev pub IsLastTurn : Option ℕ → Act → Type 0
IsLastTurn None act = act ≡ idle
IsLastTurn (Some count) act = (batch : Batch) × (act ≡ Missed batch count)

-- turns that ended Ok
abbrev pub AreOk : List Act → Type 0
AreOk acts = (turns : List Turn) × (acts ≡ map Wrote turns)

-- turns that ended Ok, and the last one
pub record AreTurns (failed : Option ℕ) (acts : List Act) : Type 0 where
  pub turns : List Turn
  pub last : Act
  pub ends : IsLastTurn failed last
  pub are : acts ≡ map Wrote turns ++ last ∷ []

-- turns until nothing is pending or one failed, unless they broke off
abbrev pub AreAllTurns : Result (Option ℕ) Broken → List Act → Type 0
AreAllTurns (Ok failed) acts = AreTurns failed acts
AreAllTurns (Err fault) acts = BrokeBy fault acts

-- how many records more consumers see at most by one dispatch
abbrev pub most_seen : ℕ
most_seen = 2 ^ 32 - 1

-- turns until nothing is pending or one failed, and then consumers see what is flushed
pub record AreTurnsAndDispatch (acts : List Act) : Type 0 where
  pub failed : Option ℕ
  pub turns : List Act
  pub number : ℕ
  pub ended : AreTurns failed turns
  pub are_all : acts ≡ turns ++ Made (Dispatch most_seen) (Some (said.Moved number)) ∷ []

-- the same, unless they broke off
abbrev pub AllTurnsDispatched : {A : Type 0} → Result A Broken → List Act → Type 0
AllTurnsDispatched (Ok done) acts = AreTurnsAndDispatch acts
AllTurnsDispatched (Err fault) acts = BrokeBy fault acts

-- one dispatch was made
abbrev pub IsDispatch : {C : Type 0} → Steps C → C → C → Type 0
IsDispatch makes x y = (number : ℕ) × makes x (Dispatch most_seen) (Some (said.Moved number)) y

-- where the last turn failed the disk's count rose and is told
abbrev pub CountsAll : {E : Type 0} → Result (Option ℕ) E → ℕ → ℕ → Type 0
CountsAll (Ok None) old new = new ≡ old
CountsAll (Ok (Some count)) old new = Rises old new × (count ≡ new)
CountsAll (Err fault) old new = new ≡ old
