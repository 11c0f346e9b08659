-- What happens to a broker and to the disk of its log, one thing after another.
use Rattle.std.specs.Prelude.{◌≡◌, ℕ, ◌++◌, List, [], ◌∷◌, Option, Some, Result, Ok, Err}
use Rattle.log_model.specs.Batches.{IsBatchOf, IsReceiptFor}
use Rattle.log_model.specs.Log.{IsWellFormed}
use Rattle.log_model.specs.Stored.{Stored, FlushTurn, flush_turn}
use Rattle.log_model.specs.declared.batch.Batch.{Batch}
use Rattle.log_model.specs.declared.batch.Receipt.{Receipt}
use Rattle.segment_files.specs.Turn.{Growing, CanTurn, HasTurned, IsPlaced, PlacesOn}
use Rattle.segment_files.specs.declared.last_file.LastFile.{LastFile}
use Rattle.broker_model.specs.State.{State}
use Rattle.broker_model.specs.Events as model
use Rattle.broker_model.specs.Step.{Step}
use Rattle.broker_events.specs.Steps.{event_of, SaysIn}
use Rattle.broker_events.specs.declared.event.Event.{Event}
use Rattle.broker_events.specs.declared.event.Event.TheVariants.{Request, Take, Flushed, FlushFailed, Look, Dispatch, Deliver, Check, Leave}
use Rattle.broker_events.specs.declared.said.Said.{Said}
use Rattle.broker_events.specs.declared.said.Said.TheVariants as said

-- ---- steps of the model

-- the event is a step from one state to another, whose answer is what was said
pub record StepsAs (s : State) (e : Event) (what : Option Said) (t : State) : Type 0 where
  pub answer : Option model.Answer
  pub says : SaysIn what answer
  pub step : Step s (event_of e) answer t

-- such steps, one after another
abbrev pub Reaches : State → List (Event × Option Said) → State → Type 0
Reaches s [] t = t ≡ s
Reaches s (it ∷ steps) t = (mid : State) × StepsAs s it.0 it.1 mid × Reaches mid steps t

-- the event flushes nothing
abbrev pub IsBetween : Event → Type 0
IsBetween (Request link host now request) = Unit {0}
IsBetween Take = Unit {0}
IsBetween (Flushed receipt) = ⊥
IsBetween (FlushFailed count) = Unit {0}
IsBetween (Look number turn) = Unit {0}
IsBetween (Dispatch most) = Unit {0}
IsBetween (Deliver now) = Unit {0}
IsBetween (Check now) = Unit {0}
IsBetween (Leave link) = Unit {0}

-- none of the events does
abbrev pub AreBetween : List (Event × Option Said) → Type 0
AreBetween [] = Unit {0}
AreBetween (it ∷ steps) = IsBetween it.0 × AreBetween steps

-- ---- happenings

-- a flush turn: its batch, and the steps that were made while the batch was out
pub record OutTurn : Type 0 where
  pub batch : Batch
  pub others : List (Event × Option Said)

-- A step that flushes nothing; a flush turn that ended Ok, with its receipt and the disk's moment at its end; and one that failed,
-- where the disk counts so many faults.
pub data Happening : Type 0 where
  Stepped : Event → Option Said → Happening
  Ended : OutTurn → Receipt → (moment : ℕ) → Happening
  Broke : OutTurn → (count : ℕ) → Happening

-- what the turn of a batch did to each log that was open on the disk
abbrev pub TurnsEach : {P : Type 0} → (P → Growing) → Batch → Result Receipt ℕ → P → P → Type 0
TurnsEach at batch result old new = (it : Stored) (behind : ℕ) → CanTurn it behind batch (at old)
    → HasTurned it behind batch result (at old) (at new)

-- and where the next bytes of each log go, whatever the disk tells
abbrev pub PlacesEach : Batch → Result Receipt ℕ → LastFile → LastFile → Type 0
PlacesEach batch result old new =
    (it : Stored) → IsWellFormed it.geometry it.log → IsBatchOf it.geometry it.log it.flushed batch → IsPlaced it old
    → PlacesOn it batch result new

-- a state and a place of the disk, and those that they became
pub record Span (P : Type 0) : Type 0 where
  pub state : State
  pub place : P
  pub state_then : State
  pub place_then : P

abbrev pub span_of : {P : Type 0} → State → P → State → P → Span P
span_of state place state_then place_then = record { state = state; place = place; state_then = state_then; place_then = place_then }

-- the step was made, and the disk is as it was
pub record HasStepped {P : Type 0} (e : Event) (what : Option Said) (span : Span P) : Type 0 where
  pub between : IsBetween e
  pub made : StepsAs span.state e what span.state_then
  pub still : span.place_then ≡ span.place

-- The batch was taken; others made their steps; the batch was written and synced; and then it was flushed.
pub record HasEnded {P : Type 0} (tells : Type 0) (at : P → Growing) (turn : OutTurn) (receipt : Receipt) (moment : ℕ)
    (span : Span P) : Type 0 where
  pub out : State
  pub full : State
  pub taken : StepsAs span.state Take (Some (said.Batch (Some turn.batch))) out
  pub between : AreBetween turn.others
  pub others : Reaches out turn.others full
  pub wrote : tells → TurnsEach at turn.batch (Ok receipt) span.place span.place_then
  pub places : PlacesEach turn.batch (Ok receipt) (at span.place).file (at span.place_then).file
  pub is : IsReceiptFor turn.batch receipt
  pub ended : moment ≡ (at span.place_then).disk.moment
  pub flushed : StepsAs full (Flushed receipt) (Some said.Done) span.state_then

-- The batch was taken; others made their steps; the batch was not written, or not synced; and it is pending again.
pub record HasBroken {P : Type 0} (tells : Type 0) (at : P → Growing) (turn : OutTurn) (count : ℕ) (span : Span P) : Type 0 where
  pub out : State
  pub full : State
  pub taken : StepsAs span.state Take (Some (said.Batch (Some turn.batch))) out
  pub between : AreBetween turn.others
  pub others : Reaches out turn.others full
  pub wrote : tells → TurnsEach at turn.batch (Err count) span.place span.place_then
  pub places : PlacesEach turn.batch (Err count) (at span.place).file (at span.place_then).file
  pub failed : StepsAs full (FlushFailed count) (Some said.Done) span.state_then

-- this happened, on a disk that may tell what it holds
abbrev pub Happens : {P : Type 0} → Type 0 → (P → Growing) → Happening → Span P → Type 0
Happens tells at (Stepped e what) span = HasStepped e what span
Happens tells at (Ended turn receipt moment) span = HasEnded tells at turn receipt moment span
Happens tells at (Broke turn count) span = HasBroken tells at turn count span

-- all of this happened, one after another
abbrev pub Story : {P : Type 0} → Type 0 → (P → Growing) → List Happening → Span P → Type 0
Story tells at [] span = (span.state_then ≡ span.state) × (span.place_then ≡ span.place)
Story {P} tells at (it ∷ story) span = (mid : State) × (place : P)
    × Happens tells at it (span_of span.state span.place mid place)
    × Story tells at story (span_of mid place span.state_then span.place_then)

-- ---- what a story is for the broker and for the log

-- the steps of it, each event with what was said to it
abbrev pub steps_in : Happening → List (Event × Option Said)
steps_in (Stepped e what) = (e, what) ∷ []
steps_in (Ended turn receipt moment) = (Take, Some (said.Batch (Some turn.batch))) ∷ turn.others ++ (Flushed receipt, Some said.Done) ∷ []
steps_in (Broke turn count) = (Take, Some (said.Batch (Some turn.batch))) ∷ turn.others ++ (FlushFailed count, Some said.Done) ∷ []

abbrev pub steps_of : List Happening → List (Event × Option Said)
steps_of [] = []
steps_of (it ∷ story) = steps_in it ++ steps_of story

-- the flush turns that ended Ok, each with how many records it flushed and its moment
abbrev pub turns_in : Happening → List FlushTurn
turns_in (Stepped e what) = []
turns_in (Ended turn receipt moment) = flush_turn receipt.count moment ∷ []
turns_in (Broke turn count) = []

abbrev pub turns_of : List Happening → List FlushTurn
turns_of [] = []
turns_of (it ∷ story) = turns_in it ++ turns_of story
