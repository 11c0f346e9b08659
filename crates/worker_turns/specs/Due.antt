-- What is due at a reading of the clock: deliveries and checks, flush turns behind them, and the asks whose records these flushed.
use Rattle.std.specs.Prelude.{◌≡◌, ℕ, ◌++◌, List, map, Option, Result, Ok, Err}
use Rattle.std.specs.declared.alloc.AllocError.{AllocError}
use Rattle.reply_fields.specs.Parts.{AskParts}
use Rattle.broker_events.specs.declared.event.Event.{Event}
use Rattle.broker_events.specs.declared.said.Said.{Said}
use Rattle.worker_turns.specs.Acts.{Act, Made}
use Rattle.worker_turns.specs.Turning.{AreTurnsAndDispatch, BrokeBy}
use Rattle.worker_turns.specs.Delays.{AreDeliveries}
use Rattle.worker_turns.specs.Checks.{AreChecks, Looked, held_as, look, ripe_of}
use Rattle.worker_turns.specs.declared.broken.Broken.{Broken}

-- the acts of these steps
abbrev pub acts_of_steps : List (Event × Option Said) → List Act
acts_of_steps = map (λ step. Made step.0 step.1)

-- the acts of a delay turn, unless memory ran out
abbrev pub AreDelayActs : ℕ → Result ℕ AllocError → List Act → Type 0
AreDelayActs now result acts = (steps : List (Event × Option Said)) × AreDeliveries now result steps × (acts ≡ acts_of_steps steps)

-- the acts of a check turn, behind which its asks are held too
pub record AreCheckActs (now : ℕ) (held : List (ℕ × AskParts)) (result : Result ℕ AllocError) (held_then : List (ℕ × AskParts))
    (acts : List Act) : Type 0 where
  pub steps : List (Event × Option Said)
  pub asked : List (ℕ × AskParts)
  pub are : AreChecks now asked result steps
  pub holds : held_then ≡ held ++ asked
  pub acts_are : acts ≡ acts_of_steps steps

-- What was due at this reading was delivered, and origins that were due were checked, with these asks; then came flush turns until
-- nothing was pending or one failed; and then consumers see what is flushed.
pub record AreDueTurns (now : ℕ) (asked : List (ℕ × AskParts)) (acts : List Act) : Type 0 where
  pub delivered_count : ℕ
  pub checked_count : ℕ
  pub delays : List Act
  pub checks : List (Event × Option Said)
  pub turns : List Act
  pub delivered : AreDelayActs now (Ok delivered_count) delays
  pub checked : AreChecks now asked (Ok checked_count) checks
  pub turned : AreTurnsAndDispatch turns
  pub are_all : acts ≡ delays ++ (acts_of_steps checks ++ turns)

-- the same with asks held behind those that were
abbrev pub HoldsDue : ℕ → List (ℕ × AskParts) → List (ℕ × AskParts) → List Act → Type 0
HoldsDue now held held_then acts = (asked : List (ℕ × AskParts)) × (held_then ≡ held ++ asked) × AreDueTurns now asked acts

-- unless they broke off
abbrev pub DueTurns : {A : Type 0} → ℕ → List (ℕ × AskParts) → Result A Broken → List (ℕ × AskParts) → List Act → Type 0
DueTurns now held (Ok done) held_then acts = HoldsDue now held held_then acts
DueTurns now held (Err fault) held_then acts = BrokeBy fault acts

-- one look was made for each of these asks, and those whose records are flushed were handed out, unless memory ran out
abbrev pub LooksFor : {A : Type 0} → List (ℕ × AskParts) → Result A Broken → (A → List AskParts) → List Act → Type 0
LooksFor held (Ok asks) items acts = (looks : List Looked) × (held ≡ map held_as looks) × (items asks ≡ ripe_of looks)
    × (acts ≡ acts_of_steps (map look looks))
LooksFor held (Err fault) items acts = BrokeBy fault acts

-- behind what is due one look was made for each ask, and these are the asks whose records are flushed
pub record AreDueAsks (now : ℕ) (asks : List AskParts) (acts : List Act) : Type 0 where
  pub looks : List Looked
  pub due : List Act
  pub turned : AreDueTurns now (map held_as looks) due
  pub ripe : asks ≡ ripe_of looks
  pub are_all : acts ≡ due ++ acts_of_steps (map look looks)

-- the same, unless they broke off
abbrev pub DueAsks : {A : Type 0} → ℕ → Result A Broken → (A → List AskParts) → List Act → Type 0
DueAsks now (Ok asks) items acts = AreDueAsks now (items asks) acts
DueAsks now (Err fault) items acts = BrokeBy fault acts
