-- What a core stands for: a run of steps along the history, from each state that the core at the opening represented.
use Rattle.std.specs.Prelude.{◌≡◌, List, [], ◌∷◌, Option}
use Rattle.broker_model.specs.State.{State}
use Rattle.broker_model.specs.Events as model
use Rattle.broker_model.specs.Step.{Step}
use Rattle.broker_events.specs.declared.event.Event.{Event}
use Rattle.broker_events.specs.declared.said.Said.{Said}
use Rattle.broker_events.specs.Steps.{event_of, SaysIn}
use Rattle.broker_events.specs.Shown.{Shown, moved}
use Rattle.core_log.specs.declared.parts.Parts.{Parts}
use Rattle.core_log.specs.Represents.{Represents}
use Rattle.core_log.specs.Shows.{shown_of}
use Rattle.story_lock.specs.declared.chronicle.Chronicle.{Ghosts}
use Rattle.story_lock.specs.declared.story.Story.{Story}
use Rattle.story_lock.specs.declared.story.Pass.{Pass}
use Rattle.story_lock.specs.Passes.{Finds}
use Rattle.spine.specs.declared.shared.Shared.{Shared}

-- an entry is a step from one state to another, whose answer is what was said
pub record StepsAlong (s : State) (event : Event) (what : Option Said) (t : State) : Type 0 where
  pub answer : Option model.Answer
  pub says : SaysIn what answer
  pub step : Step s (event_of event) answer t

-- the entries are steps, one after another, that lead from one state to another
abbrev pub Along : State → List (Event × Option Said) → State → Type 0
Along s [] t = s ≡ t
Along s (e ∷ es) t = (next : State) × StepsAlong s e.0 e.1 next × Along next es t

-- what is shown after these entries
abbrev pub shown_after : Shown → List (Event × Option Said) → Shown
shown_after shown [] = shown
shown_after shown (e ∷ es) = shown_after (moved shown e.0 e.1) es

-- From each state that the first core represented the history is a run to a state that the second one represents; and it shows
-- what the second one shows.
pub record Stands (start : Parts) (history : List (Event × Option Said)) (now : Parts) : Type 0 where
  pub runs : (s : State) → Represents start s → (t : State) × Along s history t × Represents now t
  pub shown : shown_of now ≡ shown_after (shown_of start) history

-- what a pass finds when the core is out: the one history, for which the core stands
abbrev pub StandsFor : {chronicle : Ghosts Shared Event (Option Said)} → Story Shared Event (Option Said)
    → Pass Shared Event (Option Said) chronicle
    → List (Event × Option Said) → Parts → Type 0
StandsFor story pass history core = Finds story pass history (record { core = core })
