-- What one step of the core is, from every state that it represented.
use Rattle.std.specs.Prelude.{◌≡◌, Option}
use Rattle.broker_model.specs.State.{State}
use Rattle.broker_model.specs.Events as model
use Rattle.broker_model.specs.Step.{Step}
use Rattle.broker_events.specs.declared.event.Event.{Event}
use Rattle.broker_events.specs.declared.said.Said.{Said}
use Rattle.broker_events.specs.Shown.{moved}
use Rattle.broker_events.specs.Steps.{event_of, SaysIn}
use Rattle.core_log.specs.Shows.{shown_of}
use Rattle.core_log.specs.declared.parts.Parts.{Parts}
use Rattle.core_log.specs.Represents.{Represents}

-- the event is a step from the state, whose answer is what was said, to a state that the parts represent
pub record Makes (s : State) (e : Event) (what : Option Said) (new : Parts) : Type 0 where
  pub answer : Option model.Answer
  pub says : SaysIn what answer
  pub reached : State
  pub step : Step s (event_of e) answer reached
  pub represents : Represents new reached

-- from each state that the old parts represented the event is such a step, and what is shown moves by it
pub record MakesStep (old : Parts) (e : Event) (what : Option Said) (new : Parts) : Type 0 where
  pub step : (s : State) → Represents old s → Makes s e what new
  pub shown : shown_of new ≡ moved (shown_of old) e what
