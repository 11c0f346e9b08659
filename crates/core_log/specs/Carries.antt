-- What a call of the core does, from every state that it represented.
use Rattle.broker_model.specs.State.{State}
use Rattle.broker_model.specs.Events as model
use Rattle.broker_model.specs.Answers.{answer_of}
use Rattle.broker_model.specs.Step.{after}
use Rattle.core_log.specs.declared.parts.Parts.{Parts}
use Rattle.core_log.specs.Represents.{Represents}

-- the parts represent some state
abbrev pub RepresentsSome : Parts → Type 0
RepresentsSome core = (s : State) × Represents core s

-- from each state that the old parts represented the event is answered like this, and the new parts represent the state after it
abbrev pub Carries : Parts → model.Event → (model.Answer → Type 0) → Parts → Type 0
Carries old event P new = (s : State) → Represents old s → P (answer_of s event) × Represents new (after s event)

-- the new parts represent each state that the old ones represented
abbrev pub Stays : Parts → Parts → Type 0
Stays old new = (s : State) → Represents old s → Represents new s
