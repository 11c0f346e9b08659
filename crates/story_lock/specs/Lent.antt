-- A turn after a write to its state.
use Rattle.story_lock.specs.declared.story.Turn.{Turn}

-- the turn with another state
abbrev pub with_state : {S E A : Type 0} → Turn S E A → S → Turn S E A
with_state turn state = record turn { state = state }
