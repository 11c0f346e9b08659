-- What a pass sees of the core at a look.
use Rattle.std.specs.Prelude.{Option, Some, IfSome}
use Rattle.broker_events.specs.declared.event.Event.{Event}
use Rattle.broker_events.specs.declared.said.Said.{Said}
use Rattle.core_log.specs.declared.parts.Parts.{Parts}
use Rattle.broker_core.specs.Owner.{plain_look}
use Rattle.story_lock.specs.declared.chronicle.Chronicle.{Ghosts}
use Rattle.story_lock.specs.declared.story.Pass.{Pass}
use Rattle.story_lock.specs.Owned.{StepsBy}
use Rattle.story_lock.specs.Passes.{seen_by}
use Rattle.spine.specs.declared.shared.Shared.{Shared}
use Rattle.spine.specs.Stands.{Stands}

module _ {chronicle : Ghosts Shared Event (Option Said)} where
  -- One turn with a plain look for its entry; and the core that is seen stands for just the history that the pass has seen then,
  -- the look with it.
  pub record Sees {C : Type 0} (pass_of : C → Option (Pass Shared Event (Option Said) chronicle)) (start : Shared)
      (x : C) (core : Parts) (y : C) : Type 0 where
    pub what : Said
    pub step : StepsBy pass_of x plain_look (Some what) y
    pub seen : IfSome (pass_of y) (λ p. Stands start.core (seen_by p) core)
