-- What a look reads: it says something, since it takes no memory.
use Rattle.std.proofs.Common.{Option, Some, None, IfSome}
use Rattle.broker_events.specs.declared.event.Event.{Event}
use Rattle.broker_events.specs.declared.said.Said.{Said}
use Rattle.core_log.specs.declared.parts.Parts.{Parts}
use Rattle.broker_core.specs.Owner.{plain_look}
use Rattle.story_lock.specs.declared.chronicle.Chronicle.{Ghosts}
use Rattle.story_lock.specs.declared.story.Pass.{Pass}
use Rattle.story_lock.specs.Owned.{StepsBy}
use Rattle.story_lock.specs.Passes.{seen_by}
use Rattle.spine.specs.declared.shared.Shared.{Shared}
use Rattle.spine.specs.Entries.{Fits}
use Rattle.spine.specs.Stands.{Stands}
use Rattle.spine.specs.Owner.{Sees}

module _ {chronicle : Ghosts Shared Event (Option Said)} where
  pub sees_by : {C : Type 0} (pass_of : C → Option (Pass Shared Event (Option Said) chronicle)) (start : Shared) (x : C) (core : Parts) (y : C) (what : Option Said)
      → StepsBy pass_of x plain_look what y → Fits plain_look what → IfSome (pass_of y) (λ p. Stands start.core (seen_by p) core) → Sees pass_of start x core y
  sees_by pass_of start x core y None step fits seen = absurd fits
  sees_by pass_of start x core y (Some what) step fits seen = record { what = what; step = step; seen = seen }
