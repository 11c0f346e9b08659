-- What the acts of a broker that one caller has alone are for the model, and what they leave of its log.
use Rattle.std.specs.Prelude.{List}
use Rattle.broker_model.specs.State.{State}
use Rattle.broker_core.specs.Makes.{MakesStep}
use Rattle.core_log.specs.Represents.{Represents}
use Rattle.broker_core.specs.declared.alone.Alone.{Alone}
use Rattle.worker_turns.specs.Turns.{Steps}
use Rattle.worker_turns.specs.Acts.{Act, Acts, HasUnwritten, DiskView, Place, growing_at, steps_of, turns_of, change_of}
use Rattle.flush_story.specs.Story.{Reaches}
use Rattle.flush_story.specs.Keeping.{IsOpenFor, IsPlacedFor, Keeps}

-- the steps of a core that one caller has alone
abbrev pub alone : Steps Alone
alone x e what y = MakesStep x.core e what y.core

-- From the state the acts lead to one that the core represents, along their steps. Where the disk tells what it holds, and stored the
-- first state's log with its flushed number, it stores that of the second, and every crash leaves what was flushed by then. Where the
-- next bytes went where the next batch is written, they go there still, whatever the disk tells, and no batch was taken and not written.
pub record LeadsTo {D : Type 0} (view : DiskView D) (acts : List Act) (s : State) (old : Place D) (y : Alone) (new : Place D) : Type 0 where
  pub reached : State
  pub represents : Represents y.core reached
  pub steps : Reaches s (steps_of acts) reached
  pub keeps : view.tells → IsOpenFor s (growing_at view old) → Keeps s reached (turns_of acts) (growing_at view old) (growing_at view new)
  pub places : IsPlacedFor s old.file → IsPlacedFor reached new.file
  pub written : IsPlacedFor s old.file → HasUnwritten acts → ⊥
