-- What an owner sees of the core: one step, a look for no record in particular, and the core as it is then.
use Rattle.std.specs.Prelude.{◌≡◌, Some}
use Rattle.broker_events.specs.declared.event.Event.{Event}
use Rattle.broker_events.specs.declared.event.Event.TheVariants.{Look}
use Rattle.broker_events.specs.declared.said.Said.{Said}
use Rattle.core_log.specs.declared.parts.Parts.{Parts}
use Rattle.broker_core.specs.Makes.{MakesStep}

-- the event of a look for no record in particular
abbrev pub plain_look : Event
plain_look = Look 0 0

-- who has the core alone makes that one step, and sees the core after it
pub record SeesAlone (old core new : Parts) : Type 0 where
  pub what : Said
  pub step : MakesStep old plain_look (Some what) new
  pub seen : core ≡ new
