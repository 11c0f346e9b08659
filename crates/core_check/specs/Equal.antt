-- A core that has what a log says.
use Rattle.std.specs.Prelude.{◌≡◌}
use Rattle.log_model.specs.Numbered.{Log}
use Rattle.key_view.specs.Entries.{key_entries}
use Rattle.half_view.specs.OfLog.{AreHalvesOf}
use Rattle.table_check.specs.Equal.{AreQueuesOf, AreSeen, HaveProgressOf}
use Rattle.core_log.specs.declared.parts.Parts.{Parts}

-- its tables have what the log says, and consumers see all of it
pub record HasAllOf (log : Log) (core : Parts) : Type 0 where
  pub queues : AreQueuesOf log core.queues
  pub seen : AreSeen core.queues
  pub keys : core.keys.entries ≡ key_entries log.records
  pub halves : AreHalvesOf log core.halves.view
  pub levels : HaveProgressOf log core.levels.view
