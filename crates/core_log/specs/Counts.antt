-- How many records a state has.
use Rattle.std.specs.Prelude.{◌≡◌}
use Rattle.log_model.specs.Numbered.{count_of}
use Rattle.broker_model.specs.State.{State}
use Rattle.core_log.specs.declared.counts.Counts.{Counts}

-- the counts are those of the state's records: all, the flushed ones, and those that consumers see
pub record AreCountsOf (s : State) (counts : Counts) : Type 0 where
  pub records : counts.records ≡ count_of s.log
  pub flushed : counts.flushed ≡ s.flushed
  pub dispatched : counts.dispatched ≡ s.dispatched
