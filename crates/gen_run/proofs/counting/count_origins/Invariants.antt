use Rattle.std.proofs.Common.{ℕ, ◌≤◌}
use Rattle.log_model.specs.Bases.{geometry}
use Rattle.log_model.specs.Log.{IsWellFormed}
use Rattle.log_model.specs.Numbered.{Log}
use Rattle.half_view.specs.OfLog.{AreHalvesOf}
use Rattle.gen_run.specs.Sums.{CountsOrigins}
use Rattle.gen_run.proofs.counting.count_origins.Given as goal

abbrev pub invariant-loop-half : goal.invariant-loop-half
invariant-loop-half l = record {
  counts : (segment : ℕ) (log : Log) → IsWellFormed (geometry segment log.base) log.records → AreHalvesOf log l.halves
      → CountsOrigins log.records l.state l.half l.count;
  few : l.count ≤ l.half;
}
