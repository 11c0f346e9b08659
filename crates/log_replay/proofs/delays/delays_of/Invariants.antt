use Rattle.std.proofs.Common.{◌≡◌, ℕ, ◌+◌, ◌<◌, length, get_or}
use Rattle.log_model.specs.Delays.{progress}
use Rattle.log_replay.specs.Told.{log_of}
use Rattle.log_replay.proofs.delays.delays_of.Given as goal

abbrev pub invariant-loop-i : goal.invariant-loop-i
invariant-loop-i l = record {
  all : (k : ℕ) → k < l.i → get_or l.delays k 0 ≡ progress (log_of l.base l.log) (k + 1);
  wide : length l.delays ≡ 18;
}
