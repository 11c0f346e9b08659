-- The disk's count of faults over a run.
use Rattle.std.proofs.Common.{◌≡◌, ℕ, ◌≤◌, Option, Some, None, Result, Ok, Err, arith}
use Rattle.mq_outside.specs.Counts.{Rises}
use Rattle.worker_turns.specs.Turning.{CountsAll}
use Rattle.broker_run.specs.Closing.{IsFailed}

-- it rises where the last flush turn failed
pub rises_at_last : {E : Type 0} (last : Result (Option ℕ) E) (disk mid then closed : ℕ) → disk ≤ mid → CountsAll last mid then → closed ≡ then → IsFailed last → Rises disk closed
rises_at_last (Ok None) disk mid then closed grows counts same failed = absurd failed
rises_at_last (Ok (Some count)) disk mid then closed grows counts same failed =
    (omega (arith, grows, counts.0.0, same), omega (arith, grows, counts.0.1, same))
rises_at_last (Err fault) disk mid then closed grows counts same failed = absurd failed

-- and never falls
pub grows_at_last : {E : Type 0} (last : Result (Option ℕ) E) (disk mid then closed : ℕ) → disk ≤ mid → CountsAll last mid then → closed ≡ then → disk ≤ closed
grows_at_last (Ok None) disk mid then closed grows counts same = omega (arith, grows, counts, same)
grows_at_last (Ok (Some count)) disk mid then closed grows counts same = omega (arith, grows, counts.0.0, same)
grows_at_last (Err fault) disk mid then closed grows counts same = omega (arith, grows, counts, same)
