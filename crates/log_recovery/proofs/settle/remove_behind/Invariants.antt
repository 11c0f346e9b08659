use Rattle.std.proofs.Common.{◌≡◌, ◌-◌, ◌<◌, ◌≤◌, ℕ, None}
use Rattle.mq_outside.specs.Disk.{EachImage}
use Rattle.log_model.specs.Bases.{whole}
use Rattle.log_model.specs.Segments.{segment_file}
use Rattle.log_recovery.specs.Settle.{Turns, IsPruned}
use Rattle.log_recovery.proofs.settle.remove_behind.Given as goal

abbrev pub invariant-loop-i : goal.invariant-loop-i
invariant-loop-i g l = record {
  turns : g.D.Disk.tells → Turns (IsPruned l.segment l.kept l.top) (g.D.Disk.state l.fn.disk) (g.D.Disk.state l.disk);
  gone : g.D.Disk.tells → EachImage (λ files. (k : ℕ) → l.top - l.i < k → k ≤ l.top → files (segment_file (whole l.segment) k) ≡ None) (g.D.Disk.state l.disk);
  faults : g.D.Disk.faults l.disk ≡ g.D.Disk.faults l.fn.disk;
  syncs : g.D.Disk.syncs l.disk ≡ g.D.Disk.syncs l.fn.disk;
}
