use Rattle.std.proofs.Common.{◌-◌, ◌≡◌, ◌≤◌, ℕ}
use Rattle.mq_outside.specs.Disk.{EachImage, Throughout}
use Rattle.log_model.specs.Bases.{Geometry}
use Rattle.log_model.specs.Segments.{Shape, IsLogFile}
use Rattle.log_model.specs.Store.{Stands}
use Rattle.log_model.specs.Stored.{StaysOutside}
use Rattle.segment_files.specs.Turn.{HasZeros, IsBehind}
use Rattle.segment_files.proofs.zeros.write_zeros.Given as goal

abbrev pub invariant-loop-done : goal.invariant-loop-done
invariant-loop-done g l = record {
  low : l.at ≤ l.done;
  within : l.done ≤ l.to;
  written : g.D.Disk.tells → HasZeros l.name l.at (l.done - l.at) (g.D.Disk.state l.fn.disk) (g.D.Disk.state l.disk);
  any_moment : g.D.Disk.tells → (S : Geometry) (shape : Shape) (reach : ℕ) → IsBehind S shape l.name l.at → l.to ≤ reach
      → EachImage (Stands S shape reach) (g.D.Disk.state l.fn.disk) → Throughout (g.D.Disk.state l.fn.disk) (g.D.Disk.state l.disk) (Stands S shape reach);
  outside : g.D.Disk.tells → IsLogFile l.name → StaysOutside (g.D.Disk.state l.fn.disk) (g.D.Disk.state l.disk);
  faults : g.D.Disk.faults l.disk ≡ g.D.Disk.faults l.fn.disk;
  syncs : g.D.Disk.syncs l.disk ≡ g.D.Disk.syncs l.fn.disk;
}

abbrev pub decreases-loop-done : goal.decreases-loop-done
decreases-loop-done g l = l.to - l.done
