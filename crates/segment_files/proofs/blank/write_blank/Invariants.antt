use Rattle.std.proofs.Common.{◌-◌, ◌≡◌, ◌+◌, ◌≤◌, ℕ, length, Some}
use Rattle.mq_outside.specs.Files.{bytes_of, overwritten}
use Rattle.mq_outside.specs.Disk.{EachImage, Throughout}
use Rattle.log_model.specs.Bases.{Geometry}
use Rattle.log_model.specs.Segments.{Shape, blank_of, IsLogFile}
use Rattle.log_model.specs.Store.{Stands}
use Rattle.log_model.specs.Stored.{StaysOutside}
use Rattle.segment_files.specs.Turn.{IsBehind, blank_to}
use Rattle.segment_files.proofs.blank.write_blank.Given as goal

abbrev pub invariant-loop-done : goal.invariant-loop-done
invariant-loop-done g l = record {
  low : 8 ≤ l.done;
  within : l.done - 8 ≤ l.fn.size - 8;
  written : g.D.Disk.tells → (g.D.Disk.state l.disk).reads l.name ≡ Some (overwritten l.at (blank_to l.fn.size l.done) (bytes_of (g.D.Disk.state l.fn.disk).reads l.name));
  fresh : g.D.Disk.tells → (g.D.Disk.state l.disk).fresh l.name l.at l.done;
  any_moment : g.D.Disk.tells → (S : Geometry) (shape : Shape) (reach : ℕ) → IsBehind S shape l.name l.at → l.at + length (blank_of l.fn.size) ≤ reach
      → EachImage (Stands S shape reach) (g.D.Disk.state l.fn.disk) → Throughout (g.D.Disk.state l.fn.disk) (g.D.Disk.state l.disk) (Stands S shape reach);
  outside : g.D.Disk.tells → IsLogFile l.name → StaysOutside (g.D.Disk.state l.fn.disk) (g.D.Disk.state l.disk);
  faults : g.D.Disk.faults l.disk ≡ g.D.Disk.faults l.fn.disk;
  syncs : g.D.Disk.syncs l.disk ≡ g.D.Disk.syncs l.fn.disk;
}

abbrev pub decreases-loop-done : goal.decreases-loop-done
decreases-loop-done g l = l.end - l.done
