use Rattle.std.proofs.Common.{◌≡◌, ◌+◌, ◌*◌, ◌≤◌}
use Rattle.mq_outside.specs.Disk.{Rests}
use Rattle.mq_outside.specs.Files.{Files}
use Rattle.log_opening.specs.Freezes.{ArePieces}
use Rattle.log_opening.proofs.freezing.add_whole.Given as goal

abbrev pub invariant-loop-i : goal.invariant-loop-i
invariant-loop-i g l = record {
  pieces : (files : Files) → (g.D.Disk.tells → (g.D.Disk.state l.fn.disk).reads ≡ files) → ArePieces g.D.Disk.tells l.segment 0 files l.fn.stored → ArePieces g.D.Disk.tells l.segment (l.i * l.segment) files l.stored;
  end : l.stored.end ≤ l.i * l.segment;
  rests : g.D.Disk.tells → Rests (g.D.Disk.state l.fn.disk) (g.D.Disk.state l.disk);
  faults : g.D.Disk.faults l.disk ≡ g.D.Disk.faults l.fn.disk;
  syncs : g.D.Disk.syncs l.disk ≤ g.D.Disk.syncs l.fn.disk + l.i;
}
