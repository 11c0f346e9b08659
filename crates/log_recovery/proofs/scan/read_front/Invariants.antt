use Rattle.std.proofs.Common.{◌≡◌, [], Option}
use Rattle.mq_outside.specs.Files.{Files}
use Rattle.mq_outside.specs.Disk.{Rests}
use Rattle.log_recovery.specs.Names.{AreNamed}
use Rattle.log_recovery.specs.Scan.{StandsIn, Onward, Opened, HandsOn}
use Rattle.log_recovery.specs.Visits.{WasHanded}
use Rattle.log_recovery.proofs.scan.read_front.Given as goal
use Rattle.log_model.specs.Bases.{geometry}
use Rattle.log_model.specs.Told.{base_of}

abbrev pub invariant-loop-i : goal.invariant-loop-i
invariant-loop-i g l = record {
  opened : g.D.Disk.tells → (since : Option g.row.V.Denot) (files : Files) → (g.D.Disk.state l.fn.disk).reads ≡ files → StandsIn (geometry l.segment (base_of l.base)) l.fn.scan.tail [] → AreNamed (geometry l.segment (base_of l.base)) l.count files
      → Opened (geometry l.segment (base_of l.base)) files l.i l.scan.tail (Onward (WasHanded g.V.Visit (base_of l.base) since l.fn.each) (WasHanded g.V.Visit (base_of l.base) since l.each) []);
  handed : (since : Option g.row.V.Denot) → HandsOn (geometry l.segment (base_of l.base)) l.fn.scan.tail (WasHanded g.V.Visit (base_of l.base) since l.fn.each) → HandsOn (geometry l.segment (base_of l.base)) l.scan.tail (WasHanded g.V.Visit (base_of l.base) since l.each);
  rests : g.D.Disk.tells → Rests (g.D.Disk.state l.fn.disk) (g.D.Disk.state l.disk);
  faults : g.D.Disk.faults l.disk ≡ g.D.Disk.faults l.fn.disk;
  syncs : g.D.Disk.syncs l.disk ≡ g.D.Disk.syncs l.fn.disk;
}
