use Rattle.std.proofs.Common.{◌≡◌, ◌*◌, ◌^◌, ◌≤◌, Option}
use Rattle.mq_bytes.specs.Names.{log_file}
use Rattle.mq_outside.specs.Files.{Files, bytes_of}
use Rattle.mq_outside.specs.Disk.{Rests}
use Rattle.log_model.specs.Bases.{Base, geometry}
use Rattle.log_recovery.specs.Scan.{Shows, Reading, Onward, Stood, Scanned, HandsOn}
use Rattle.log_recovery.specs.Visits.{WasHanded}
use Rattle.log_recovery.proofs.scan.scan_file.Given as goal

abbrev pub invariant-loop-i : goal.invariant-loop-i
invariant-loop-i g l = record {
  from : l.scan.window.from ≤ l.at;
  low : l.at ≤ l._i * 2 ^ 32;
  far : l._i ≤ l.at;
  shows : g.D.Disk.tells → Shows l.scan.window (bytes_of (g.D.Disk.state l.fn.disk).reads (log_file l.base));
  scanned : g.D.Disk.tells → (begun : Base) (since : Option g.row.V.Denot) (files : Files) (read : Reading) → (g.D.Disk.state l.fn.disk).reads ≡ files → Stood (geometry l.segment begun) files read l.fn.scan.tail l.base 0
      → Scanned (geometry l.segment begun) files l.scan.tail l.base (Onward (WasHanded g.V.Visit begun since l.fn.each) (WasHanded g.V.Visit begun since l.each) read.records) l.at;
  handed : (begun : Base) (since : Option g.row.V.Denot) → HandsOn (geometry l.segment begun) l.fn.scan.tail (WasHanded g.V.Visit begun since l.fn.each) → HandsOn (geometry l.segment begun) l.scan.tail (WasHanded g.V.Visit begun since l.each);
  rests : g.D.Disk.tells → Rests (g.D.Disk.state l.fn.disk) (g.D.Disk.state l.disk);
  faults : g.D.Disk.faults l.disk ≡ g.D.Disk.faults l.fn.disk;
  syncs : g.D.Disk.syncs l.disk ≡ g.D.Disk.syncs l.fn.disk;
}
