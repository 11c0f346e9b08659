use Rattle.std.proofs.Common.{◌≡◌, ◌≤◌}
use Rattle.log_model.specs.Stored.{StaysOutside}
use Rattle.segment_files.specs.Turn.{IsInside}
use Rattle.worker_turns.specs.Acts.{IsFree, Acted, place_of, view_of, change_of}
use Rattle.gen_run.specs.Rounds.{AreItems}
use Rattle.gen_run.proofs.giving.give_items.Given as goal

abbrev pub invariant-loop-item : goal.invariant-loop-item
invariant-loop-item g l = record {
  acted : Acted g.C.Calls.makes (view_of g.D.Disk.tells g.D.Disk.state g.D.Disk.faults g.D.Disk.syncs) (AreItems l.start l.item l.found)
      (change_of l.initial.calls (place_of l.initial.flusher.file l.initial.disk) l.calls (place_of l.flusher.file l.disk));
  few : l.found ≤ l.item;
  free : IsFree (g.C.Calls.has_key l.calls) (g.C.Calls.shown l.calls);
  inside : g.D.Disk.tells → IsInside l.flusher.file.base l.flusher.file.offset (g.D.Disk.state l.disk);
  outside : g.D.Disk.tells → StaysOutside (g.D.Disk.state l.initial.disk) (g.D.Disk.state l.disk);
  faults : g.D.Disk.faults l.disk ≡ g.D.Disk.faults l.initial.disk;
}
