use Rattle.std.specs.Prelude.{◌≡◌, None}
use Rattle.mq_outside.specs.MemDiskState.{state_of}
use Rattle.segment_files.specs.Turn.{IsInside}
use Rattle.core_log.specs.Shows.{shown_of}
use Rattle.core_tests.proofs.stage.follow.Given as goal

abbrev pub invariant-loop-row : goal.invariant-loop-row
invariant-loop-row g l = record {
  none_out : (shown_of l.stage.alone.core).out ≡ None;
  inside : IsInside l.stage.flusher.file.base l.stage.flusher.file.offset (state_of l.stage.disk);
}
