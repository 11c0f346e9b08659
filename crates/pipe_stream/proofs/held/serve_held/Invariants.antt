use Rattle.std.proofs.Common.{◌≡◌, length}
use Rattle.log_model.specs.Stored.{StaysOutside}
use Rattle.segment_files.specs.Turn.{IsInside}
use Rattle.worker_turns.specs.Acts.{IsFree, place_of, view_of, change_of}
use Rattle.pipe_stream.specs.Serving.{sides_of, point_at}
use Rattle.pipe_stream.specs.Piping.{ServedHeld}
use Rattle.pipe_stream.proofs.held.serve_held.Given as goal

abbrev pub invariant-loop-halt : goal.invariant-loop-halt
invariant-loop-halt g l = record {
  served : ServedHeld (sides_of g.C.Calls.makes g.R.Reader.gives (view_of g.D.Disk.tells g.D.Disk.state g.D.Disk.faults g.D.Disk.syncs) g.K.Sink.tells g.T.Clock.tells) l.initial.talk.cutter l.talk.cutter
      (change_of l.initial.calls (point_at (place_of l.initial.flusher.file l.initial.disk)
      (g.R.Reader.faults l.initial.reader) (g.K.Sink.taken l.initial.sink) (g.T.Clock.readings l.initial.clock) l.initial.asked)
      l.calls (point_at (place_of l.flusher.file l.disk)
      (g.R.Reader.faults l.reader) (g.K.Sink.taken l.sink) (g.T.Clock.readings l.clock) l.asked));
  free : IsFree (g.C.Calls.has_key l.calls) (g.C.Calls.shown l.calls);
  inside : g.D.Disk.tells → IsInside l.flusher.file.base l.flusher.file.offset (g.D.Disk.state l.disk);
  sink : g.K.Sink.faults l.sink ≡ g.K.Sink.faults l.initial.sink;
  clock : g.T.Clock.faults l.clock ≡ g.T.Clock.faults l.initial.clock;
  outside : g.D.Disk.tells → StaysOutside (g.D.Disk.state l.initial.disk) (g.D.Disk.state l.disk);
}

abbrev pub decreases-loop-halt : goal.decreases-loop-halt
decreases-loop-halt g l = length l.talk.cutter.bytes
