use Rattle.std.proofs.Common.{◌≡◌, ◌≤◌, ◌-◌, ◌^◌, Ok, None}
use Rattle.remoting_frame.specs.Frames.{next_of}
use Rattle.log_model.specs.Stored.{StaysOutside}
use Rattle.segment_files.specs.Turn.{IsInside}
use Rattle.worker_turns.specs.Acts.{IsFree, place_of, view_of, change_of}
use Rattle.pipe_stream.specs.Serving.{sides_of, point_at}
use Rattle.pipe_stream.specs.Piping.{SoFar, Gave}
use Rattle.pipe_stream.proofs.pipe.serve_stream.Given as goal

abbrev pub invariant-loop-total : goal.invariant-loop-total
invariant-loop-total g l = record {
  served : SoFar (sides_of g.C.Calls.makes g.R.Reader.gives (view_of g.D.Disk.tells g.D.Disk.state g.D.Disk.faults g.D.Disk.syncs) g.K.Sink.tells g.T.Clock.tells) l.total l.talk.cutter
      (Gave g.S.Source.tells (g.S.Source.given l.initial.source) (g.S.Source.given l.source))
      (change_of l.initial.calls (point_at (place_of l.initial.flusher.file l.initial.disk)
      (g.R.Reader.faults l.initial.reader) (g.K.Sink.taken l.initial.sink) (g.T.Clock.readings l.initial.clock) l.initial.asked)
      l.calls (point_at (place_of l.flusher.file l.disk)
      (g.R.Reader.faults l.reader) (g.K.Sink.taken l.sink) (g.T.Clock.readings l.clock) l.asked));
  waits : next_of l.talk.cutter.at l.talk.cutter.bytes ≡ Ok None;
  within : l.total ≤ 2 ^ 62;
  free : IsFree (g.C.Calls.has_key l.calls) (g.C.Calls.shown l.calls);
  inside : g.D.Disk.tells → IsInside l.flusher.file.base l.flusher.file.offset (g.D.Disk.state l.disk);
  source : g.S.Source.faults l.source ≡ g.S.Source.faults l.initial.source;
  sink : g.K.Sink.faults l.sink ≡ g.K.Sink.faults l.initial.sink;
  clock : g.T.Clock.faults l.clock ≡ g.T.Clock.faults l.initial.clock;
  outside : g.D.Disk.tells → StaysOutside (g.D.Disk.state l.initial.disk) (g.D.Disk.state l.disk);
}

abbrev pub decreases-loop-total : goal.decreases-loop-total
decreases-loop-total g l = 2 ^ 62 - l.total
