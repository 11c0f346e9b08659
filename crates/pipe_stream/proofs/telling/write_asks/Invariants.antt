use Rattle.std.proofs.Common.{◌≡◌, ◌++◌, take}
use Rattle.pipe_stream.specs.Telling.{asks_bytes, count_after}
use Rattle.pipe_stream.proofs.telling.write_asks.Given as goal

abbrev pub invariant-loop-ask : goal.invariant-loop-ask
invariant-loop-ask g l = record {
  written : g.K.Sink.tells → g.K.Sink.taken l.sink ≡ g.K.Sink.taken l.initial.sink ++ asks_bytes l.initial.asked (take l.ask-index l.asks);
  counted : l.asked ≡ count_after l.initial.asked (take l.ask-index l.asks);
  faults : g.K.Sink.faults l.sink ≡ g.K.Sink.faults l.initial.sink;
}
