use Rattle.pipe_stream.proofs.DueLemmas.{next_wrote, next_counted, next_took}
use Rattle.std.proofs.Common.{◌∙◌}
use Rattle.pipe_stream.proofs.telling.write_asks.Goals as goal

pub returns-in-Err-clause-written : goal.returns-in-Err-clause-written
returns-in-Err-clause-written g c tells =
    next_took _ _ _ c.loop-ask.ask-index c.ask-item.result c.loop-ask-test.true c.ask-item.is c.loop-ask.invariant.counted _ _ _ (c.loop-ask.invariant.written tells) (c.in-Err.ensures.written tells)

pub loop-ask-preserved : goal.loop-ask-preserved
loop-ask-preserved g c = record {
  written = λ tells. next_wrote _ _ _ c.loop-ask.ask-index c.ask-item.result c.loop-ask-test.true c.ask-item.is c.loop-ask.invariant.counted _ _ _ (c.loop-ask.invariant.written tells) (c.in-Ok.ensures.written tells);
  counted = next_counted _ _ _ c.loop-ask.ask-index c.ask-item.result c.loop-ask-test.true c.ask-item.is c.loop-ask.invariant.counted _ c.next_count.ensures;
  faults = c.in-Ok.ensures.cause ∙ c.loop-ask.invariant.faults;
}
