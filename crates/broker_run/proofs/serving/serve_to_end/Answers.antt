use Rattle.log_model.proofs.OutsideLemmas.{outside_then, outside_same}
use Rattle.worker_turns.specs.Acts.{place_of}
use Rattle.broker_run.proofs.ClosingLemmas.{rises_at_last, grows_at_last}
use Rattle.broker_run.proofs.serving.serve_to_end.Goals as goal

pub returns-clause-served : goal.returns-clause-served
returns-clause-served g c = record {
  served = c.serve_source-reading.new.calls;
  mid = place_of c.serve_source-reading.new.flusher.file c.serve_source-reading.new.disk;
  final = place_of c.flush_all-last.new.flusher.file c.flush_all-last.new.disk;
  reads = _;
  piped = c.serve_source-reading.ensures.served;
  flushed = c.flush_all-last.ensures.acted;
  back = c.take_back.ensures.moves;
}

pub returns-clause-cause : goal.returns-clause-cause
returns-clause-cause g c = record {
  reading = c.serve_source-reading.ensures.cause;
  disk_rises = rises_at_last c.flush_all-last.result _ _ _ _ c.serve_source-reading.ensures.grows c.flush_all-last.ensures.cause c.take_back.ensures.faults;
  disk_grows = grows_at_last c.flush_all-last.result _ _ _ _ c.serve_source-reading.ensures.grows c.flush_all-last.ensures.cause c.take_back.ensures.faults;
}

pub returns-clause-outside : goal.returns-clause-outside
returns-clause-outside g c tells =
    outside_same (outside_then (c.serve_source-reading.ensures.outside tells) (c.flush_all-last.ensures.outside tells)) (c.take_back.ensures.moves tells)
