use Rattle.worker_turns.specs.Acts.{place_of}
use Rattle.worker_turns.proofs.TurningLemmas.{turns_dispatched}
use Rattle.worker_turns.proofs.turning.flush_and_dispatch.Goals as goal

pub returns-in-Ok-clause-acted : goal.returns-in-Ok-clause-acted
returns-in-Ok-clause-acted g c =
    turns_dispatched _ _ _ _ _ _ _ (place_of c.flush_all.new.flusher.file c.flush_all.new.disk) c.in-Ok._failed c.in-Ok.ensures.acted c.dispatch.ensures.acted
