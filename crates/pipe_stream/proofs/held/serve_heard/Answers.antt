use Rattle.std.proofs.Common.{[], ◌∷◌, refl}
use Rattle.pipe_stream.specs.declared.stop.Stop.TheVariants as stops
use Rattle.pipe_stream.proofs.HeldLemmas.{counts_stop}
use Rattle.pipe_stream.proofs.ServingLemmas.{broke_idle, one_served}
use Rattle.pipe_stream.proofs.held.serve_heard.Goals as goal

pub returns-in_default-clause-served : goal.returns-in_default-clause-served
returns-in_default-clause-served g c = λ frame is asks. broke_idle _ stops.Clock (frame ∷ []) _ _ _ _ _ _ _ refl c.in_default.ensures.still

pub returns-clause-served : goal.returns-clause-served
returns-clause-served g c = λ frame is asks.
    one_served _ (Unit {0}) frame c.in-Ok.now _ _ _ _ _ _ _ _ _ _ _ _ c.serve_at.result asks c.in-Ok.ensures.given (c.serve_at.ensures.served frame is)

pub returns-clause-cause : goal.returns-clause-cause
returns-clause-cause g c = counts_stop c.serve_at.result _ _ _ _ c.serve_at.ensures.cause c.in-Ok.ensures.cause
