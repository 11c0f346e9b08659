use Rattle.worker_turns.specs.Acts.{place_of}
use Rattle.worker_turns.proofs.ActLemmas.{turn_acted}
use Rattle.worker_turns.proofs.turning.turn.Goals as goal

pub returns-clause-acted : goal.returns-clause-acted
returns-clause-acted g c =
    turn_acted _ _ c.flush_turn.result _ _ _ _ c.flush_turn.ensures.ended
    (λ none. let rests = c.flush_turn.ensures.rests none in λ i. place_of ((rests.0 i).file) (rests.1 i))
    c.flush_turn.ensures.placed c.flush_turn.ensures.cause
