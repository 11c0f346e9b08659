use Rattle.group_flush.proofs.flusher.Flusher.turn.Goals as goal

pub returns-in-Ok-clause-turned : goal.returns-in-Ok-clause-turned
returns-in-Ok-clause-turned g c tells it behind can =
    let turned = c.in-Ok.ensures.turned tells it behind can in
    record { any_moment = turned.any_moment; fault = tt; flushed = turned.flushed; exact = turned.exact; ahead = turned.ahead }

pub returns-in-Err-clause-turned : goal.returns-in-Err-clause-turned
returns-in-Err-clause-turned g c tells it behind can =
    let turned = c.in-Err.ensures.turned tells it behind can in
    record { any_moment = turned.any_moment; fault = turned.fault; flushed = tt; exact = λ none low. tt; ahead = turned.ahead }
