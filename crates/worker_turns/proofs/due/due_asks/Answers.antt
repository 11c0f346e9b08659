use Rattle.std.proofs.Common.{Global, Vec}
use Rattle.reply_fields.specs.declared.ask.Ask.{Ask}
use Rattle.worker_turns.proofs.DueLemmas.{asks_acted}
use Rattle.worker_turns.proofs.due.due_asks.Goals as goal

pub returns-in-Ok-clause-acted : goal.returns-in-Ok-clause-acted
returns-in-Ok-clause-acted g c =
    asks_acted _ _ c.args.now (λ (asks : Vec Ask Global). asks.items) c.hand_out.result _ _ _ _ _ _ _ c.new-held.ensures.items c.in-Ok.ensures.acted c.hand_out.ensures.acted
