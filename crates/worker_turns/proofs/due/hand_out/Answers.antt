use Rattle.std.proofs.Common.{Global, Vec}
use Rattle.reply_fields.specs.declared.ask.Ask.{Ask}
use Rattle.worker_turns.proofs.DueLemmas.{looks_acted}
use Rattle.worker_turns.proofs.due.hand_out.Goals as goal

pub returns-in-Ok-clause-acted : goal.returns-in-Ok-clause-acted
returns-in-Ok-clause-acted g c =
    looks_acted _ _ (λ (asks : Vec Ask Global). asks.items) c.ripe_asks.new.out _ _ _ _ _ _ c.new-ripe.ensures.items c.in-Ok.ensures.looked
