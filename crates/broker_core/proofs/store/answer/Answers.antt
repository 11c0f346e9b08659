use Rattle.core_log.proofs.StoreLemmas.{waits_for}
use Rattle.broker_core.proofs.store.answer.Goals as goal

pub returns-then-waits : goal.returns-then-waits
returns-then-waits c s told are is =
    (told, waits_for c.args.parts.now s c.args.waits told c.args.added c.end.result c.turns.result are c.if-parts.true c.if-waits.true c.requires.added c.end.ensures.value c.turns.ensures, is)
