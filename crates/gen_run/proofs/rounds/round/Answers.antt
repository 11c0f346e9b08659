use Rattle.gen_run.proofs.RoundLemmas.{acted_grows, count_rose, round_made}
use Rattle.gen_run.proofs.rounds.round.Goals as goal

pub returns-in_default-clause-cause : goal.returns-in_default-clause-cause
returns-in_default-clause-cause g c = acted_grows _ _ _ _ _ _ _ c.due_turns.ensures.acted

pub returns-then-has_missed-clause-cause : goal.returns-then-has_missed-clause-cause
returns-then-has_missed-clause-cause g c =
    count_rose _ _ _ _ _ _ _ c.fault_count-before.result c.fault_count.result c.due_turns.ensures.acted c.fault_count-before.ensures c.fault_count.ensures c.has_missed.ensures.fits
    (c.has_missed.ensures.missed c.if-has_missed.true)

pub returns-clause-acted : goal.returns-clause-acted
returns-clause-acted g c =
    round_made _ _ c.args.now _ c.due_turns.new.held.items (tt {0}) (tt {0}) _ _ _ _ c.fault_count-before.result c.fault_count.result c.in-Ok.ensures.acted c.fault_count-before.ensures c.fault_count.ensures
    (c.has_missed.ensures.none c.if-has_missed.false)
