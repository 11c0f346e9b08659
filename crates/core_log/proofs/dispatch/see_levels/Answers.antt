use Rattle.std.proofs.Common.{◌≡◌, subst, arith}
use Rattle.level_records.specs.OfLog.{HasLevels}
use Rattle.core_log.proofs.SeenLevelLemmas.{next_seen, get_within}
use Rattle.core_log.proofs.dispatch.see_levels.Goals as goal

pub see_record-requires-clause-there : goal.see_record-requires-clause-there
see_record-requires-clause-there c =
    let some = c.requires.some in
    let kept = c.requires.kept in
    let from = c.loop-number.auto.number in
    let has = c.loop-number.invariant some.0 some.1 some.2 some.3 some.4 some.5 in
    let next = next_seen some.0 some.1 c.args.rows.now c.loop-number.number c.at.result c.args.queues.now c.loop-number.levels some.2 some.3 some.4 (omega (arith, kept, from)) c.at.ensures has in
    get_within c.args.queues.now c.at.result.table next.1.t next.1.there

pub see_record-requires-clause-some : goal.see_record-requires-clause-some
see_record-requires-clause-some c =
    let some = c.requires.some in
    let kept = c.requires.kept in
    let from = c.loop-number.auto.number in
    let has = c.loop-number.invariant some.0 some.1 some.2 some.3 some.4 some.5 in
    let next = next_seen some.0 some.1 c.args.rows.now c.loop-number.number c.at.result c.args.queues.now c.loop-number.levels some.2 some.3 some.4 (omega (arith, kept, from)) c.at.ensures has in
    (some.0, c.loop-number.number, some.1, next.0, next.1)

pub loop-number-preserved : goal.loop-number-preserved
loop-number-preserved c segment log lawful of tabled has =
    let kept = c.requires.kept in
    let from = c.loop-number.auto.number in
    let now = c.loop-number.invariant segment log lawful of tabled has in
    let next = next_seen segment log c.args.rows.now c.loop-number.number c.at.result c.args.queues.now c.loop-number.levels lawful of tabled (omega (arith, kept, from)) c.at.ensures now in
    c.see_record.ensures segment c.loop-number.number log next.0 next.1

pub returns : goal.returns
returns c segment log lawful of tabled has =
    let now = c.loop-number.invariant segment log lawful of tabled has in
    let at_end : c.loop-number.number ≡ c.args.to = omega (arith, c.loop-number-test.false, c.loop-number.auto.number-end c.requires.ordered) in
    subst (λ n. HasLevels log n c.loop-number.levels) at_end now
