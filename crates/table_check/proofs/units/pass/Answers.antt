use Rattle.std.proofs.Common.{refl}
use Rattle.key_view.specs.Entries.{key_entries}
use Rattle.table_check.proofs.KeyLemmas.{keys_passed, keys_differ}
use Rattle.table_check.proofs.units.pass.Goals as goal

pub returns-then-not-pass_unit-clause-differs : goal.returns-then-not-pass_unit-clause-differs
returns-then-not-pass_unit-clause-differs c = λ log records more passed no parts are.
    c.pass_unit.ensures.differs log records more passed.queues c.if-not-pass_unit.true parts are.queues

pub returns-in-Some-clause-passed : goal.returns-in-Some-clause-passed
returns-in-Some-clause-passed c = λ records passed yes.
    let keys = keys_passed c.args.tables.now.keys.now.entries records c.args.view.now c.args.keys.now c.in-Some.end c.offset.result c.store.result c.of_view.result
    c.of_view.ensures c.offset.ensures.value c.store.ensures.value passed.count c.in-Some.ensures.count (c.in-Some.ensures.stand (key_entries records) passed.count passed.front) in
    record {
      queues = c.pass_unit.ensures.passed records passed.queues c.if-not-pass_unit.false;
      count = keys.0;
      front = keys.1;
    }

pub returns-in-None-clause-differs : goal.returns-in-None-clause-differs
returns-in-None-clause-differs c = λ log records more passed no parts are.
    c.in-None.ensures.differ refl (key_entries records) passed.count
    (keys_differ c.args.tables.now.keys.now.entries log.records records more c.args.view.now c.offset.result c.store.result c.of_view.result
    c.of_view.ensures c.offset.ensures.value c.store.ensures.value parts are.keys)
