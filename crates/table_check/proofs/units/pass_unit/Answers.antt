use Rattle.std.proofs.Common.{◌≡◌, ◌∙◌, sym, ap, arith, ℕ, Some}
use Rattle.std.proofs.lemmas.Option.{slice_get_within}
use Rattle.record_codec.specs.declared.unit.Unit.{Unit as QueueUnit}
use Rattle.queue_view.specs.Tables.{number_of}
use Rattle.queue_view.specs.declared.stored.StoredUnit.{StoredUnit}
use Rattle.table_check.proofs.QueueLemmas.{number_as, table_found, unit_there, units_passed, lost_differs, unit_differs}
use Rattle.table_check.proofs.units.pass_unit.Goals as goal

stored : (unit unit_is : QueueUnit) (store store_is : ℕ) → unit ≡ unit_is → store ≡ store_is
    → let a : StoredUnit = record { unit = unit; store = store } in let b : StoredUnit = record { unit = unit_is; store = store_is } in a ≡ b
stored unit unit_is store store_is same_unit same_store =
    ap (λ (u : QueueUnit). let a : StoredUnit = record { unit = u; store = store } in a) same_unit
    ∙ ap (λ (s : ℕ). let a : StoredUnit = record { unit = unit_is; store = s } in a) same_store

pub returns-in_default-clause-differs : goal.returns-in_default-clause-differs
returns-in_default-clause-differs c log records more have is_false parts are =
    let r = c.args.view.now in
    let tables = c.args.queues.now in
    lost_differs log records more r tables
    (sym (number_as tables c.topic.result.now r.topic c.queue.result r.queue c.topic.ensures c.queue.ensures) ∙ sym c.find.ensures ∙ c.in_default.is) parts are

pub returns-then-not-is_at-clause-differs : goal.returns-then-not-is_at-clause-differs
returns-then-not-is_at-clause-differs c log records more have is_false parts are =
    let r = c.args.view.now in
    let tables = c.args.queues.now in
    let k = c.in-Some.table in
    let told : number_of tables r.topic r.queue ≡ Some k =
    sym (number_as tables c.topic.result.now r.topic c.queue.result r.queue c.topic.ensures c.queue.ensures) ∙ sym c.find.ensures ∙ c.in-Some.is in
    let found = table_found tables r.topic r.queue k told in
    let within = slice_get_within tables k found.table found.at in
    let all = have.all in
    let there = unit_there c.args.units.now.items k c.index-index.result.now (omega (arith, within, all)) c.index-index.ensures in
    unit_differs log records more r tables c.args.units.now.items k c.index-index.result.now have told there
    (λ t at is.
    let yes = (c.is_at.ensures t at).1 (is ∙ ap Some (sym (stored c.unit_of.result _ c.store.result _ c.unit_of.ensures c.store.ensures.value))) in
    cc (yes, c.if-not-is_at.true))
    parts are

pub overflow_add-index : goal.overflow_add-index
overflow_add-index c =
    let r = c.args.view.now in
    let tables = c.args.queues.now in
    let told : number_of tables r.topic r.queue ≡ Some c.in-Some.table =
    sym (number_as tables c.topic.result.now r.topic c.queue.result r.queue c.topic.ensures c.queue.ensures) ∙ sym c.find.ensures ∙ c.in-Some.is in
    let found = table_found tables r.topic r.queue c.in-Some.table told in
    let t = found.table in
    let within = slice_get_within t.units c.index-index.result.now _ ((c.is_at.ensures t found.at).0 c.if-not-is_at.false) in
    let end = c.added-end.ensures.table t found.at in
    let small = c.added-end.type_inv in
    omega (arith, within, end, small)

pub returns-clause-passed : goal.returns-clause-passed
returns-clause-passed c records have is_true =
    let r = c.args.view.now in
    let tables = c.args.queues.now in
    let k = c.in-Some.table in
    let told : number_of tables r.topic r.queue ≡ Some k =
    sym (number_as tables c.topic.result.now r.topic c.queue.result r.queue c.topic.ensures c.queue.ensures) ∙ sym c.find.ensures ∙ c.in-Some.is in
    let found = table_found tables r.topic r.queue k told in
    let within = slice_get_within tables k found.table found.at in
    let all = have.all in
    let there = unit_there c.args.units.now.items k c.index-index.result.now (omega (arith, within, all)) c.index-index.ensures in
    units_passed records r tables c.args.units.now.items k c.index-index.result.now have told there
    (λ t at. (c.is_at.ensures t at).0 c.if-not-is_at.false ∙ ap Some (stored c.unit_of.result _ c.store.result _ c.unit_of.ensures c.store.ensures.value))
