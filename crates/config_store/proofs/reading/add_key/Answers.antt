use Rattle.std.proofs.Common.{◌≡◌, ◌<◌, ap, ◌∙◌, arith, length}
use Rattle.std.proofs.lemmas.Result.{on_ok_weaker}
use Rattle.serde_json.specs.Data.{object, no_members}
use Rattle.serde_json.specs.View.{view, members_view}
use Rattle.serde_json.proofs.Views.{view-Object}
use Rattle.config_store.proofs.RowLemmas.{key_ok, key_parts, key_rows, key_empty, no_members_left}
use Rattle.config_store.proofs.reading.add_key.Goals as goal

pub returns-in_default-clause-bad : goal.returns-in_default-clause-bad
returns-in_default-clause-bad c = λ bad more are ok.
    let it = key_ok _ _ more are ok in
    let there = c.read_key.ensures.exact are.topic are.group are.named it.0 it.1 in
    absurd (rw c.in_default.is at there)

pub returns-then-is_empty-clause-bad : goal.returns-then-is_empty-clause-bad
returns-then-is_empty-clause-bad c = λ bad more are ok.
    let none : length c.in-Object.queues.entries ≡ 0 = grind (arith, c.is_empty.ensures, c.if-is_empty.true) in
    let table : view c.args.value.now ≡ object no_members =
    ap view c.in-Object.is ∙ view-Object c.in-Object.queues ∙ ap object (no_members_left c.in-Object.queues.entries none) in
    key_empty _ _ more table are

pub returns-clause-read : goal.returns-clause-read
returns-clause-read c =
    let some : 0 < length c.in-Object.queues.entries = grind (arith, c.is_empty.ensures, c.if-is_empty.false) in
    let table : view c.args.value.now ≡ object (members_view c.in-Object.queues.entries) = ap view c.in-Object.is ∙ view-Object c.in-Object.queues in
    on_ok_weaker c.add_queues.result (λ read. (read.0, read.1, key_rows _ _ _ _ c.in-Object.queues.entries read.0 c.in-Some.ensures.found.0 table some read.2, read.3))
    c.add_queues.ensures.read

pub returns-clause-bad : goal.returns-clause-bad
returns-clause-bad c = λ bad more are ok.
    let table : view c.args.value.now ≡ object (members_view c.in-Object.queues.entries) = ap view c.in-Object.is ∙ view-Object c.in-Object.queues in
    c.add_queues.ensures.bad bad more (key_parts _ _ _ _ c.in-Object.queues.entries more c.in-Some.ensures.found.0 c.in-Some.ensures.found.1 table are ok) ok
