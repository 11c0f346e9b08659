use Rattle.std.proofs.Common.{◌≡◌, Err, refl, subst, rules}
use Rattle.serde_json.specs.Data.{Members, no_members, member}
use Rattle.serde_json.specs.View.{view, members_view}
use Rattle.config_store.specs.declared.text_fault.TextFault.TheVariants.{Bad}
use Rattle.config_store.specs.Texts.{IsOffset}
use Rattle.config_store.specs.Reads.{AreQueueRows}
use Rattle.config_store.proofs.RowLemmas.{Adds, adds_none, adds_all, queue_more, queue_bad}
use Rattle.config_store.proofs.reading.add_queues.Goals as goal

pub loop-name-init : goal.loop-name-init
loop-name-init c =
    let all : members_view c.args.queues.now.entries ≡ members_view c.into_iter-name-iterator.result = search rules in
    subst (λ (ms : Members). Adds (AreQueueRows c.args.topic.now c.args.group.now) IsOffset (members_view c.args.queues.now.entries) ms c.args.rows.now.items c.args.rows.now.items)
    all (adds_none (AreQueueRows c.args.topic.now c.args.group.now) IsOffset (members_view c.args.queues.now.entries) c.args.rows.now.items)

pub loop-name-preserved : goal.loop-name-preserved
loop-name-preserved c =
    let step : members_view c.loop-name.name-iterator ≡ member c.as_str.result.now (view c.in-Some.value.now) (members_view c.next.new.self) = search rules in
    queue_more _ _ _ _ _ _ _ _ _ _
    (subst (λ (ms : Members). Adds (AreQueueRows c.args.topic.now c.args.group.now) IsOffset (members_view c.args.queues.now.entries) ms c.args.rows.now.items c.loop-name.rows.items)
    step c.loop-name.invariant) c.in_ok-push.ensures.items c.in_ok-offset_row.ensures.read

pub returns-in_err-offset_row-clause-bad : goal.returns-in_err-offset_row-clause-bad
returns-in_err-offset_row-clause-bad c = λ bad.
    let step : members_view c.loop-name.name-iterator ≡ member c.as_str.result.now (view c.in-Some.value.now) (members_view c.next.new.self) = search rules in
    let same : c.offset_row.result ≡ Err Bad = search (rules, bad) in
    queue_bad _ _ _ _ _ _ _ _
    (subst (λ (ms : Members). Adds (AreQueueRows c.args.topic.now c.args.group.now) IsOffset (members_view c.args.queues.now.entries) ms c.args.rows.now.items c.loop-name.rows.items)
    step c.loop-name.invariant) (c.offset_row.ensures.bad same)

pub returns-clause-read : goal.returns-clause-read
returns-clause-read c =
    let none : members_view c.loop-name.name-iterator ≡ no_members = search rules in
    adds_all (AreQueueRows c.args.topic.now c.args.group.now) IsOffset (members_view c.args.queues.now.entries) c.args.rows.now.items c.loop-name.rows.items refl
    (subst (λ (ms : Members). Adds (AreQueueRows c.args.topic.now c.args.group.now) IsOffset (members_view c.args.queues.now.entries) ms c.args.rows.now.items c.loop-name.rows.items)
    none c.loop-name.invariant)
