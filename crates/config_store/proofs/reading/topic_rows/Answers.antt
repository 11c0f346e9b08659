use Rattle.std.proofs.Common.{◌≡◌, Err, [], All, refl, sym, subst, rules}
use Rattle.serde_json.specs.Data.{Members, no_members, member}
use Rattle.serde_json.specs.View.{view, members_view}
use Rattle.config_store.specs.declared.text_fault.TextFault.TheVariants.{Bad}
use Rattle.config_store.specs.Texts.{IsKeptTopic}
use Rattle.config_store.specs.Reads.{AreTopicRows}
use Rattle.config_store.proofs.RowLemmas.{Adds, adds_none, adds_all, topic_more, topic_bad}
use Rattle.config_store.proofs.reading.topic_rows.Goals as goal

pub loop-name-init : goal.loop-name-init
loop-name-init c =
    let all : members_view c.args.table.now.entries ≡ members_view c.into_iter-name-iterator.result = search rules in
    rw c.new-rows.ensures.items (subst (λ (ms : Members). Adds AreTopicRows IsKeptTopic (members_view c.args.table.now.entries) ms [] [])
    all (adds_none AreTopicRows IsKeptTopic (members_view c.args.table.now.entries) []))

pub loop-name-preserved : goal.loop-name-preserved
loop-name-preserved c =
    let step : members_view c.loop-name.name-iterator ≡ member c.as_str.result.now (view c.in-Some.value.now) (members_view c.next.new.self) = search rules in
    topic_more _ _ _ _ _ _ _ _ (subst (λ (ms : Members). Adds AreTopicRows IsKeptTopic (members_view c.args.table.now.entries) ms [] c.loop-name.rows.items) step c.loop-name.invariant) c.in_ok-push.ensures.items c.in_ok-topic_row.ensures.read

pub returns-in_err-topic_row-clause-bad : goal.returns-in_err-topic_row-clause-bad
returns-in_err-topic_row-clause-bad c = λ bad.
    let step : members_view c.loop-name.name-iterator ≡ member c.as_str.result.now (view c.in-Some.value.now) (members_view c.next.new.self) = search rules in
    let same : c.topic_row.result ≡ Err Bad = search (rules, bad) in
    topic_bad _ _ _ _ _ _ (subst (λ (ms : Members). Adds AreTopicRows IsKeptTopic (members_view c.args.table.now.entries) ms [] c.loop-name.rows.items) step c.loop-name.invariant) (c.topic_row.ensures.bad same)

pub returns-clause-read : goal.returns-clause-read
returns-clause-read c =
    let none : members_view c.loop-name.name-iterator ≡ no_members = search rules in
    let all = adds_all AreTopicRows IsKeptTopic (members_view c.args.table.now.entries) [] c.loop-name.rows.items refl
    (subst (λ (ms : Members). Adds AreTopicRows IsKeptTopic (members_view c.args.table.now.entries) ms [] c.loop-name.rows.items) none c.loop-name.invariant) in
    (subst (AreTopicRows (members_view c.args.table.now.entries)) (sym all.1) all.2, subst (All IsKeptTopic) (sym all.1) all.3)
