use Rattle.std.proofs.Common.{◌≡◌, Err, [], All, refl, sym, subst, rules}
use Rattle.serde_json.specs.Data.{Members, no_members, member}
use Rattle.serde_json.specs.View.{view, members_view}
use Rattle.config_store.specs.declared.text_fault.TextFault.TheVariants.{Bad}
use Rattle.config_store.specs.Texts.{IsOffset}
use Rattle.config_store.specs.Reads.{AreTableRows}
use Rattle.config_store.proofs.RowLemmas.{Adds, adds_none, adds_all, key_more, key_bad}
use Rattle.config_store.proofs.reading.table_rows.Goals as goal

pub loop-name-init : goal.loop-name-init
loop-name-init c =
    let all : members_view c.args.table.now.entries ≡ members_view c.into_iter-name-iterator.result = search rules in
    rw c.new-rows.ensures.items (subst (λ (ms : Members). Adds AreTableRows IsOffset (members_view c.args.table.now.entries) ms [] [])
    all (adds_none AreTableRows IsOffset (members_view c.args.table.now.entries) []))

pub loop-name-preserved : goal.loop-name-preserved
loop-name-preserved c =
    let step : members_view c.loop-name.name-iterator ≡ member c.as_str.result.now (view c.in-Some.value.now) (members_view c.next.new.self) = search rules in
    key_more _ _ _ _ _ _ _ (subst (λ (ms : Members). Adds AreTableRows IsOffset (members_view c.args.table.now.entries) ms [] c.loop-name.rows.items) step c.loop-name.invariant) c.in_ok-add_key.ensures.read

pub returns-in_err-add_key-clause-bad : goal.returns-in_err-add_key-clause-bad
returns-in_err-add_key-clause-bad c = λ bad.
    let step : members_view c.loop-name.name-iterator ≡ member c.as_str.result.now (view c.in-Some.value.now) (members_view c.next.new.self) = search rules in
    let same : c.add_key.result ≡ Err Bad = search (rules, bad) in
    key_bad _ _ _ _ _ _ (subst (λ (ms : Members). Adds AreTableRows IsOffset (members_view c.args.table.now.entries) ms [] c.loop-name.rows.items) step c.loop-name.invariant) (c.add_key.ensures.bad same)

pub returns-clause-read : goal.returns-clause-read
returns-clause-read c =
    let none : members_view c.loop-name.name-iterator ≡ no_members = search rules in
    let all = adds_all AreTableRows IsOffset (members_view c.args.table.now.entries) [] c.loop-name.rows.items refl
    (subst (λ (ms : Members). Adds AreTableRows IsOffset (members_view c.args.table.now.entries) ms [] c.loop-name.rows.items) none c.loop-name.invariant) in
    (subst (AreTableRows (members_view c.args.table.now.entries)) (sym all.1) all.2, subst (All IsOffset) (sym all.1) all.3)
