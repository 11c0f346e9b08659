use Rattle.std.proofs.Common.{◌∙◌, ◌++◌, ◌∷◌, [], ap, rules, List, Option, Some, string_bytes}
use Rattle.std.specs.Str.{bytes_eq}
use Rattle.std.specs.BTreeMap.{get_by_text}
use Rattle.std.specs.Map.{update}
use Rattle.std.proofs.lemmas.Map.Text.{btree_map_updates_text}
use Rattle.client_tables.specs.Kept.{said_of}
use Rattle.client_tables.specs.declared.heard.Heard.{Heard}
use Rattle.client_tables.specs.declared.heard.Said.{Said}
use Rattle.client_tables.proofs.MapLemmas.{after_none, after_change, on_err}
use Rattle.client_tables.proofs.subscriptions.put_in_topics.Goals as goal

pub returns-in_err-put-clause-same : goal.returns-in_err-put-clause-same
returns-in_err-put-clause-same c =
    let w = c.put.new.self in
    on_err _ (after_none said_of c.args.topics.now (c.get_mut.follows.lender w) c.args.topic.now w
    (btree_map_updates_text c.args.topic.now c.args.topics.now (c.get_mut.follows.lender w) (Some w) ((c.get_mut.follows.holds w).3 (search rules)))
    (c.in_err-put.ensures.same ∙ ap said_of c.in-Some.ensures.value))

pub returns-in-Some-clause-put : goal.returns-in-Some-clause-put
returns-in-Some-clause-put c =
    let w = c.put.new.self in
    after_change said_of c.args.topics.now (c.get_mut.follows.lender w) c.args.topic.now w (λ (l : List Said). l ++ c.args.said ∷ [])
    (btree_map_updates_text c.args.topic.now c.args.topics.now (c.get_mut.follows.lender w) (Some w) ((c.get_mut.follows.holds w).3 (search rules)))
    (c.in_ok-put.ensures.put ∙ ap (λ (o : Option Heard). said_of o ++ c.args.said ∷ []) c.in-Some.ensures.value)

pub returns-clause-put : goal.returns-clause-put
returns-clause-put c =
    let same = c.get_mut.follows.holds-at-none in
    let w = c.put-2.new.self in
    let updates = btree_map_updates_text (string_bytes c.in_ok-name.name) c.get_mut.follows.lender-at-none c.insert.new.self (Some w) c.in_ok-insert.ensures.updates in
    after_change said_of c.args.topics.now c.insert.new.self c.args.topic.now w (λ (l : List Said). l ++ c.args.said ∷ [])
    (λ other. updates other ∙ (λ i. update bytes_eq (get_by_text (same i)) (c.in_ok-name.ensures.ok i) (Some w) other))
    (c.in_ok-put-2.ensures.put ∙ ap (λ (l : List Said). l ++ c.args.said ∷ []) c.new-heard.ensures ∙ ap (λ (o : Option Heard). said_of o ++ c.args.said ∷ []) c.in_default.ensures.value)
