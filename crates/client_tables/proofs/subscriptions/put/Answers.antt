use Rattle.std.proofs.Common.{◌≡◌, ◌∙◌, ◌++◌, ◌∷◌, [], ℕ, ap, rules, List, Option, Some, string_bytes, cond}
use Rattle.std.specs.Str.{bytes_eq}
use Rattle.std.specs.BTreeMap.{get_by_text, is_at}
use Rattle.std.specs.Cmp.Lexicographic.{slice_cmp}
use Rattle.std.specs.Map.{update, lookup}
use Rattle.std.specs.Ordering.{nat_cmp}
use Rattle.std.proofs.lemmas.Map.Text.{btree_map_updates_text}
use Rattle.client_tables.specs.Kept.{said_of, of_group, in_groups, in_topics}
use Rattle.client_tables.specs.declared.heard.Said.{Said}
use Rattle.client_tables.proofs.MapLemmas.{after_none, after_change, on_err, both}
use Rattle.client_tables.proofs.subscriptions.put.Goals as goal

pub returns-in_err-put_in_topics-clause-same : goal.returns-in_err-put_in_topics-clause-same
returns-in_err-put_in_topics-clause-same c =
    let w = c.put_in_topics.new.topics in
    on_err {P = (g t : List ℕ) → in_groups (c.get_mut.follows.lender w) g t ≡ in_groups c.args.groups.now g t} _ (λ g t.
    after_none (of_group t) c.args.groups.now (c.get_mut.follows.lender w) c.args.group.now w
    (btree_map_updates_text c.args.group.now c.args.groups.now (c.get_mut.follows.lender w) (Some w) ((c.get_mut.follows.holds w).3 (search rules)))
    (c.in_err-put_in_topics.ensures.same t ∙ ap (of_group t) c.in-Some.ensures.value) g)

pub returns-in-Some-clause-put : goal.returns-in-Some-clause-put
returns-in-Some-clause-put c = λ g t.
    let w = c.put_in_topics.new.topics in
    let here = bytes_eq c.args.topic.now t in
    let was = in_groups c.args.groups.now g t in
    after_change (of_group t) c.args.groups.now (c.get_mut.follows.lender w) c.args.group.now w (λ (l : List Said). cond here (l ++ c.args.said ∷ []) l)
    (btree_map_updates_text c.args.group.now c.args.groups.now (c.get_mut.follows.lender w) (Some w) ((c.get_mut.follows.holds w).3 (search rules)))
    (c.in_ok-put_in_topics.ensures.put t ∙ ap (λ (o : Option _). cond here (of_group t o ++ c.args.said ∷ []) (of_group t o)) c.in-Some.ensures.value) g
    ∙ both (bytes_eq c.args.group.now g) here (was ++ c.args.said ∷ []) was

pub returns-clause-put : goal.returns-clause-put
returns-clause-put c = λ g t.
    let same = c.get_mut.follows.holds-at-none in
    let w = c.put_in_topics-2.new.topics in
    let here = bytes_eq c.args.topic.now t in
    let was = in_groups c.args.groups.now g t in
    let updates = btree_map_updates_text (string_bytes c.in_ok-name.name) c.get_mut.follows.lender-at-none c.insert.new.self (Some w) c.in_ok-insert.ensures.updates in
    let none : in_topics c.new-topics.result t ≡ [] = ap (λ es. said_of (lookup (is_at (λ k. slice_cmp nat_cmp t (string_bytes k))) es)) c.new-topics.ensures.empty in
    after_change (of_group t) c.args.groups.now c.insert.new.self c.args.group.now w (λ (l : List Said). cond here (l ++ c.args.said ∷ []) l)
    (λ other. updates other ∙ (λ i. update bytes_eq (get_by_text (same i)) (c.in_ok-name.ensures.ok i) (Some w) other))
    (c.in_ok-put_in_topics-2.ensures.put t ∙ ap (λ (l : List Said). cond here (l ++ c.args.said ∷ []) l) none
    ∙ ap (λ (o : Option _). cond here (of_group t o ++ c.args.said ∷ []) (of_group t o)) c.in_default.ensures.value) g
    ∙ both (bytes_eq c.args.group.now g) here (was ++ c.args.said ∷ []) was
