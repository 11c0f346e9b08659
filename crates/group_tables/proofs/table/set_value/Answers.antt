use Rattle.std.proofs.Common.{◌≡◌, ◌∙◌, ◌==◌, ◌&&◌, sym, rules, List, ℕ, Some, string_bytes, cond}
use Rattle.std.specs.Str.{bytes_eq}
use Rattle.std.specs.Option.{option_and_then}
use Rattle.std.specs.HashMap.{get_by_text}
use Rattle.std.specs.Map.{update, lookup}
use Rattle.std.proofs.lemmas.Map.Text.{hash_map_updates_text}
use Rattle.group_tables.specs.Table.{in_queues, in_topics, in_groups}
use Rattle.group_tables.proofs.TableLemmas.{after_none, after_set, on_err}
use Rattle.group_tables.proofs.table.set_value.Goals as goal

pub returns-in_err-set_in_topics-clause-same : goal.returns-in_err-set_in_topics-clause-same
returns-in_err-set_in_topics-clause-same g c =
    on_err {P = (group topic : List ℕ) (queue : ℕ) → in_groups (c.get_mut.follows.lender c.set_in_topics.new.topics) group topic queue ≡ in_groups c.args.groups.now group topic queue} _ (λ group topic queue.
    after_none (λ topics (k : List ℕ × ℕ). in_topics topics k.0 k.1) c.args.groups.now (c.get_mut.follows.lender c.set_in_topics.new.topics) c.args.group.now (Some c.in-Some.topics.now) c.set_in_topics.new.topics
    (hash_map_updates_text c.args.group.now c.args.groups.now (c.get_mut.follows.lender c.set_in_topics.new.topics) (Some c.set_in_topics.new.topics) ((c.get_mut.follows.holds c.set_in_topics.new.topics).3 (search rules)))
    (sym c.in-Some.ensures.value) (λ k. c.in_err-set_in_topics.ensures.same k.0 k.1) group (topic, queue))

pub returns-in-Some-clause-set : goal.returns-in-Some-clause-set
returns-in-Some-clause-set g c = λ group topic queue.
    after_set (λ topics (k : List ℕ × ℕ). in_topics topics k.0 k.1) c.args.groups.now (c.get_mut.follows.lender c.set_in_topics.new.topics) c.args.group.now (Some c.in-Some.topics.now) c.set_in_topics.new.topics
    (λ k. bytes_eq c.args.topic.now k.0 && (c.args.queue == k.1)) (Some c.args.value)
    (hash_map_updates_text c.args.group.now c.args.groups.now (c.get_mut.follows.lender c.set_in_topics.new.topics) (Some c.set_in_topics.new.topics) ((c.get_mut.follows.holds c.set_in_topics.new.topics).3 (search rules)))
    (sym c.in-Some.ensures.value) (λ k. c.in_ok-set_in_topics.ensures.set k.0 k.1) group (topic, queue)

pub returns-clause-set : goal.returns-clause-set
returns-clause-set g c = λ group topic queue.
    let same = c.get_mut.follows.holds-at-none in
    let updates = hash_map_updates_text (string_bytes c.in_ok-name.name) c.get_mut.follows.lender-at-none c.insert.new.self (Some c.set_in_topics-2.new.topics) c.in_ok-insert.ensures.updates in
    after_set (λ topics (k : List ℕ × ℕ). in_topics topics k.0 k.1) c.args.groups.now c.insert.new.self c.args.group.now _ c.set_in_topics-2.new.topics
    (λ k. bytes_eq c.args.topic.now k.0 && (c.args.queue == k.1)) (Some c.args.value)
    (λ other. updates other ∙ (λ i. update bytes_eq (get_by_text (same i)) (c.in_ok-name.ensures.ok i) (Some c.set_in_topics-2.new.topics) other))
    (sym c.in_default.ensures.value)
    (λ k. c.in_ok-set_in_topics-2.ensures.set k.0 k.1
    ∙ (λ i. cond (bytes_eq c.args.topic.now k.0 && (c.args.queue == k.1)) (Some c.args.value) (option_and_then (λ queues. in_queues queues k.1) (lookup (λ name. bytes_eq k.0 (string_bytes name)) (c.new-topics.ensures.empty i)))))
    group (topic, queue)
