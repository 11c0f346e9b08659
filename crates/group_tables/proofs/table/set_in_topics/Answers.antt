use Rattle.std.proofs.Common.{◌∙◌, ◌==◌, sym, rules, Some, string_bytes, cond, nat_eq}
use Rattle.std.specs.Str.{bytes_eq}
use Rattle.std.specs.HashMap.{get_by_text}
use Rattle.std.specs.Map.{update, lookup}
use Rattle.std.proofs.lemmas.Map.Text.{hash_map_updates_text}
use Rattle.group_tables.specs.Table.{in_queues}
use Rattle.group_tables.proofs.TableLemmas.{after_none, after_set, on_err}
use Rattle.group_tables.proofs.table.set_in_topics.Goals as goal

pub returns-in_err-set_in_queues-clause-same : goal.returns-in_err-set_in_queues-clause-same
returns-in_err-set_in_queues-clause-same g c =
    on_err _ (after_none in_queues c.args.topics.now (c.get_mut.follows.lender c.set_in_queues.new.queues) c.args.topic.now (Some c.in-Some.queues.now) c.set_in_queues.new.queues
    (hash_map_updates_text c.args.topic.now c.args.topics.now (c.get_mut.follows.lender c.set_in_queues.new.queues) (Some c.set_in_queues.new.queues) ((c.get_mut.follows.holds c.set_in_queues.new.queues).3 (search rules)))
    (sym c.in-Some.ensures.value) c.in_err-set_in_queues.ensures.same)

pub returns-in-Some-clause-set : goal.returns-in-Some-clause-set
returns-in-Some-clause-set g c =
    after_set in_queues c.args.topics.now (c.get_mut.follows.lender c.set_in_queues.new.queues) c.args.topic.now (Some c.in-Some.queues.now) c.set_in_queues.new.queues (λ at. c.args.queue == at) (Some c.args.value)
    (hash_map_updates_text c.args.topic.now c.args.topics.now (c.get_mut.follows.lender c.set_in_queues.new.queues) (Some c.set_in_queues.new.queues) ((c.get_mut.follows.holds c.set_in_queues.new.queues).3 (search rules)))
    (sym c.in-Some.ensures.value) c.in_ok-set_in_queues.ensures.set

pub returns-clause-set : goal.returns-clause-set
returns-clause-set g c =
    let same = c.get_mut.follows.holds-at-none in
    let updates = hash_map_updates_text (string_bytes c.in_ok-name.name) c.get_mut.follows.lender-at-none c.insert.new.self (Some c.set_in_queues-2.new.queues) c.in_ok-insert.ensures.updates in
    after_set in_queues c.args.topics.now c.insert.new.self c.args.topic.now _ c.set_in_queues-2.new.queues (λ at. c.args.queue == at) (Some c.args.value)
    (λ other. updates other ∙ (λ i. update bytes_eq (get_by_text (same i)) (c.in_ok-name.ensures.ok i) (Some c.set_in_queues-2.new.queues) other))
    (sym c.in_default.ensures.value)
    (λ at. c.in_ok-set_in_queues-2.ensures.set at ∙ (λ i. cond (c.args.queue == at) (Some c.args.value) (lookup (nat_eq at) (c.new-queues.ensures.empty i))))
