use Rattle.std.proofs.Common.{◌==◌, sym, rules, Some}
use Rattle.std.proofs.lemmas.Map.Text.{hash_map_updates_text}
use Rattle.group_tables.specs.Table.{in_queues}
use Rattle.group_tables.proofs.TableLemmas.{after_and}
use Rattle.group_tables.proofs.table.change_in_topics.Goals as goal

pub returns-in-Some : goal.returns-in-Some
returns-in-Some g c =
    after_and in_queues c.args.topics.now (c.get_mut.follows.lender c.change_in_queues.new.queues) c.args.topic.now (Some c.in-Some.queues.now) c.change_in_queues.new.queues (λ at. c.args.queue == at) c.args.value
    (hash_map_updates_text c.args.topic.now c.args.topics.now (c.get_mut.follows.lender c.change_in_queues.new.queues) (Some c.change_in_queues.new.queues) ((c.get_mut.follows.holds c.change_in_queues.new.queues).3 (search rules)))
    (sym c.in-Some.ensures.value) c.change_in_queues.ensures
