use Rattle.std.proofs.Common.{◌==◌, ◌&&◌, sym, rules, List, ℕ, Some}
use Rattle.std.specs.Str.{bytes_eq}
use Rattle.std.proofs.lemmas.Map.Text.{hash_map_updates_text}
use Rattle.group_tables.specs.Table.{in_topics}
use Rattle.group_tables.proofs.TableLemmas.{after_and}
use Rattle.group_tables.proofs.table.change_value.Goals as goal

pub returns-in-Some : goal.returns-in-Some
returns-in-Some g c = λ group topic queue.
    after_and (λ topics (k : List ℕ × ℕ). in_topics topics k.0 k.1) c.args.groups.now (c.get_mut.follows.lender c.change_in_topics.new.topics) c.args.group.now (Some c.in-Some.topics.now) c.change_in_topics.new.topics (λ k. bytes_eq c.args.topic.now k.0 && (c.args.queue == k.1)) c.args.value
    (hash_map_updates_text c.args.group.now c.args.groups.now (c.get_mut.follows.lender c.change_in_topics.new.topics) (Some c.change_in_topics.new.topics) ((c.get_mut.follows.holds c.change_in_topics.new.topics).3 (search rules)))
    (sym c.in-Some.ensures.value) (λ k. c.change_in_topics.ensures k.0 k.1) group (topic, queue)
