use Rattle.broker_core.proofs.GroupLemmas.{offset_stored, offset_unstored}
use Rattle.broker_core.proofs.consumer_offsets.store_offset.Goals as goal

pub returns-clause-stored : goal.returns-clause-stored
returns-clause-stored c =
    offset_stored c.args.parts.now c.set_offset.new.self c.args.group.now c.args.topic.now c.args.queue c.args.offset c.max_of-end.result c.min.result c.set_offset.result c.max_of-end.ensures c.min.ensures
    c.set_offset.ensures.rows c.set_offset.ensures.locks c.requires.group c.requires.text c.requires.queue

pub returns-clause-stays : goal.returns-clause-stays
returns-clause-stays c = offset_unstored c.args.parts.now c.set_offset.new.self c.set_offset.result c.set_offset.ensures.same c.set_offset.ensures.locks
