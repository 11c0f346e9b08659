use Rattle.core_log.proofs.LoadLemmas.{loads_offset}
use Rattle.core_log.proofs.loaded.Loaded.add_offset.Goals as goal

pub returns : goal.returns
returns c saved records kept is =
    loads_offset saved records kept c.args.self.now c.set_offset.new.self c.args.group.now c.args.topic.now c.args.queue c.args.offset c.end_of-end.result c.min.result c.set_offset.result is c.requires
    (c.end_of-end.ensures saved records kept is) c.min.ensures c.set_offset.ensures.stored c.set_offset.ensures.locks
