use Rattle.log_model.specs.Queues.{said_by}
use Rattle.record_codec.proofs.Records.{said}
use Rattle.log_model.proofs.queues.unit_of.Goals as goal

pub tag_code-requires : goal.tag_code-requires
tag_code-requires c = (said (said_by c.args.r.now) c.requires.layout.entry).store
