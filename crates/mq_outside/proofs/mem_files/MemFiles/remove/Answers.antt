use Rattle.mq_outside.specs.Named.{content}
use Rattle.mq_outside.specs.MemDisk.{files_of}
use Rattle.mq_outside.proofs.NamedLemmas.{put_none}
use Rattle.mq_outside.proofs.MemFilesLemmas.{absent_content}
use Rattle.mq_outside.proofs.mem_files.MemFiles.remove.Goals as goal

pub returns-else-place-clause-gone : goal.returns-else-place-clause-gone
returns-else-place-clause-gone c other = put_none c.args.name.now (content (files_of c.args.self.now)) (absent_content c.args.self.now.extents.items c.args.self.now.buffer.items c.args.name.now c.place_of-place.result c.args.self.now.filled c.place_of-place.ensures c.if-place.false) other
