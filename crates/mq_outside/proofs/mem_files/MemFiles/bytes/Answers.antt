use Rattle.std.proofs.Common.{sym}
use Rattle.mq_outside.proofs.MemFilesLemmas.{absent_content}
use Rattle.mq_outside.proofs.mem_files.MemFiles.bytes.Goals as goal

pub returns-else-place : goal.returns-else-place
returns-else-place c = sym (absent_content c.args.self.now.extents.items c.args.self.now.buffer.items c.args.name.now c.place_of-place.result c.args.self.now.filled c.place_of-place.ensures c.if-place.false)
