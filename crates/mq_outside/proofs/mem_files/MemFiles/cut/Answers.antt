use Rattle.std.proofs.Common.{◌∙◌, ap, sym, ℕ, List, take, Option}
use Rattle.std.specs.Option.{option_map}
use Rattle.mq_outside.specs.Calls.{put_file}
use Rattle.mq_outside.specs.Named.{content}
use Rattle.mq_outside.specs.MemDisk.{files_of}
use Rattle.mq_outside.proofs.NamedLemmas.{put_none}
use Rattle.mq_outside.proofs.MemFilesLemmas.{absent_content}
use Rattle.mq_outside.proofs.mem_files.MemFiles.cut.Goals as goal

pub returns-else-place-clause-cut : goal.returns-else-place-clause-cut
returns-else-place-clause-cut c other =
    let none = absent_content c.args.self.now.extents.items c.args.self.now.buffer.items c.args.name.now c.place_of-place.result c.args.self.now.filled c.place_of-place.ensures c.if-place.false in
    put_none c.args.name.now (content (files_of c.args.self.now)) none other
    ∙ ap (λ (o : Option (List ℕ)). put_file c.args.name.now (option_map (λ (l : List ℕ). take c.args.len l) o) (content (files_of c.args.self.now)) other) (sym none)
