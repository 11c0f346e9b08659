use Rattle.std.proofs.Common.{◌≡◌, sym, subst, ap, ◌∙◌, List, ℕ, map, string_bytes, String, Global}
use Rattle.mq_outside.specs.Files.{Lists}
use Rattle.mq_outside.specs.Named.{content, names_of}
use Rattle.mq_outside.specs.MemFiles.{files_in}
use Rattle.mq_outside.specs.MemDisk.{files_of}
use Rattle.mq_outside.specs.declared.mem_files.Extent.{Extent}
use Rattle.mq_outside.proofs.NamedLemmas.{names_listed}
use Rattle.mq_outside.proofs.mem_files.MemFiles.names.Goals as goal

pub returns : goal.returns
returns c =
    let same : map (λ (name : String Global). string_bytes name) c.in_ok-names.names.items ≡ names_of (files_of c.args.self.now) =
    c.in_ok-names.ensures ∙ ap (λ (l : List Extent). names_of (files_in l c.deref-2.result.now)) c.deref.ensures.value ∙ ap (λ (l : List ℕ). names_of (files_in c.args.self.now.extents.items l)) c.deref-2.ensures.value in
    subst (λ (l : List (List ℕ)). Lists (content (files_of c.args.self.now)) l) (sym same) (names_listed (files_of c.args.self.now) c.args.self.now.ordered)
