use Rattle.std.proofs.Common.{◌∙◌, ap, ◌+◌, ◌-◌, ◌*◌, length}
use Rattle.chunks.proofs.ChunkLemmas.{len_is}
use Rattle.chunks.specs.Lists.{Roomy}
use Rattle.chunks.proofs.chunks.Chunks.len.Goals as goal

pub returns-clause-value : goal.returns-clause-value
returns-clause-value g c =
    let inside = c.self.inside in
    ap (λ n. n * 1024 + c.len-2.result - inside.skipped) c.len.ensures
    ∙ ap (λ n. inside.full.len * 1024 + n - inside.skipped) c.len-2.ensures
    ∙ len_is inside.full inside.last inside.next inside.skipped c.self.invariant
    ∙ ap (λ (v : Roomy _). length v.items) c.self.view_is
