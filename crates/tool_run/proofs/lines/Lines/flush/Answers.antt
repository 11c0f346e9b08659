use Rattle.std.proofs.Common.{◌∙◌, ◌++◌, List, ℕ, refl, ap}
use Rattle.tool_run.proofs.WriteLemmas.{told_flushed}
use Rattle.tool_run.proofs.lines.Lines.flush.Goals as goal

pub returns-in-Ok-clause-told : goal.returns-in-Ok-clause-told
returns-in-Ok-clause-told g c = λ first text told. told_flushed g.K.Sink first c.args.self.now _ text c.clear.ensures.items refl c.in-Ok.ensures.cause
    (λ tells. c.in-Ok.ensures.whole tells ∙ ap (λ (l : List ℕ). g.K.Sink.taken c.args.self.now.sink ++ l) c.as_slice.ensures.value) told
