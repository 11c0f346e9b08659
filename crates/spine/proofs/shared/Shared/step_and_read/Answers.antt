use Rattle.std.proofs.Common.{◌∙◌, ap}
use Rattle.spine.proofs.shared.Shared.step_and_read.Goals as goal

pub returns-clause-read : goal.returns-clause-read
returns-clause-read g c = (c.as_ref.result, c.f.ensures, c.as_ref.ensures ∙ ap (λ s. s.core) c.self.view_is)
