use Rattle.std.proofs.Common.{◌∙◌, refl}
use Rattle.log_opening.proofs.OpenLemmas.{zeros_over, zeros_kept, zeros_ours}
use Rattle.log_opening.proofs.opening.Opened.with_zeros.Goals as goal

pub returns-clause-over : goal.returns-clause-over
returns-clause-over g c setup saved over = zeros_over setup saved c.args.self _ refl c.with_zeros.ensures.place.0 c.with_zeros.ensures.place.1 over

pub returns-clause-kept : goal.returns-clause-kept
returns-clause-kept g c setup saved files kept = zeros_kept setup saved c.args.self _ refl c.with_zeros.ensures.place.0 c.with_zeros.ensures.place.1 files kept

pub returns-clause-ours : goal.returns-clause-ours
returns-clause-ours g c setup saved log flushed same ours =
    zeros_ours setup saved c.args.self _ refl c.with_zeros.ensures.place.0 c.with_zeros.ensures.place.1 log flushed _ (c.with_zeros.ensures.ahead ∙ same) ours
