use Rattle.std.proofs.Common.{◌∙◌, [], refl}
use Rattle.record_copies.proofs.WholeLemmas.{reads, is_it}
use Rattle.record_copies.proofs.whole.Whole.of_view.Goals as goal

pub returns : goal.returns
returns c = λ is. is_it _ c.args.view.now (reads _ [] c.args.view.now is (c.in_ok-bytes.ensures.items ∙ c.layout.ensures) refl)
