use Rattle.std.proofs.Common.{◌∙◌, sym}
use Rattle.half_view.specs.Halves.{renewed_row}
use Rattle.half_view.proofs.TableLemmas.{changed_absent}
use Rattle.half_view.proofs.view.HalfView.renew.Goals as goal

pub returns-in_default : goal.returns-in_default
returns-in_default c = changed_absent (renewed_row c.args.renewal c.args.store) c.args.half c.args.self.now (sym c.in_default.is ∙ c.index.ensures)
