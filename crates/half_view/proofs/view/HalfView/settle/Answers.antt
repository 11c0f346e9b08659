use Rattle.std.proofs.Common.{◌∙◌, ℕ, Option, sym, ap}
use Rattle.half_view.specs.Halves.{settled_row, with_settled}
use Rattle.half_view.proofs.TableLemmas.{changed_absent}
use Rattle.half_view.proofs.view.HalfView.settle.Goals as goal

pub returns-in_default-index : goal.returns-in_default-index
returns-in_default-index c =
    let t = c.args.self.now in
    changed_absent (settled_row c.args.how c.args.number) c.in-Some.half t (sym c.in_default-index.is ∙ c.index.ensures)
    ∙ ap (λ (o : Option ℕ). with_settled t o c.args.how c.args.number) (sym c.in-Some.is)
