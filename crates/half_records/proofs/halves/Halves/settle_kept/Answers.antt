use Rattle.std.proofs.Common.{◌∙◌, ℕ, Option, sym, ap, subst}
use Rattle.half_view.specs.Halves.{HalfTable, with_settled}
use Rattle.half_records.specs.Kept.{AreKeptWith}
use Rattle.half_records.specs.Tables.{settled_family}
use Rattle.half_records.proofs.HalvesLemmas.{settled_keeps}
use Rattle.half_records.proofs.halves.Halves.settle_kept.Goals as goal

pub returns-in-Some-clause-families : goal.returns-in-Some-clause-families
returns-in-Some-clause-families c log keeps =
    let old = c.args.self.now in
    let new = c.let_go_settled.new.self in
    settled_keeps log old new c.in-Some.half c.args.number c.args.how
    (c.let_go_settled.ensures.view ∙ c.settle.ensures ∙ ap (λ (o : Option ℕ). with_settled old.view o c.args.how c.args.number) c.in-Some.is)
    c.let_go_settled.ensures.first c.let_go_settled.ensures.groups
    (subst (λ (t : HalfTable). AreKeptWith (settled_family old.first t c.in-Some.half) old.kept.items new.kept.items) (sym c.let_go_settled.ensures.view) c.let_go_settled.ensures.kept) keeps
