use Rattle.std.proofs.Common.{◌≡◌, ◌∙◌, ◌+◌, ◌∷◌, [], ◌++◌, ◌<◌, ◌^◌, List, ℕ, set, length, sym, ap, subst, arith}
use Rattle.half_view.specs.declared.row.HalfRow.{HalfRow}
use Rattle.half_view.specs.Due.{AreTimed, due_time}
use Rattle.half_view.proofs.TimedLemmas.{push_timed}
use Rattle.half_view.proofs.rows.push.Goals as goal

pub returns-clause-timed : goal.returns-clause-timed
returns-clause-timed c =
    let rows = c.args.rows.now.items in
    let times = c.args.times.now in
    let size : c.len-k.result ≡ length rows = (let e = c.len-k.ensures in omega (arith, e)) in
    let small : c.args.low + length rows < 2 ^ 62 = (let low = c.requires.small in omega (arith, low)) in
    subst (λ (rs : List HalfRow). AreTimed c.args.low rs c.set.new.self) (sym c.in-Ok.ensures.items)
    (subst (λ (ts : List ℕ). AreTimed c.args.low (rows ++ c.args.row ∷ []) ts) (sym (c.set.ensures ∙ ap (λ (n : ℕ). set times n c.due_time.result) size))
    (push_timed c.args.low rows times c.due_time.result c.args.row c.requires.timed small c.requires.times c.requires.early
    (c.due_time.ensures ∙ ap (λ (n : ℕ). due_time (c.args.low + n) c.args.row) size)))
