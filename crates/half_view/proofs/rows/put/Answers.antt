use Rattle.std.proofs.Common.{List, ℕ, set, sym, subst, arith}
use Rattle.half_view.specs.Due.{AreTimed}
use Rattle.half_view.proofs.TimedLemmas.{put_timed}
use Rattle.half_view.proofs.rows.put.Goals as goal

pub returns-clause-timed : goal.returns-clause-timed
returns-clause-timed c =
    let rows = c.args.rows.now.items in
    let there = c.requires.there in
    subst (λ (ts : List ℕ). AreTimed c.args.low (set rows c.args.k c.args.row) ts) (sym c.set.ensures)
    (put_timed c.args.low rows c.args.times.now c.args.k c.due_time.result c.args.row c.requires.timed (omega (arith, there, c.args.rows.now.ok.0)) c.requires.early c.due_time.ensures)
