use Rattle.std.proofs.Common.{◌∙◌, arith, ℕ, set, ap, ◌+◌}
use Rattle.half_view.specs.Halves.{renewed_row}
use Rattle.half_view.proofs.ListLemmas.{change_read}
use Rattle.half_view.proofs.rows.renew_at.Goals as goal

pub returns-clause-rows : goal.returns-clause-rows
returns-clause-rows c =
    let row = c.index-row.result.now in
    let there = c.requires.there in
    c.put.ensures.rows
    ∙ ap (λ (n : ℕ). set c.args.rows.now.items c.args.k (record row { due = c.args.store + 60000; last = c.args.renewal; checks = n })) (c.saturating_add.ensures)
    ∙ change_read (renewed_row c.args.renewal c.args.store) c.args.rows.now.items c.args.k row (omega (arith, there)) c.index-row.ensures
