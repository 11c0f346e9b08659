use Rattle.std.proofs.Common.{◌∙◌, arith}
use Rattle.half_view.specs.Halves.{settled_row}
use Rattle.log_model.specs.declared.origin.OriginState.{OriginState}
use Rattle.std.proofs.Common.{set, ap, ◌+◌}
use Rattle.half_view.proofs.ListLemmas.{change_read}
use Rattle.half_view.proofs.rows.settle_at.Goals as goal

pub returns-clause-rows : goal.returns-clause-rows
returns-clause-rows c =
    let row = c.index-row.result.now in
    let there = c.requires.there in
    c.put.ensures.rows
    ∙ ap (λ (s : OriginState). set c.args.rows.now.items c.args.k (record row { state = s; settled = c.args.number + 1 })) c.settled_as.ensures
    ∙ change_read (settled_row c.args.how c.args.number) c.args.rows.now.items c.args.k row (omega (arith, there)) c.index-row.ensures
