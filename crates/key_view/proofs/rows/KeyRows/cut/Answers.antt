use Rattle.std.proofs.Common.{◌∙◌, List, ◌++◌, min, drop, ap}
use Rattle.chunks.specs.Lists.{Roomy}
use Rattle.key_view.specs.declared.row.KeyRow.{KeyRow}
use Rattle.key_view.proofs.PartedLemmas.{drop_both}
use Rattle.key_view.proofs.rows.KeyRows.cut.Goals as goal

pub returns-clause-items : goal.returns-clause-items
returns-clause-items c =
    let chunks = c.self.inside.chunks.items in
    let apart = c.self.inside.apart.items in
    let whole = c.min-whole.result in
    ap (λ (rows : List KeyRow). rows ++ c.drop_first.new.rows.items) c.cut.ensures.items
    ∙ ap (λ (rows : List KeyRow). drop whole chunks ++ rows) c.drop_first.ensures.items
    ∙ drop_both c.args.count whole chunks apart (c.min-whole.ensures ∙ ap (min c.args.count) c.len.ensures.value)
    ∙ ap (λ (v : Roomy KeyRow). drop c.args.count v.items) c.self.view_is
