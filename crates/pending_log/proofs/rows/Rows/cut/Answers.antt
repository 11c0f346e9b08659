use Rattle.std.proofs.Common.{◌∙◌, ap, sym, subst, drop, ◌-◌}
use Rattle.pending_log.specs.Tables.{RowTable, table_of}
use Rattle.pending_log.specs.Rows.{AreRowsOf}
use Rattle.pending_log.proofs.RowLemmas.{rows_cut}
use Rattle.pending_log.proofs.rows.Rows.cut.Goals as goal

pub returns-clause-log : goal.returns-clause-log
returns-clause-log c log base are first =
    let i = c.self.inside in
    rows_cut log (table_of i.first i.rows) (table_of c.args.first c.cut.new.self) base (subst (λ (v : RowTable). AreRowsOf log v) (sym c.self.view_is) are) (sym first)
    (c.cut.ensures.items ∙ ap (λ n. drop (n - i.first) i.rows.items) (sym first))
