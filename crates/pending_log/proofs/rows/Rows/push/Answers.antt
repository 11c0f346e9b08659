use Rattle.std.proofs.Common.{sym, subst, refl}
use Rattle.pending_log.specs.Tables.{RowTable, table_of}
use Rattle.pending_log.specs.Rows.{AreRowsOf}
use Rattle.pending_log.proofs.RowLemmas.{rows_pushed}
use Rattle.pending_log.proofs.rows.Rows.push.Goals as goal

pub returns-clause-log : goal.returns-clause-log
returns-clause-log c log r are place long =
    let i = c.self.inside in
    rows_pushed log (table_of i.first i.rows) (table_of i.first c.push.new.self) c.args.row r (subst (λ (v : RowTable). AreRowsOf log v) (sym c.self.view_is) are) refl c.push.ensures.items place long
