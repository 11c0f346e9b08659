-- The rows of a log with a record more, and without its front.
use Rattle.std.proofs.Common.{◌≡◌, ap, sym, ◌∙◌, subst, ◌-◌, List, [], ◌∷◌, ◌++◌, drop}
use Rattle.record_codec.specs.Entry.{Entry}
use Rattle.record_codec.specs.Layout.{size}
use Rattle.log_model.specs.Bases.{Base}
use Rattle.log_model.specs.Numbered.{Log, above, with_appended}
use Rattle.pending_log.specs.declared.rows.Row.{Row}
use Rattle.pending_log.specs.Rows.{AreAlike, AreRowsOf}
use Rattle.pending_log.specs.Tables.{RowTable}
use Rattle.pending_log.proofs.ExtentLemmas.{alike_drop}

alike_push : (rows : List Row) (records : List Entry) (row : Row) (r : Entry) → AreAlike rows records → row.place ≡ r.offset → row.size ≡ size r → AreAlike (rows ++ row ∷ []) (records ++ r ∷ [])
alike_push [] [] row r are place long = (place, long, tt)
alike_push [] (q ∷ records) row r are place long = absurd are
alike_push (x ∷ rows) [] row r are place long = absurd are
alike_push (x ∷ rows) (q ∷ records) row r are place long = (are.0, are.1, alike_push rows records row r are.2 place long)

pub no_rows : (log : Log) (rows : RowTable) → rows.first ≡ log.base.records → rows.items ≡ [] → log.records ≡ [] → AreRowsOf log rows
no_rows log rows first items records = record {
  first = first;
  items = subst (λ (xs : List Row). AreAlike xs log.records) (sym items) (subst (λ (rs : List Entry). AreAlike [] rs) (sym records) tt);
}

pub rows_pushed : (log : Log) (old new : RowTable) (row : Row) (r : Entry) → AreRowsOf log old → new.first ≡ old.first → new.items ≡ old.items ++ row ∷ [] → row.place ≡ r.offset → row.size ≡ size r
    → AreRowsOf (with_appended log (r ∷ [])) new
rows_pushed log old new row r are first items place long = record {
  first = first ∙ are.first;
  items = subst (λ (xs : List Row). AreAlike xs (log.records ++ r ∷ [])) (sym items) (alike_push old.items log.records row r are.items place long);
}

pub rows_cut : (log : Log) (old new : RowTable) (base : Base) → AreRowsOf log old → new.first ≡ base.records → new.items ≡ drop (base.records - old.first) old.items → AreRowsOf (above log base) new
rows_cut log old new base are first items = record {
  first = first;
  items = subst (λ (xs : List Row). AreAlike xs (drop (base.records - log.base.records) log.records)) (sym (items ∙ ap (λ n. drop (base.records - n) old.items) are.first))
      (alike_drop old.items log.records (base.records - log.base.records) are.items);
}
