-- When rows are those of a log's records.
use Rattle.std.specs.Prelude.{◌≡◌, List, [], ◌∷◌}
use Rattle.record_codec.specs.Entry.{Entry}
use Rattle.record_codec.specs.Layout.{size}
use Rattle.log_model.specs.Numbered.{Log}
use Rattle.pending_log.specs.declared.rows.Row.{Row}
use Rattle.pending_log.specs.Tables.{RowTable}

-- the rows have the places and the sizes of these records, in the same order
abbrev pub AreAlike : List Row → List Entry → Type 0
AreAlike [] [] = Unit {0}
AreAlike [] (r ∷ records) = ⊥
AreAlike (row ∷ rows) [] = ⊥
AreAlike (row ∷ rows) (r ∷ records) = (row.place ≡ r.offset) × (row.size ≡ size r) × AreAlike rows records

-- the table has a row for each record of the log from the base on, by its number
pub record AreRowsOf (log : Log) (rows : RowTable) : Type 0 where
  pub first : rows.first ≡ log.base.records
  pub items : AreAlike rows.items log.records
