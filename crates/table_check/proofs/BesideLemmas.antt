-- What is known of tables beside first records.
use Rattle.std.proofs.Common.{sym, subst, List, [], ◌∷◌, ◌++◌, append_assoc}
use Rattle.std.proofs.lemmas.List.{append-nil}
use Rattle.record_codec.specs.Entry.{Entry}
use Rattle.table_check.specs.Beside.{HasFailed, log_from}
use Rattle.table_check.specs.Equal.{AreTablesOf}
use Rattle.table_check.specs.declared.comparing.Comparing.{Comparing}

-- once they differ, they do whatever comes
pub failed_more : (records : List Entry) (r : Entry) (c : Comparing) → HasFailed records c → HasFailed (records ++ r ∷ []) c
failed_more records r c failed more are =
    failed (r ∷ more) (subst (λ (rs : List Entry). AreTablesOf (log_from c.base.now rs) c.tables) (append_assoc records (r ∷ []) more) are)

-- and here
pub failed_here : (records : List Entry) (c : Comparing) → HasFailed records c → AreTablesOf (log_from c.base.now records) c.tables → ⊥
failed_here records c failed are = failed [] (subst (λ (rs : List Entry). AreTablesOf (log_from c.base.now rs) c.tables) (sym (append-nil records)) are)
