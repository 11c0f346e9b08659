-- What one record more does to an origin.
use Rattle.std.specs.Prelude.{Bool, if◌then◌else◌}
use Rattle.log_model.specs.Transactions.{TransactionState, Open, Committed, RolledBack, Discarded}

-- the state after a record that names the origin, is a copy of it or a discarded copy of it
abbrev pub state_after : TransactionState → Bool → Bool → Bool → TransactionState
state_after Discarded names copies discards = Discarded
state_after Committed names copies discards = if discards then Discarded else Committed
state_after RolledBack names copies discards = if discards then Discarded else (if copies then Committed else RolledBack)
state_after Open names copies discards =
    if discards then Discarded else (if copies then Committed else (if names then RolledBack else Open))
