-- What became of an origin, as programs say it.
use Rattle.log_model.specs.declared.origin.OriginState.{OriginState}
use Rattle.log_model.specs.declared.origin.OriginState.TheVariants.{Open as StillOpen, Committed as IsCommitted}
use Rattle.log_model.specs.declared.origin.OriginState.TheVariants.{RolledBack as IsRolledBack, Discarded as IsDiscarded}
use Rattle.log_model.specs.Transactions.{TransactionState, Open, Committed, RolledBack, Discarded}

-- the word for a state
abbrev pub told_state : TransactionState → OriginState
told_state Open = StillOpen
told_state Committed = IsCommitted
told_state RolledBack = IsRolledBack
told_state Discarded = IsDiscarded
