-- What the parts show their owner.
use Rattle.std.specs.Prelude.{Option, Some, None}
use Rattle.log_model.specs.declared.batch.Batch.{Batch}
use Rattle.pending_log.specs.Parts.{PendingPart}
use Rattle.pending_log.specs.declared.turn.Out.{Out}
use Rattle.broker_events.specs.Shown.{Shown}
use Rattle.core_log.specs.declared.parts.Parts.{Parts}

-- the batch of a turn that is out
abbrev pub batch_of : Option Out → Option Batch
batch_of None = None
batch_of (Some out) = Some out.batch

-- how many records are flushed and where they end, and the batch that is out
abbrev pub shown_in : PendingPart → Shown
shown_in p = record { flushed = p.flushed; end = p.start; out = batch_of p.out }

abbrev pub shown_of : Parts → Shown
shown_of core = shown_in core.pending
