use Rattle.std.proofs.Common.{◌≡◌, ◌&&◌, take}
use Rattle.std.specs.Prelude.{map, filter, is_none}
use Rattle.log_model.specs.Queues.{entries_of}
use Rattle.log_model.specs.Kinds.{is_half, origin_text}
use Rattle.log_model.specs.Transactions.{transaction_state}
use Rattle.log_model.specs.Origins.{told_state}
use Rattle.log_replay.proofs.halves.halves_of.Given as goal

abbrev pub invariant-loop-record : goal.invariant-loop-record
invariant-loop-record l = l.halves.items ≡ map (λ r. (r.queue_offset, told_state (transaction_state (entries_of l.log) r.queue_offset))) (filter (λ r. is_half r && is_none (origin_text r)) (entries_of (take l.record-index l.log)))
