use Rattle.std.proofs.Common.{ap, ◌∙◌, List, ℕ, length}
use Rattle.log_model.specs.Numbered.{records_from}
use Rattle.pending_log.proofs.RemovalLemmas.{layouts_size}
use Rattle.pending_log.proofs.laws.the_pending_bytes_are_the_sizes_of_their_records.Goals as goal

pub returns : goal.returns
returns c log p are = ap (λ (bs : List ℕ). length bs) are.bytes ∙ layouts_size (records_from log p.flushed)
