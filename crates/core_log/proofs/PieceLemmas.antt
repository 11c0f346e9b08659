-- No pieces cover no records.
use Rattle.std.proofs.Common.{◌≡◌, arith, List}
use Rattle.mq_outside.specs.declared.frozen_ranges.FrozenRanges.{FrozenRanges}
use Rattle.record_codec.specs.Entry.{Entry}
use Rattle.core_log.specs.Loads.{whole_log}
use Rattle.core_log.specs.Represents.{AreCovered}

-- none are covered by no pieces
pub none_covered : (pieces : FrozenRanges) (records : List Entry) → pieces.end ≡ 0 → AreCovered pieces (whole_log records) 0
none_covered pieces records end = record { each = λ k r low at. absurd (let none : ⊥ = omega (arith, low) in none); end = omega (arith, end) }
