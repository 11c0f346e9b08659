use Rattle.std.proofs.Common.{◌≡◌, drop}
use Rattle.record_codec.specs.Layout.{are_low}
use Rattle.record_codec.proofs.reading.are_low.Given as goal

abbrev pub invariant-loop-number : goal.invariant-loop-number
invariant-loop-number l = are_low (drop l.number-index l.numbers) ≡ are_low l.numbers
