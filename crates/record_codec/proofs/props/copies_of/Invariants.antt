use Rattle.std.proofs.Common.{◌≡◌, take}
use Rattle.record_codec.proofs.props.copies_of.Given as goal

abbrev pub invariant-loop-name : goal.invariant-loop-name
invariant-loop-name l = l.copies.items ≡ take l.name-index l.pairs
