use Rattle.std.proofs.Common.{◌≡◌, drop}
use Rattle.record_codec.specs.Props.{value_of}
use Rattle.record_codec.proofs.props.Props.get.Given as goal

abbrev pub invariant-loop-other : goal.invariant-loop-other
invariant-loop-other l = value_of l.name (drop l.other-index l.other-items) ≡ value_of l.name l.other-items
