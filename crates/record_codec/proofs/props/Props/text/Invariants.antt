use Rattle.std.proofs.Common.{◌≡◌, ◌++◌, drop, string_bytes}
use Rattle.record_codec.specs.Props.{written}
use Rattle.record_codec.proofs.props.Props.text.Given as goal

abbrev pub invariant-loop-name : goal.invariant-loop-name
invariant-loop-name l = string_bytes l.text ++ written (drop l.name-index l.name-items) ≡ written l.name-items
