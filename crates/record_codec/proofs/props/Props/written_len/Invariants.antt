use Rattle.std.proofs.Common.{◌≡◌, ◌≤◌, ◌+◌, drop, length}
use Rattle.record_codec.specs.Props.{written}
use Rattle.record_codec.proofs.props.Props.written_len.Given as goal

abbrev pub invariant-loop-name : goal.invariant-loop-name
invariant-loop-name l = (l.len ≤ 32753) × (l.len + length (written (drop l.name-index l.name-items)) ≡ length (written l.name-items))
