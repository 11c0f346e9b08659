use Rattle.std.proofs.Common.{◌≡◌, ◌≤◌, ◌+◌, ◌++◌, drop, length, vec_len}
use Rattle.std.specs.Vec.{vec_capacity}
use Rattle.record_codec.specs.Props.{written}
use Rattle.record_codec.proofs.props.Props.put_into.Given as goal

abbrev pub invariant-loop-name : goal.invariant-loop-name
invariant-loop-name l = record {
  items : l.out.items ++ written (drop l.name-index l.name-items) ≡ l.initial.out.items ++ written l.name-items;
  room : vec_len l.out + length (written (drop l.name-index l.name-items)) ≤ vec_capacity l.out;
  len : vec_len l.out + length (written (drop l.name-index l.name-items)) ≡ vec_len l.initial.out + length (written l.name-items);
  more : vec_capacity l.initial.out ≤ vec_capacity l.out;
}
