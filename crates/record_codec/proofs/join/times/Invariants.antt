use Rattle.std.proofs.Common.{◌≡◌, ◌-◌}
use Rattle.mq_bytes.specs.Crc.{bits}
use Rattle.record_codec.proofs.JoinLemmas.{product, with_rest}
use Rattle.record_codec.proofs.join.times.Given as goal

abbrev pub invariant-loop-power : goal.invariant-loop-power
invariant-loop-power l = record {
  moved : l.moved ≡ bits l.power l.shift;
  said : with_rest l.sum l.power (32 - l.power) l.register l.shift ≡ product 32 l.register l.shift;
}
