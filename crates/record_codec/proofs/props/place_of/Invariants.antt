use Rattle.std.proofs.Common.{◌≡◌, ◌+◌, drop, option_map}
use Rattle.record_codec.specs.Props.{place_in}
use Rattle.record_codec.proofs.props.place_of.Given as goal

abbrev pub invariant-loop-at : goal.invariant-loop-at
invariant-loop-at l = option_map (λ k. l.at + k) (place_in l.name (drop l.at l.pairs)) ≡ place_in l.name l.pairs
