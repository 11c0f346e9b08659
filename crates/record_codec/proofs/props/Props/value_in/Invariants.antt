use Rattle.std.proofs.Common.{◌≡◌, ℕ, List, length, option_map}
use Rattle.std.specs.Option.{IfSome}
use Rattle.std.specs.Str.{IsUtf8}
use Rattle.record_codec.specs.Props.{value_of}
use Rattle.record_codec.specs.LaxProps.{with_all, read_props}
use Rattle.record_codec.proofs.LaxLemmas.{pairs_of}
use Rattle.record_codec.proofs.props.Props.value_in.Given as goal

abbrev pub invariant-loop-rest : goal.invariant-loop-rest
invariant-loop-rest l = record {
  all : (seen : List (List ℕ × List ℕ)) × (option_map (λ value. value.now) l.last ≡ value_of l.name seen) × (with_all seen (pairs_of l.rest) ≡ read_props l.text);
  utf8 : IsUtf8 l.rest;
  last : IfSome l.last (λ value. IsUtf8 value.now);
}

abbrev pub decreases-loop-rest : goal.decreases-loop-rest
decreases-loop-rest l = length l.rest
