use Rattle.std.proofs.Common.{◌≡◌, length}
use Rattle.std.specs.List.{filter_map}
use Rattle.std.specs.Str.{IsUtf8}
use Rattle.record_codec.specs.LaxProps.{pieces, with_all, read_props, ArePlacesIn}
use Rattle.record_codec.specs.Props.{pair_in}
use Rattle.record_codec.proofs.props.Props.read.Given as goal

abbrev pub invariant-loop-rest : goal.invariant-loop-rest
invariant-loop-rest l = record {
  all : with_all l.props (filter_map pair_in (pieces 2 l.rest)) ≡ read_props l.text;
  utf8 : IsUtf8 l.rest;
  placed : ArePlacesIn l.props l.places;
}

abbrev pub decreases-loop-rest : goal.decreases-loop-rest
decreases-loop-rest l = length l.rest
