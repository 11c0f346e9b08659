use Rattle.std.proofs.Common.{codes, ap, ◌∙◌}
use Rattle.record_codec.specs.Props.{has_name}
use Rattle.format_tests.proofs.SealLemmas.{has_none}
use Rattle.format_tests.proofs.record_tests.are_spelled.Goals as goal

pub bytes_of-requires : goal.bytes_of-requires
bytes_of-requires c = ap (has_name (codes "SEAL")) c.drop_name.ensures ∙ has_none (codes "SEAL") c.args.props
