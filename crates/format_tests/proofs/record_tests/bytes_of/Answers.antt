use Rattle.std.proofs.Common.{codes, ap, ◌∙◌, arith, lit<, lit≤}
use Rattle.record_codec.specs.Props.{has_name}
use Rattle.record_codec.proofs.DraftLemmas.{IsEncodable-from}
use Rattle.format_tests.proofs.record_tests.bytes_of.Goals as goal

pub encode-requires : goal.encode-requires
encode-requires c =
    let times = c.in_ok-draft.ensures.times in
    let free = ap (has_name (codes "SEAL")) c.in_ok-draft.ensures.props ∙ c.requires in
    IsEncodable-from 4096 c.in_ok-draft.draft _ (lit≤ tt) c.in-Ok.ensures.passes.0 (omega (arith, times)) (omega (arith, times)) (lit< tt) (lit< tt) (lit< tt) free
