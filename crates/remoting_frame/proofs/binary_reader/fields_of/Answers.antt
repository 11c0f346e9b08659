use Rattle.std.proofs.Common.{◌≡◌, subst, sym, rules}
use Rattle.remoting_frame.specs.Head.{IsInOrder}
use Rattle.remoting_frame.specs.NameMaps.{pairs_view}
use Rattle.remoting_frame.proofs.BinaryReading.{view_in_order}
use Rattle.remoting_frame.proofs.binary_reader.fields_of.Goals as goal

pub returns-clause-ordered : goal.returns-clause-ordered
returns-clause-ordered c =
    let all : c.loop-name.pairs ≡ pairs_view c.args.map.entries = search rules in
    subst IsInOrder (sym all) (view_in_order c.args.map.entries c.len.ensures.ordered)
