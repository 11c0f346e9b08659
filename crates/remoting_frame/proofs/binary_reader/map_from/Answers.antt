use Rattle.std.proofs.Common.{◌<◌, length, ◌∙◌, rules}
use Rattle.remoting_frame.specs.NameMaps.{pairs_view}
use Rattle.remoting_frame.proofs.BinaryReading.{pairs_step}
use Rattle.remoting_frame.proofs.binary_reader.map_from.Goals as goal

pub loop-rest-preserved : goal.loop-rest-preserved
loop-rest-preserved c =
    let some : 0 < length c.loop-rest.rest.now = search rules in
    pairs_step (pairs_view c.loop-rest.map.entries) c.loop-rest.rest.now (pairs_view c.put_first.new.map.entries, c.in_ok-rest.rest.now) some c.in_ok-rest.ensures.pair ∙ c.loop-rest.invariant
