use Rattle.std.proofs.Common.{◌≡◌, ◌++◌}
use Rattle.remoting_frame.specs.NameMaps.{pairs_view}
use Rattle.remoting_frame.proofs.binary_reader.fields_of.Given as goal

abbrev pub invariant-loop-name : goal.invariant-loop-name
invariant-loop-name l = l.pairs ++ pairs_view l.name-iterator ≡ pairs_view l.fn.map.entries
