use Rattle.std.proofs.Common.{◌≡◌}
use Rattle.serde_json.specs.View.{members_view}
use Rattle.remoting_frame.specs.Json.{pairs_of}
use Rattle.remoting_frame.proofs.HeaderReading.{with_front}
use Rattle.remoting_frame.proofs.json_reader.pairs_in.Given as goal

abbrev pub invariant-loop-name : goal.invariant-loop-name
invariant-loop-name l = with_front l.fields (pairs_of (members_view l.name-iterator)) ≡ pairs_of (members_view l.fn.map.entries)
