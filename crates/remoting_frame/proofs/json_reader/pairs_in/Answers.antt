use Rattle.std.proofs.Common.{◌≡◌, ◌∷◌, Some, string_bytes, ◌∙◌, rules}
use Rattle.serde_json.specs.View.{view, members_view}
use Rattle.remoting_frame.specs.Json.{pairs_of}
use Rattle.remoting_frame.proofs.HeaderReading.{in_order, front_step}
use Rattle.remoting_frame.proofs.json_reader.pairs_in.Goals as goal

pub loop-name-preserved : goal.loop-name-preserved
loop-name-preserved c =
    let here : c.loop-name.name-iterator ≡ (c.in-Some.name, c.in-Some.value) ∷ c.next.new.self = search rules in
    front_step c.loop-name.fields c.push_pair.new.fields (string_bytes c.in-Some.name) (view c.in-Some.value) (members_view c.next.new.self) c.in_ok-push_pair.ensures ∙ (rw here at c.loop-name.invariant)

pub returns-clause-ordered : goal.returns-clause-ordered
returns-clause-ordered c =
    let whole : pairs_of (members_view c.args.map.entries) ≡ Some c.loop-name.fields = search rules in
    in_order c.args.map.entries c.loop-name.fields c.len.ensures.ordered whole
