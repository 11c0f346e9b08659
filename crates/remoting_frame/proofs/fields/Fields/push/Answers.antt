use Rattle.std.proofs.Common.{◌≡◌, length, string_bytes, rules}
use Rattle.remoting_frame.specs.Fields.{span_behind}
use Rattle.remoting_frame.proofs.FieldSpans.{all_pushed, fields_pushed}
use Rattle.remoting_frame.proofs.fields.Fields.push.Goals as goal

pub invariant_of-self-2 : goal.invariant_of-self-2
invariant_of-self-2 c =
    let text = string_bytes c.self.inside.text in
    let span : c.in-Some.span ≡ span_behind (length text) c.args.name.now c.args.value.now = search rules in
    rw (c.push_reserved.ensures.items, c.reserve.ensures.items, c.in_ok-push_both.ensures.ok)
    (all_pushed text c.args.name.now c.args.value.now c.self.inside.spans.items c.in-Some.span span c.utf8.name c.utf8.value c.self.invariant)

pub returns-clause-ok : goal.returns-clause-ok
returns-clause-ok c =
    let text = string_bytes c.self.inside.text in
    let span : c.in-Some.span ≡ span_behind (length text) c.args.name.now c.args.value.now = search rules in
    rw (c.push_reserved.ensures.items, c.reserve.ensures.items, c.in_ok-push_both.ensures.ok, ← c.self.view_is)
    (fields_pushed text c.args.name.now c.args.value.now c.self.inside.spans.items c.in-Some.span span c.self.invariant)
