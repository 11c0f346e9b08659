use Rattle.std.proofs.Common.{◌≡◌, ◌++◌, length, string_bytes, rules}
use Rattle.remoting_frame.specs.Fields.{span_behind}
use Rattle.remoting_frame.proofs.BinaryWriting.{on_err}
use Rattle.remoting_frame.proofs.FieldSpans.{all_kept, fields-append, all_put, fields_put}
use Rattle.remoting_frame.proofs.fields.Fields.put.Goals as goal

pub invariant_of-self-in_err-put_span : goal.invariant_of-self-in_err-put_span
invariant_of-self-in_err-put_span c =
    rw (c.in_err-put_span.ensures.err, c.reserve.ensures.items, c.in_ok-push_both.ensures.ok)
    (all_kept (string_bytes c.self.inside.text) c.args.name.now c.args.value.now c.self.inside.spans.items c.utf8.name c.utf8.value c.self.invariant)

pub returns-in_err-put_span-clause-err : goal.returns-in_err-put_span-clause-err
returns-in_err-put_span-clause-err c =
    on_err c.from_residual-in_err-put_span.result
    (rw (c.in_err-put_span.ensures.err, c.reserve.ensures.items, c.in_ok-push_both.ensures.ok, ← c.self.view_is)
    (fields-append (string_bytes c.self.inside.text) (c.args.name.now ++ c.args.value.now) c.self.inside.spans.items c.self.invariant))

pub invariant_of-self-2 : goal.invariant_of-self-2
invariant_of-self-2 c =
    let text = string_bytes c.self.inside.text in
    let span : c.in-Some.span ≡ span_behind (length text) c.args.name.now c.args.value.now = search rules in
    rw (c.in_ok-put_span.ensures.ok, c.reserve.ensures.items, c.in_ok-push_both.ensures.ok)
    (all_put text c.args.name.now c.args.value.now c.self.inside.spans.items c.spot_of-from.result.0 c.spot_of-from.result.1 c.in-Some.span span c.utf8.name c.utf8.value c.self.invariant)

pub returns-clause-ok : goal.returns-clause-ok
returns-clause-ok c =
    let text = string_bytes c.self.inside.text in
    let span : c.in-Some.span ≡ span_behind (length text) c.args.name.now c.args.value.now = search rules in
    rw (c.spot_of-from.ensures.spot c.args.value.now, c.in_ok-put_span.ensures.ok, c.reserve.ensures.items, c.in_ok-push_both.ensures.ok, ← c.self.view_is)
    (fields_put text c.args.name.now c.args.value.now c.self.inside.spans.items c.spot_of-from.result.0 c.spot_of-from.result.1 c.in-Some.span span c.self.invariant)
