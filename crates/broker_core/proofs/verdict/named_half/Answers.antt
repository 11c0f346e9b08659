use Rattle.std.proofs.Common.{◌≡◌, ◌∙◌, ap, sym, subst, Some}
use Rattle.std.proofs.lemmas.Option.{same_Some}
use Rattle.std.proofs.lemmas.Result.{IfOk-weaker}
use Rattle.record_codec.specs.Layout.{IsRecord}
use Rattle.record_codec.specs.declared.draft.Record.{Record}
use Rattle.log_model.specs.Queues.{said_by}
use Rattle.request_fields.specs.Requests.{EndSaid}
use Rattle.broker_core.proofs.JudgeLemmas.{whole_is, kept_layout}
use Rattle.broker_core.proofs.verdict.named_half.Goals as goal

pub copied-requires : goal.copied-requires
copied-requires c =
    let s = c.requires.named.0 in
    let half = c.requires.named.1 in
    let are = c.requires.named.2 in
    let it = c.requires.named.3 in
    let found = rw c.in-Some.is at (c.whole.ensures.found s.setup.segment s.log it.first are.state.log are.halves it.named it.opens) in
    let whole = whole_is s c.args.end.now c.args.origin c.end.inside.queue_offset half (Some c.in-Some.whole.now) it (ap (λ (e : EndSaid). e.queue_offset) c.end.view_is) found in
    subst IsRecord (sym (same_Some c.in-Some.whole.now half whole)) (kept_layout s c.args.end.now c.args.origin half c.args.parts.now are it)

pub returns : goal.returns
returns c s half are it =
    let found = rw c.in-Some.is at (c.whole.ensures.found s.setup.segment s.log it.first are.state.log are.halves it.named it.opens) in
    let whole = whole_is s c.args.end.now c.args.origin c.end.inside.queue_offset half (Some c.in-Some.whole.now) it (ap (λ (e : EndSaid). e.queue_offset) c.end.view_is) found in
    IfOk-weaker c.copied.result (λ (copy : Record). said_by copy ≡ c.in-Some.whole.now) (λ (copy : Record). said_by copy ≡ half) (λ copy is. is ∙ same_Some c.in-Some.whole.now half whole) c.copied.ensures
