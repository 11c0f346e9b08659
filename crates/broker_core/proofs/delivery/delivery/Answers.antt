use Rattle.std.proofs.Common.{◌≡◌, ◌∙◌, ap, sym, subst, ℕ, List, Some, None, codes}
use Rattle.std.proofs.lemmas.Result.{IfOk-weaker}
use Rattle.record_codec.specs.Entry.{Entry}
use Rattle.record_codec.specs.Layout.{IsRecord}
use Rattle.record_codec.specs.Props.{value_of, without}
use Rattle.record_codec.specs.declared.draft.Draft.{Draft}
use Rattle.log_model.specs.Admissible.{IsBelow}
use Rattle.log_model.specs.Drafts.{text_in, without_real, delivery_draft}
use Rattle.log_model.specs.Queues.{said_by}
use Rattle.broker_model.specs.State.{Setup}
use Rattle.broker_core.proofs.MessageLemmas.{queue, free, layout, same_some}
use Rattle.broker_core.proofs.delivery.delivery.Goals as goal

pub delivery_draft-requires-clause-queue : goal.delivery_draft-requires-clause-queue
delivery_draft-requires-clause-queue c =
    let it = c.requires.next in
    let whole : Some c.in-Some.whole.now ≡ Some it.1 = rw c.in-Some.is at (c.next.ensures it.0.log it.0.dispatched it.1 it.2.levels it.3) in
    let mine = c.in_ok-copied-in-Some.ensures ∙ same_some c.in-Some.whole.now it.1 whole in
    subst (λ (r : Entry). IsBelow 1024 (text_in (codes "REAL_QID") r.props)) (sym mine) (queue c.args.parts.now it.0 c.args.level it.1 it.2 it.3)

pub delivery_draft-requires-clause-free : goal.delivery_draft-requires-clause-free
delivery_draft-requires-clause-free c =
    let it = c.requires.next in
    let whole : Some c.in-Some.whole.now ≡ Some it.1 = rw c.in-Some.is at (c.next.ensures it.0.log it.0.dispatched it.1 it.2.levels it.3) in
    let mine = c.in_ok-copied-in-Some.ensures ∙ same_some c.in-Some.whole.now it.1 whole in
    subst (λ (r : Entry). value_of (codes "DELAY_FROM") (without (codes "DELAY") (without_real r.props)) ≡ None) (sym mine) (free c.args.parts.now it.0 c.args.level it.1 it.2 it.3)

pub returns-in_ok-copied-in-Some : goal.returns-in_ok-copied-in-Some
returns-in_ok-copied-in-Some c s r are next =
    let whole : Some c.in-Some.whole.now ≡ Some r = rw c.in-Some.is at (c.next.ensures s.log s.dispatched r are.levels next) in
    let mine = c.in_ok-copied-in-Some.ensures ∙ same_some c.in-Some.whole.now r whole in
    let host = ap (λ (x : Setup). x.host) are.numbers.setup in
    IfOk-weaker c.delivery_draft.result
    (λ (d : Draft). d ≡ delivery_draft c.args.parts.now.setup.host c.args.level c.args.count (said_by c.in_ok-copied-in-Some.field-0))
    (λ (d : Draft). d ≡ delivery_draft s.setup.host c.args.level c.args.count r)
    (λ d is. is ∙ ap (λ (e : Entry). delivery_draft c.args.parts.now.setup.host c.args.level c.args.count e) mine ∙ ap (λ (h : List ℕ). delivery_draft h c.args.level c.args.count r) host)
    c.delivery_draft.ensures

pub copied-requires : goal.copied-requires
copied-requires c =
    let it = c.requires.next in
    let whole : Some c.in-Some.whole.now ≡ Some it.1 = rw c.in-Some.is at (c.next.ensures it.0.log it.0.dispatched it.1 it.2.levels it.3) in
    subst IsRecord (sym (same_some c.in-Some.whole.now it.1 whole)) (layout c.args.parts.now it.0 c.args.level it.1 it.2 it.3)
