use Rattle.std.proofs.Common.{◌∙◌, ap, subst, [], ◌∷◌}
use Rattle.std.proofs.lemmas.Result.{IfOk-weaker}
use Rattle.record_codec.specs.Entry.{Entry}
use Rattle.record_codec.specs.declared.draft.Draft.{Draft}
use Rattle.log_model.specs.Drafts.{renewal_draft}
use Rattle.broker_model.specs.State.{State}
use Rattle.broker_events.specs.declared.said.Said.{Said}
use Rattle.broker_core.specs.Checks.{IsCheckedBy, IsRenewed, IsRenewedBy}
use Rattle.core_log.specs.Represents.{Represents}
use Rattle.broker_core.proofs.DueChecks.{renewed_member, renewed_by, draft_as}
use Rattle.broker_core.proofs.check_back.renew_due.Goals as goal

pub half_of-requires : goal.half_of-requires
half_of-requires c =
    let it = c.requires.some in
    (it.0, it.1, it.2, renewed_member c.args.parts.now it.0 c.args.now c.args.origin c.args.n it.1 it.2 it.3)

pub renew-requires : goal.renew-requires
renew-requires c =
    let it = c.requires.some in
    let member = renewed_member c.args.parts.now it.0 c.args.now c.args.origin c.args.n it.1 it.2 it.3 in
    let draft = c.in_ok-draft.ensures ∙ ap (λ (e : Entry). renewal_draft c.args.parts.now.setup.host c.args.n e) (c.in_ok-first.ensures it.0 it.1 it.2 member) in
    record { some = (it.0, it.1, it.2, renewed_by c.args.parts.now it.0 c.args.now c.args.origin c.args.n it.1 c.in_ok-draft.draft it.2 it.3 draft) }

pub returns-clause-checked : goal.returns-clause-checked
returns-clause-checked c =
    let old = c.args.parts.now in
    let d = c.in_ok-draft.draft in
    let new = c.renew.new.parts in
    IfOk-weaker c.renew.result
    (λ (what : Said). (s : State) (first : Entry) → Represents old s → IsRenewedBy s c.args.now c.args.origin first d → IsCheckedBy s c.args.now c.args.origin (d ∷ []) what new)
    (λ (what : Said). (s : State) (first : Entry) → Represents old s → IsRenewed s c.args.now c.args.origin c.args.n first
    → IsCheckedBy s c.args.now c.args.origin (renewal_draft s.setup.host c.args.n first ∷ []) what new)
    (λ what done s first are is.
    let member = renewed_member old s c.args.now c.args.origin c.args.n first are is in
    let draft = c.in_ok-draft.ensures ∙ ap (λ (e : Entry). renewal_draft old.setup.host c.args.n e) (c.in_ok-first.ensures s first are member) in
    let by = renewed_by old s c.args.now c.args.origin c.args.n first d are is draft in
    subst (λ (x : Draft). IsCheckedBy s c.args.now c.args.origin (x ∷ []) what new) (draft_as old s c.args.n first d are draft) (done s first are by))
    c.renew.ensures.checked
