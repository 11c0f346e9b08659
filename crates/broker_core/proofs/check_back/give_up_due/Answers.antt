use Rattle.std.proofs.Common.{◌≡◌, ◌∙◌, ap, subst, List, [], ◌∷◌}
use Rattle.std.proofs.lemmas.Result.{IfOk-weaker}
use Rattle.record_codec.specs.Entry.{Entry}
use Rattle.record_codec.specs.declared.draft.Draft.{Draft}
use Rattle.log_model.specs.Drafts.{discard_draft, op_draft}
use Rattle.log_model.specs.declared.origin.OriginState.TheVariants.{Discarded}
use Rattle.broker_model.specs.State.{State}
use Rattle.broker_events.specs.declared.said.Said.{Said}
use Rattle.broker_core.specs.Checks.{IsCheckedBy, IsGivenUp}
use Rattle.core_log.specs.Represents.{Represents}
use Rattle.core_log.specs.Settles.{IsSettling}
use Rattle.broker_core.proofs.GivenUpLemmas.{settles}
use Rattle.broker_core.proofs.check_back.give_up_due.Goals as goal

pub give_up-requires : goal.give_up-requires
give_up-requires c =
    let it = c.requires.some in
    let copy = c.in_ok-copy.ensures ∙ ap (λ (e : Entry). discard_draft c.args.parts.now.setup.host e) (c.in_ok-half.ensures it.0 it.1 it.2 it.3.member) in
    record { some = (it.0, it.1, it.2, settles c.args.parts.now it.0 c.args.now c.args.origin c.args.last it.1 c.in_ok-copy.copy c.in_ok-op.op it.2 it.3 copy c.in_ok-op.ensures) }

pub returns-clause-checked : goal.returns-clause-checked
returns-clause-checked c =
    let old = c.args.parts.now in
    let d = c.in_ok-copy.copy in
    let e = c.in_ok-op.op in
    let new = c.give_up.new.parts in
    IfOk-weaker c.give_up.result
    (λ (what : Said). (s : State) (half : Entry) → Represents old s → IsSettling s c.args.now c.args.origin Discarded half d e → IsCheckedBy s c.args.now c.args.origin (d ∷ e ∷ []) what new)
    (λ (what : Said). (s : State) (half : Entry) → Represents old s → IsGivenUp s c.args.now c.args.origin c.args.last half
    → IsCheckedBy s c.args.now c.args.origin (discard_draft s.setup.host half ∷ op_draft s.setup.host c.args.now c.args.origin ∷ []) what new)
    (λ what done s half are is.
    let copy = c.in_ok-copy.ensures ∙ ap (λ (r : Entry). discard_draft old.setup.host r) (c.in_ok-half.ensures s half are is.member) in
    let it = settles old s c.args.now c.args.origin c.args.last half d e are is copy c.in_ok-op.ensures in
    let drafts : d ∷ e ∷ [] ≡ discard_draft s.setup.host half ∷ op_draft s.setup.host c.args.now c.args.origin ∷ [] =
    ap (λ (x : Draft). x ∷ e ∷ []) it.copy_is.0 ∙ ap (λ (x : Draft). discard_draft s.setup.host half ∷ x ∷ []) it.op_is in
    subst (λ (ds : List Draft). IsCheckedBy s c.args.now c.args.origin ds what new) drafts (done s half are it))
    c.give_up.ensures.checked
