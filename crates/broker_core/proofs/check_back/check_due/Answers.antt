use Rattle.std.proofs.Common.{ap, subst, ℕ, ◌+◌, List, [], ◌∷◌, Some}
use Rattle.std.proofs.lemmas.Result.{IfOk-weaker}
use Rattle.record_codec.specs.Entry.{Entry}
use Rattle.record_codec.specs.declared.draft.Draft.{Draft}
use Rattle.log_model.specs.Drafts.{renewal_draft, discard_draft, op_draft}
use Rattle.broker_model.specs.Appended.{check_drafts}
use Rattle.broker_model.specs.State.{State}
use Rattle.broker_events.specs.declared.said.Said.{Said}
use Rattle.broker_core.specs.Checks.{IsCheckedBy, IsRenewed, IsGivenUp, IsDueCheck, Checks}
use Rattle.core_log.specs.Represents.{Represents}
use Rattle.broker_core.proofs.DueChecks.{origin_is, renewed_due, renewed_drafts, left_half, given_up_due, left_drafts}
use Rattle.broker_core.proofs.check_back.check_due.Goals as goal

pub renew_due-requires : goal.renew_due-requires
renew_due-requires c =
    let it = c.requires.due in
    record { some = (it.0, it.2.origin, it.1, renewed_due c.args.parts.now it.0 c.args.now c.args.due it.1 it.2 (c.from.result + 1) (ap (λ (k : ℕ). k + 1) c.from.ensures) c.in-None.is) }

pub give_up_due-requires : goal.give_up_due-requires
give_up_due-requires c =
    let it = c.requires.due in
    let core = c.args.parts.now in
    record { some = (it.0, left_half core it.0 c.args.now c.args.due it.1 it.2 c.in-Some.last c.in-Some.is, it.1, given_up_due core it.0 c.args.now c.args.due it.1 it.2 c.in-Some.last c.in-Some.is) }

pub returns-in-None-clause-checked : goal.returns-in-None-clause-checked
returns-in-None-clause-checked c =
    let old = c.args.parts.now in
    let due = c.args.due in
    let new = c.renew_due.new.parts in
    IfOk-weaker c.renew_due.result
    (λ (what : Said). (s : State) (first : Entry) → Represents old s → IsRenewed s c.args.now due.origin (c.from.result + 1) first
    → IsCheckedBy s c.args.now due.origin (renewal_draft s.setup.host (c.from.result + 1) first ∷ []) what new)
    (λ (what : Said). (s : State) → Represents old s → IsDueCheck s c.args.now due → Checks s c.args.now what new)
    (λ what done s are is. record {
      origin = is.origin;
      is = is.is;
      done = subst (λ (n : ℕ). IsCheckedBy s c.args.now n (check_drafts s c.args.now (Some is.origin)) what new) (origin_is old s c.args.now due are is)
          (subst (λ (ds : List Draft). IsCheckedBy s c.args.now due.origin ds what new) (renewed_drafts old s c.args.now due are is (c.from.result + 1) (ap (λ (k : ℕ). k + 1) c.from.ensures) c.in-None.is)
          (done s is.origin are (renewed_due old s c.args.now due are is (c.from.result + 1) (ap (λ (k : ℕ). k + 1) c.from.ensures) c.in-None.is)));
    })
    c.renew_due.ensures.checked

pub returns-in-Some-clause-checked : goal.returns-in-Some-clause-checked
returns-in-Some-clause-checked c =
    let old = c.args.parts.now in
    let due = c.args.due in
    let last = c.in-Some.last in
    let new = c.give_up_due.new.parts in
    IfOk-weaker c.give_up_due.result
    (λ (what : Said). (s : State) (half : Entry) → Represents old s → IsGivenUp s c.args.now due.origin last half
    → IsCheckedBy s c.args.now due.origin (discard_draft s.setup.host half ∷ op_draft s.setup.host c.args.now due.origin ∷ []) what new)
    (λ (what : Said). (s : State) → Represents old s → IsDueCheck s c.args.now due → Checks s c.args.now what new)
    (λ what done s are is. record {
      origin = is.origin;
      is = is.is;
      done = subst (λ (n : ℕ). IsCheckedBy s c.args.now n (check_drafts s c.args.now (Some is.origin)) what new) (origin_is old s c.args.now due are is)
          (subst (λ (ds : List Draft). IsCheckedBy s c.args.now due.origin ds what new) (left_drafts old s c.args.now due are is last c.in-Some.is)
          (done s (left_half old s c.args.now due are is last c.in-Some.is) are (given_up_due old s c.args.now due are is last c.in-Some.is)));
    })
    c.give_up_due.ensures.checked
