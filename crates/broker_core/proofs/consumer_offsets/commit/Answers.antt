use Rattle.std.proofs.Common.{◌≡◌, ◌∙◌, ap, sym, subst, arith, ℕ, List}
use Rattle.request_fields.specs.Clients.{IsName}
use Rattle.request_fields.specs.Requests.{PullSaid, KeepsPull}
use Rattle.broker_core.proofs.GroupLemmas.{name_of_field, commit_stored, commit_none}
use Rattle.broker_core.proofs.consumer_offsets.commit.Goals as goal

pub store_offset-requires-clause-group : goal.store_offset-requires-clause-group
store_offset-requires-clause-group c =
    let keeps : KeepsPull c.args.asked.now = subst (λ (x : PullSaid). KeepsPull x) c.asked.view_is c.asked.invariant in
    let group : c.as_str.result.now ≡ c.args.asked.now.group = c.as_str.ensures.value ∙ ap (λ (x : PullSaid). x.group) c.asked.view_is in
    subst (λ (name : List ℕ). IsName name) (sym group) (name_of_field c.args.asked.now.group keeps.group)

pub store_offset-requires-clause-queue : goal.store_offset-requires-clause-queue
store_offset-requires-clause-queue c =
    let keeps : KeepsPull c.args.asked.now = subst (λ (x : PullSaid). KeepsPull x) c.asked.view_is c.asked.invariant in
    let queue : c.asked.inside.queue ≡ c.args.asked.now.queue = ap (λ (x : PullSaid). x.queue) c.asked.view_is in
    let low = keeps.queue in
    omega (arith, low, queue)

pub returns-in-Some-clause-stored : goal.returns-in-Some-clause-stored
returns-in-Some-clause-stored c =
    let q = c.args.asked.now in
    commit_stored c.args.parts.now c.store_offset.new.parts q c.as_str.result.now c.as_str-in-Some.result.now c.asked.inside.queue c.in-Some.offset c.store_offset.result
    (c.as_str.ensures.value ∙ ap (λ (x : PullSaid). x.group) c.asked.view_is)
    (c.as_str-in-Some.ensures.value ∙ ap (λ (x : PullSaid). x.topic) c.asked.view_is)
    (ap (λ (x : PullSaid). x.queue) c.asked.view_is)
    (sym c.committed.ensures ∙ c.in-Some.is) c.store_offset.ensures.stored

pub returns-in-None-clause-stored : goal.returns-in-None-clause-stored
returns-in-None-clause-stored c s are legal = commit_none c.args.parts.now c.args.asked.now s (sym c.committed.ensures ∙ c.in-None.is) are
