use Rattle.std.proofs.Common.{rules, ◌≡◌, ◌<◌, ◌≤◌, refl, ap, sym, ◌∙◌, subst, List, ℕ, max, Bool, true, false, Option, Some, None}
use Rattle.std.specs.Option.{unwrap_or}
use Rattle.std.proofs.lemmas.Result.{IfOk-weaker}
use Rattle.record_codec.specs.Layout.{is_legal}
use Rattle.record_codec.specs.declared.draft.Draft.{Draft}
use Rattle.request_fields.specs.Requests.{SendSaid, KeepsSend, IsFieldName}
use Rattle.request_fields.specs.declared.request.Request.TheVariants.{Send}
use Rattle.client_tables.specs.Counts.{queues_of}
use Rattle.broker_model.specs.State.{State}
use Rattle.broker_model.specs.Refusals.{made_queues}
use Rattle.broker_model.specs.Sends.{is_half_send, level_of, queue_named, plain_draft}
use Rattle.core_log.specs.declared.kind.Kind.{Kind}
use Rattle.broker_core.specs.Kinds.{HasLevel, kind_in, kind_of, draft_by}
use Rattle.broker_events.specs.declared.said.Said.{Said}
use Rattle.made_records.specs.SendRows.{refusal_by}
use Rattle.core_log.specs.Represents.{Represents}
use Rattle.broker_core.specs.Asked.{CarriesRequest}
use Rattle.core_log.specs.Stands.{IsStorable}
use Rattle.broker_core.specs.Stores.{IsSent, IsTarget}
use Rattle.made_records.proofs.RowLemmas.{is_taken}
use Rattle.broker_core.proofs.StorableLemmas.{named_level}
use Rattle.broker_core.proofs.RoomLemmas.{refused_send, made_some, draft_is_storable, carries_sent}
use Rattle.broker_core.proofs.send.send.Goals as goal

pub returns-in-Some-clause-carries : goal.returns-in-Some-clause-carries
returns-in-Some-clause-carries c =
    let core = c.args.parts.now in
    let send : SendSaid = c.args.send.now in
    let known : c.find-known.result ≡ queues_of core.topics send.topic = search rules in
    let row : refusal_by core.setup.segment c.find-known.result send ≡ Some c.in-Some.refusal = sym c.refusal_of.ensures ∙ c.in-Some.is in
    refused_send core c.args.host c.args.now send c.find-known.result c.in-Some.refusal c.in_ok-reply.field-0 known row c.in_ok-reply.ensures

some_first : (half : Bool) (o : Option ℕ) → ((level : ℕ) → o ≡ Some level → 1 ≤ level) → HasLevel (kind_in half o)
some_first true o first = tt
some_first false None first = tt
some_first false (Some level) first = first level refl

pub kept_draft-requires-clause-level : goal.kept_draft-requires-clause-level
kept_draft-requires-clause-level c =
    let send : SendSaid = c.args.send.now in
    subst HasLevel (sym c.kind_of.ensures) (some_first (is_half_send send) (level_of send) (λ level is. (named_level send level is).0))

pub kept_draft-requires-clause-group : goal.kept_draft-requires-clause-group
kept_draft-requires-clause-group c =
    let send : SendSaid = c.args.send.now in
    let keeps : KeepsSend send = subst (λ (u : SendSaid). KeepsSend u) c.send.view_is c.send.invariant in
    let group : c.as_str-3.result.now ≡ send.group = search rules in
    subst IsFieldName (sym group) keeps.group

pub kept_draft-requires-clause-legal : goal.kept_draft-requires-clause-legal
kept_draft-requires-clause-legal c =
    let send : SendSaid = c.args.send.now in
    let none : refusal_by c.args.parts.now.setup.segment c.find-known.result send ≡ None = search rules in
    ap (λ (d : Draft). is_legal d.topic) c.in_ok-message.ensures ∙ (is_taken c.args.parts.now.setup.segment c.find-known.result send none).topic

pub try_store-requires-clause-storable : goal.try_store-requires-clause-storable
try_store-requires-clause-storable c =
    let core = c.args.parts.now in
    let send : SendSaid = c.args.send.now in
    let known : c.find-known.result ≡ queues_of core.topics send.topic = search rules in
    let none : refusal_by core.setup.segment c.find-known.result send ≡ None = search rules in
    let keeps : KeepsSend send = subst (λ (u : SendSaid). KeepsSend u) c.send.view_is c.send.invariant in
    let group : c.as_str-3.result.now ≡ send.group = search rules in
    let draft = c.in_ok-draft.ensures ∙ ap (λ (g : List ℕ). draft_by c.kind_of.result g c.in_ok-message.message) group
    ∙ ap (λ (k : Kind). draft_by k send.group c.in_ok-message.message) c.kind_of.ensures ∙ ap (λ (d : Draft). draft_by (kind_of send) send.group d) c.in_ok-message.ensures in
    subst (λ (k : Kind). IsStorable core.setup.segment k c.in_ok-draft.draft) (sym c.kind_of.ensures)
    (subst (λ (d : Draft). IsStorable core.setup.segment (kind_of send) d) (sym draft)
    (draft_is_storable core c.requires.some.0 core.setup.host c.args.host send c.find-known.result c.requires.some.1 known none keeps))

pub try_store-requires-clause-target : goal.try_store-requires-clause-target
try_store-requires-clause-target c =
    let core = c.args.parts.now in
    let send : SendSaid = c.args.send.now in
    let known : c.find-known.result ≡ queues_of core.topics send.topic = search rules in
    let none : refusal_by core.setup.segment c.find-known.result send ≡ None = search rules in
    let topic : c.as_str-2.result.now ≡ send.topic = search rules in
    let made : c.made_queues.result ≡ made_queues send.default_queues = search rules in
    let fine = is_taken core.setup.segment c.find-known.result send none in
    subst (λ (t : List ℕ). IsTarget core.topics t c.find-known.result c.made_queues.result) (sym topic) (record {
      found = known;
      some = subst (λ (n : ℕ). 0 < n) (sym made) (made_some send.default_queues);
      few = c.made_queues.ensures.few;
      legal = fine.topic;
      plain = fine.own;
    })

pub returns-clause-carries : goal.returns-clause-carries
returns-clause-carries c =
    let core = c.args.parts.now in
    let send : SendSaid = c.args.send.now in
    let new = c.try_store.new.parts in
    let known : c.find-known.result ≡ queues_of core.topics send.topic = search rules in
    let none : refusal_by core.setup.segment c.find-known.result send ≡ None = search rules in
    let topic : c.as_str-2.result.now ≡ send.topic = search rules in
    let made : c.made_queues.result ≡ made_queues send.default_queues = search rules in
    let queue : c.queue_named.result ≡ queue_named send.queue = search rules in
    let group : c.as_str-3.result.now ≡ send.group = search rules in
    let draft = c.in_ok-draft.ensures ∙ ap (λ (g : List ℕ). draft_by c.kind_of.result g c.in_ok-message.message) group
    ∙ ap (λ (k : Kind). draft_by k send.group c.in_ok-message.message) c.kind_of.ensures ∙ ap (λ (d : Draft). draft_by (kind_of send) send.group d) c.in_ok-message.ensures in
    let kept = draft_by (kind_of send) send.group (plain_draft core.setup.host c.args.host send) in
    IfOk-weaker c.try_store.result
    (λ (what : Said). (s : State) → Represents core s
    → IsSent s c.in_ok-draft.draft c.as_str-2.result.now c.queue_named.result (unwrap_or c.find-known.result c.made_queues.result) (max c.args.now s.now) what new)
    (λ (what : Said). CarriesRequest core c.args.host c.args.now (Send send) what new)
    (λ what sent. carries_sent core new c.args.host c.args.now send what c.find-known.result known none
    (λ s are. subst (λ (n : ℕ). IsSent s kept send.topic (queue_named send.queue) (unwrap_or c.find-known.result n) (max c.args.now s.now) what new) made
    (subst (λ (q : ℕ). IsSent s kept send.topic q (unwrap_or c.find-known.result c.made_queues.result) (max c.args.now s.now) what new) queue
    (subst (λ (t : List ℕ). IsSent s kept t c.queue_named.result (unwrap_or c.find-known.result c.made_queues.result) (max c.args.now s.now) what new) topic
    (subst (λ (d : Draft). IsSent s d c.as_str-2.result.now c.queue_named.result (unwrap_or c.find-known.result c.made_queues.result) (max c.args.now s.now) what new) draft (sent s are))))))
    c.try_store.ensures.sent
