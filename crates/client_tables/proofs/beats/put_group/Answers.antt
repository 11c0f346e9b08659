use Rattle.std.proofs.Common.{◌≡◌, ◌∙◌, ◌&&◌, ap, subst, List, not, filter, get_or, length, ◌<◌}
use Rattle.std.specs.Str.{bytes_eq}
use Rattle.request_fields.specs.declared.clients.Subscription.{Subscription}
use Rattle.client_tables.specs.Kept.{goes, in_groups}
use Rattle.client_tables.specs.declared.heard.Said.{Said}
use Rattle.client_tables.proofs.BeatLemmas.{said_on, goes_self, rest_on}
use Rattle.client_tables.proofs.beats.put_group.Goals as goal

pub loop-subscription-preserved : goal.loop-subscription-preserved
loop-subscription-preserved c =
    let client = c.args.client.now in
    let beat = c.args.beat in
    let group = c.args.consumer.now.group in
    let i = c.loop-subscription.subscription-index in
    let s = c.subscription-item.result in
    let said : Said = record { client = client; words = s.words; beat = beat } in
    let low = subst (λ (l : List Subscription). i < length l) c.as_slice-subscription-items.ensures c.loop-subscription-test.true in
    let is = subst (λ (l : List Subscription). s ≡ get_or l i s) c.as_slice-subscription-items.ensures c.subscription-item.is in
    record {
      put = λ g t.
          c.in_ok-put_said.ensures.put g t
          ∙ said_on beat client group g t c.args.consumer.now.subscriptions i s (in_groups c.args.groups.now g t) (in_groups c.loop-subscription.groups g t) low is (c.loop-subscription.invariant.put g t);
      rest = λ g t.
          ap (λ (l : List Said). filter (λ said. not (goes client beat beat said)) l) (c.in_ok-put_said.ensures.put g t)
          ∙ rest_on (λ said. not (goes client beat beat said)) (in_groups c.loop-subscription.groups g t) said (bytes_eq group g && bytes_eq s.topic t) (goes_self client s.words beat)
          ∙ c.loop-subscription.invariant.rest g t;
    }

pub returns-in_err-put_said-clause-rest : goal.returns-in_err-put_said-clause-rest
returns-in_err-put_said-clause-rest c = λ g t.
    ap (λ (l : List Said). filter (λ said. not (goes c.args.client.now c.args.beat c.args.beat said)) l) (c.in_err-put_said.ensures.same g t) ∙ c.loop-subscription.invariant.rest g t
