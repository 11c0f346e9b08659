use Rattle.std.proofs.Common.{◌∙◌, ◌&&◌, ◌+◌, ap, List, not, filter, map}
use Rattle.broker_model.specs.Clients.{ClientRow, with_client, is_among}
use Rattle.request_fields.specs.Clients.{Beat}
use Rattle.client_tables.specs.Kept.{goes, in_groups}
use Rattle.client_tables.specs.Table.{client_of}
use Rattle.client_tables.proofs.HeardLemmas.{beaten, unchanged, taken_back}
use Rattle.client_tables.proofs.clients.Clients.heartbeat.Goals as goal

pub returns-in-Ok-clause-heard : goal.returns-in-Ok-clause-heard
returns-in-Ok-clause-heard c = λ t has.
    let beat = c.args.beat.now in
    let last = c.args.self.now.beats in
    let of_client = c.as_str-client.ensures.value ∙ ap (λ (b : Beat). b.client) c.beat.view_is in
    let of_groups = c.as_slice.ensures ∙ ap (λ (b : Beat). b.consumers) c.beat.view_is in
    let among = is_among (map (λ x. x.group) beat.consumers) in
    record {
      clients = c.in-Ok.ensures.met ∙ ap (λ (l : List ClientRow). with_client c.args.link beat l) has.clients;
      heard = beaten c.args.self.now.heard c.forget_all.new.groups beat.client last among beat.consumers
          (λ g u. c.forget_all.ensures g u
          ∙ (λ j. filter (λ said. not (is_among (map (λ x. x.group) (of_groups j)) g && goes (of_client j) 0 last said)) (c.in-Ok.ensures.put g u j)))
          t.heard has.heard;
    }

pub returns-in-Err-clause-same : goal.returns-in-Err-clause-same
returns-in-Err-clause-same c = λ t has.
    let beat = c.args.beat.now in
    let last = c.args.self.now.beats in
    let of_client = c.as_str-client.ensures.value ∙ ap (λ (b : Beat). b.client) c.beat.view_is in
    record {
      clients = ap (map client_of) c.in-Err.ensures.same ∙ has.clients;
      heard = unchanged c.args.self.now.heard c.forget.new.groups beat.client last
          (λ g u. c.forget.ensures g u ∙ (λ j. filter (λ said. not (goes (of_client j) (last + 1) (last + 1) said)) (in_groups c.try_beat.new.heard g u))
          ∙ c.try_beat.ensures.rest g u ∙ taken_back beat.client last (in_groups c.args.self.now.heard g u) (has.heard g u).1) t.heard has.heard;
    }
