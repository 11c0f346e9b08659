use Rattle.std.proofs.Common.{◌∙◌, ◌&&◌, ap, sym, Bool, not, filter, map, take}
use Rattle.std.specs.Str.{bytes_eq}
use Rattle.broker_model.specs.Clients.{is_among}
use Rattle.request_fields.specs.declared.clients.Consumer.{Consumer}
use Rattle.client_tables.specs.Kept.{goes, in_groups}
use Rattle.client_tables.proofs.BeatLemmas.{left_on}
use Rattle.client_tables.proofs.ListLemmas.{any_map_more, filter_all}
use Rattle.client_tables.proofs.beats.forget_all.Goals as goal

pub loop-consumer-preserved : goal.loop-consumer-preserved
loop-consumer-preserved c = λ g t.
    let i = c.loop-consumer.consumer-index in
    let consumers = c.args.consumers.now in
    let item = c.consumer-item.result in
    let test = goes c.args.client.now 0 c.args.last in
    let was = in_groups c.args.groups.now g t in
    c.forget_in.ensures g t
    ∙ (λ j. filter (λ said. not (bytes_eq (c.as_str.ensures.value j) g && test said)) (c.loop-consumer.invariant g t j))
    ∙ left_on (is_among (map (λ x. x.group) (take i consumers)) g) (bytes_eq item.group g) test was
    ∙ ap (λ (b : Bool). filter (λ said. not (b && test said)) was) (sym (any_map_more (λ other. bytes_eq other g) (λ (x : Consumer). x.group) consumers i item c.loop-consumer-test.true c.consumer-item.is))

pub loop-consumer-init : goal.loop-consumer-init
loop-consumer-init c = λ g t. sym (filter_all (in_groups c.args.groups.now g t))
