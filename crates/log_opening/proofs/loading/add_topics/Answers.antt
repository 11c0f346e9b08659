use Rattle.std.proofs.Common.{◌≡◌, ◌∙◌, ◌++◌, ◌∷◌, [], ap, sym, subst, List, take}
use Rattle.std.proofs.lemmas.List.{take_more}
use Rattle.broker_model.specs.Tables.{TopicRow}
use Rattle.core_log.specs.Loads.{IsLoadedFrom, topic_row}
use Rattle.log_opening.proofs.loading.add_topics.Goals as goal

pub loop-row-preserved : goal.loop-row-preserved
loop-row-preserved c = λ start.
    let topics = c.args.topics.now in
    let n = c.loop-row.row-index in
    let row = c.row-item.result in
    let more = take_more topics n row c.loop-row-test.true ∙ ap (λ (r : TopicRow). take n topics ++ r ∷ []) (sym c.row-item.is) in
    let topic : c.as_str.result.now ≡ row.topic = c.as_str.ensures.value ∙ ap (λ (r : TopicRow). r.topic) c.row.view_is in
    let queues : c.row.inside.queues ≡ row.queues = ap (λ (r : TopicRow). r.queues) c.row.view_is in
    let same : topic_row c.as_str.result.now c.row.inside.queues ≡ row = λ i. topic_row (topic i) (queues i) in
    subst (λ (rows : List TopicRow). IsLoadedFrom rows [] c.add_topic.new.self)
    (ap (λ (r : TopicRow). take n topics ++ r ∷ []) same ∙ sym more)
    (c.in_ok-add_topic.ensures (take n topics) (c.loop-row.invariant start))
