use Rattle.std.proofs.Common.{◌∙◌, ◌+◌, take, sym, ap}
use Rattle.log_model.specs.Told.{counts_in}
use Rattle.log_replay.proofs.Rows.{count_more}
use Rattle.log_replay.proofs.queues.removed.Goals as goal

pub loop-row-preserved : goal.loop-row-preserved
loop-row-preserved c =
    let topic = c.args.topic.now in
    let queue = c.args.queue in
    let i = c.loop-row.row-index in
    let same = c.deref-row-items.ensures.value in
    c.count_in-count.ensures
    ∙ count_more c.deref-row-items.result.now i c.row-item.result topic queue c.loop-row.count c.loop-row-test.true c.row-item.is
    (c.loop-row.invariant ∙ sym (ap (λ rows. counts_in (take i rows) topic queue) same))
    ∙ ap (λ rows. counts_in (take (i + 1) rows) topic queue) same
