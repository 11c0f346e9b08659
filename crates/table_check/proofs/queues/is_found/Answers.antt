use Rattle.std.proofs.Common.{◌∙◌, sym}
use Rattle.table_check.proofs.QueueLemmas.{found_as, found_none, number_as}
use Rattle.queue_view.specs.Tables.{number_of}
use Rattle.table_check.proofs.queues.is_found.Goals as goal

pub returns-in-Some : goal.returns-in-Some
returns-in-Some c t at =
    let tables = c.args.queues.now in
    found_as (number_of tables t.topic t.queue) c.in-Some.found c.args.table
    (sym (number_as tables c.topic.result.now t.topic c.queue.result t.queue (c.topic.ensures t at) (c.queue.ensures t at)) ∙ sym c.find.ensures ∙ c.in-Some.is)

pub returns-in-None : goal.returns-in-None
returns-in-None c t at =
    let tables = c.args.queues.now in
    found_none (number_of tables t.topic t.queue) c.args.table
    (sym (number_as tables c.topic.result.now t.topic c.queue.result t.queue (c.topic.ensures t at) (c.queue.ensures t at)) ∙ sym c.find.ensures ∙ c.in-None.is)
