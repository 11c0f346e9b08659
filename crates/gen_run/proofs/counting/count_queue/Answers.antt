use Rattle.std.proofs.Common.{◌∙◌, List, codes, slice_get, sym, ap}
use Rattle.queue_view.specs.Tables.{Table, number_of}
use Rattle.core_log.proofs.SeenLemmas.{max_found, max_unknown}
use Rattle.gen_run.proofs.counting.count_queue.Goals as goal

pub returns-in-Some : goal.returns-in-Some
returns-in-Some c s are =
    max_found c.args.core.now s (codes "gen") c.args.queue c.in-Some.table c.max.result are
    (ap (λ (queues : List Table). number_of queues (codes "gen") c.args.queue) (sym c.queues-queues.ensures) ∙ sym c.find.ensures ∙ c.in-Some.is)
    (λ t at. c.max.ensures.table t (ap (λ (queues : List Table). slice_get queues c.in-Some.table) c.queues-queues.ensures ∙ at))

pub returns-in-None : goal.returns-in-None
returns-in-None c s are =
    max_unknown c.args.core.now s (codes "gen") c.args.queue are
    (ap (λ (queues : List Table). number_of queues (codes "gen") c.args.queue) (sym c.queues-queues.ensures) ∙ sym c.find.ensures ∙ c.in-None.is)
