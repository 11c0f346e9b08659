use Rattle.std.proofs.Common.{◌∙◌, List, refl, sym, ap, subst}
use Rattle.half_records.specs.declared.halves.Halves.{Halves}
use Rattle.half_view.specs.Halves.{HalfTable}
use Rattle.half_view.specs.OfLog.{AreHalvesOf}
use Rattle.level_records.specs.declared.levels.Levels.{Levels}
use Rattle.delay_view.specs.Levels.{Level}
use Rattle.delay_view.specs.OfLog.{AreLevelsOf}
use Rattle.gen_run.proofs.SumLemmas.{delayed_all, four_as, queue_seen}
use Rattle.gen_run.proofs.counting.summary_of.Goals as goal

pub returns : goal.returns
returns c s are all =
    let halves = subst (λ (t : HalfTable). AreHalvesOf s.log t) (sym (c.table-halves.ensures ∙ ap (λ (h : Halves). h.view) c.halves.ensures)) are.halves.view in
    let levels = subst (λ (l : List Level). AreLevelsOf s.log s.dispatched l) (sym (c.table-levels.ensures ∙ ap (λ (l : Levels). l.view) c.levels.ensures)) are.levels.view in
    record {
      items_are = refl;
      start_is = refl;
      records = (c.counts.ensures s are).records;
      queues = four_as (queue_seen s 0 _ all (c.count_queue.ensures s are)) (queue_seen s 1 _ all (c.count_queue-2.ensures s are)) (queue_seen s 2 _ all (c.count_queue-3.ensures s are))
          (queue_seen s 3 _ all (c.count_queue-4.ensures s are));
      halves = c.end.ensures.records s.setup.segment s.log are.state.log halves;
      committed = c.count_origins.ensures s.setup.segment s.log are.state.log halves;
      rolled_back = c.count_origins-2.ensures s.setup.segment s.log are.state.log halves;
      left_open = c.count_origins-3.ensures s.setup.segment s.log are.state.log halves;
      delayed = delayed_all s c.max.result all (c.max.ensures.records s.log s.dispatched levels);
      delivered = c.progress.ensures.records s.log s.dispatched levels;
      found_is = refl;
    }
