use Rattle.std.proofs.Common.{◌∙◌, refl, arith}
use Rattle.log_model.proofs.OutsideLemmas.{outside_start, outside_then}
use Rattle.worker_turns.proofs.ActLemmas.{acted_none}
use Rattle.gen_run.specs.Rounds.{AreItems}
use Rattle.gen_run.proofs.RoundLemmas.{items_none, more_acted, some_acted}
use Rattle.gen_run.proofs.giving.give_items.Goals as goal

pub loop-item-init : goal.loop-item-init
loop-item-init g c = record {
  acted = acted_none _ _ (AreItems c.args.start 0 0) _ _ (items_none c.args.start);
  few = omega arith;
  free = c.requires.free;
  inside = c.requires.inside;
  outside = λ tells. outside_start _;
  faults = refl;
}

pub loop-item-preserved : goal.loop-item-preserved
loop-item-preserved g c = record {
  acted = more_acted _ _ c.args.start c.loop-item.item c.loop-item.found c.in-Ok.more _ _ _ _ _ _ c.loop-item.invariant.acted c.in-Ok.ensures.acted;
  few = omega (arith, c.loop-item.invariant.few, c.in-Ok.ensures.few);
  free = c.in-Ok.ensures.free;
  inside = c.in-Ok.ensures.inside;
  outside = λ tells. outside_then (c.loop-item.invariant.outside tells) (c.in-Ok.ensures.outside tells);
  faults = c.in-Ok.ensures.cause ∙ c.loop-item.invariant.faults;
}

pub returns-in-Err-clause-acted : goal.returns-in-Err-clause-acted
returns-in-Err-clause-acted g c = some_acted _ _ c.args.start c.loop-item.item c.args.items c.loop-item.found _ _ _ _ _ _ _ (omega arith) c.loop-item.invariant.acted c.in-Err.ensures.acted

pub returns-in-Err-clause-outside : goal.returns-in-Err-clause-outside
returns-in-Err-clause-outside g c tells = outside_then (c.loop-item.invariant.outside tells) (c.in-Err.ensures.outside tells)
