use Rattle.std.proofs.Common.{◌∙◌, [], refl}
use Rattle.log_model.proofs.OutsideLemmas.{outside_start, outside_then}
use Rattle.worker_turns.specs.Turning.{AreOk}
use Rattle.worker_turns.proofs.ActLemmas.{acted_none, acted_as, acted_broke}
use Rattle.worker_turns.specs.declared.broken.Broken.TheVariants.{Misplaced}
use Rattle.worker_turns.proofs.TurningLemmas.{turns_more, turns_idle, turns_failed, any_then}
use Rattle.worker_turns.proofs.turning.flush_all.Goals as goal

pub loop-i-init : goal.loop-i-init
loop-i-init g c = record {
  acted = acted_none _ _ AreOk _ _ ([], refl);
  free = c.requires.free;
  inside = c.requires.inside;
  outside = λ tells. outside_start _;
  faults = refl;
}

pub loop-i-preserved : goal.loop-i-preserved
loop-i-preserved g c = record {
  acted = turns_more _ _ _ _ _ _ _ _ c.loop-i.invariant.acted c.in-Done.ensures.acted;
  free = c.in-Done.ensures.free;
  inside = c.in-Done.ensures.inside;
  outside = λ tells. outside_then (c.loop-i.invariant.outside tells) (c.in-Done.ensures.outside tells);
  faults = c.in-Done.ensures.cause ∙ c.loop-i.invariant.faults;
}

pub returns-in-Idle-clause-acted : goal.returns-in-Idle-clause-acted
returns-in-Idle-clause-acted g c = turns_idle _ _ _ _ _ _ _ _ c.loop-i.invariant.acted c.in-Idle.ensures.acted

pub returns-in-Failed-clause-acted : goal.returns-in-Failed-clause-acted
returns-in-Failed-clause-acted g c = turns_failed _ _ _ _ _ _ _ _ c.in-Failed.count c.loop-i.invariant.acted c.in-Failed.ensures.acted

pub returns-in-Misplaced-clause-acted : goal.returns-in-Misplaced-clause-acted
returns-in-Misplaced-clause-acted g c = acted_broke _ _ AreOk Misplaced _ _ _ _ _ _ c.loop-i.invariant.acted c.in-Misplaced.ensures.acted

pub returns-in-Memory-clause-acted : goal.returns-in-Memory-clause-acted
returns-in-Memory-clause-acted g c = any_then _ _ _ _ _ _ _ _ AreOk _ c.loop-i.invariant.acted c.in-Memory.ensures.acted

pub returns-clause-acted : goal.returns-clause-acted
returns-clause-acted g c = acted_as _ _ AreOk _ _ _ _ _ (λ acts are. tt) c.loop-i.invariant.acted

pub returns-in-Failed-clause-outside : goal.returns-in-Failed-clause-outside
returns-in-Failed-clause-outside g c tells = outside_then (c.loop-i.invariant.outside tells) (c.in-Failed.ensures.outside tells)

pub returns-in-Misplaced-clause-outside : goal.returns-in-Misplaced-clause-outside
returns-in-Misplaced-clause-outside g c tells = outside_then (c.loop-i.invariant.outside tells) (c.in-Misplaced.ensures.outside tells)

pub returns-in-Memory-clause-outside : goal.returns-in-Memory-clause-outside
returns-in-Memory-clause-outside g c tells = outside_then (c.loop-i.invariant.outside tells) (c.in-Memory.ensures.outside tells)
