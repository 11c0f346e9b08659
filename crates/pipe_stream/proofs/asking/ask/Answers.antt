use Rattle.std.proofs.Common.{[], refl}
use Rattle.log_model.proofs.OutsideLemmas.{outside_start, outside_then}
use Rattle.pipe_stream.specs.Asking.{AreTries}
use Rattle.worker_turns.proofs.ActLemmas.{acted_none, acted_any, acted_broke}
use Rattle.pipe_stream.proofs.AskLemmas.{tries_more, tries_answered}
use Rattle.pipe_stream.proofs.asking.ask.Goals as goal

pub loop-i-init : goal.loop-i-init
loop-i-init g c = record {
  acted = acted_none _ _ (AreTries c.args.event.now) _ _ ([], refl);
  free = c.requires.free;
  inside = c.requires.inside;
  outside = λ tells. outside_start _;
}

pub loop-i-preserved : goal.loop-i-preserved
loop-i-preserved g c = record {
  acted = tries_more _ _ c.args.event.now _ _ _ _ _ _ c.loop-i.invariant.acted (rw c.in-Ok-None.field-0-is at c.in-Ok-None.ensures.acted);
  free = c.in-Ok-None.ensures.free;
  inside = c.in-Ok-None.ensures.inside;
  outside = λ tells. outside_then (c.loop-i.invariant.outside tells) (c.in-Ok-None.ensures.outside tells);
}

pub returns-in-Err-clause-acted : goal.returns-in-Err-clause-acted
returns-in-Err-clause-acted g c = acted_broke _ _ _ c.in-Err.fault _ _ _ _ _ _ c.loop-i.invariant.acted c.in-Err.ensures.acted

pub returns-in-Ok-Some-clause-acted : goal.returns-in-Ok-Some-clause-acted
returns-in-Ok-Some-clause-acted g c =
    tries_answered _ _ c.args.event.now c.in-Ok-Some.answer _ _ _ _ _ _ c.loop-i.invariant.acted (rw c.in-Ok-Some.field-0-is at c.in-Ok-Some.ensures.acted)

pub returns-clause-acted : goal.returns-clause-acted
returns-clause-acted g c = acted_any _ _ _ _ _ _ _ c.loop-i.invariant.acted

pub returns-in-Err-clause-outside : goal.returns-in-Err-clause-outside
returns-in-Err-clause-outside g c tells = outside_then (c.loop-i.invariant.outside tells) (c.in-Err.ensures.outside tells)

pub returns-in-Ok-Some-clause-outside : goal.returns-in-Ok-Some-clause-outside
returns-in-Ok-Some-clause-outside g c tells = outside_then (c.loop-i.invariant.outside tells) (c.in-Ok-Some.ensures.outside tells)
