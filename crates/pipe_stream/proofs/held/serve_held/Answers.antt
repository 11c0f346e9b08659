use Rattle.std.proofs.Common.{◌∙◌, refl}
use Rattle.log_model.proofs.OutsideLemmas.{outside_start, outside_then}
use Rattle.pipe_stream.proofs.HeldLemmas.{heard_strict, held_start, held_more, held_broke, held_ended, held_halted, counts_none, counts_later}
use Rattle.pipe_stream.proofs.held.serve_held.Goals as goal

pub loop-halt-init : goal.loop-halt-init
loop-halt-init g c = record {
  served = held_start _ _ _ _;
  free = c.requires.free;
  inside = c.requires.inside;
  sink = refl;
  clock = refl;
  outside = λ tells. outside_start _;
}

pub returns-in-Err-clause-served : goal.returns-in-Err-clause-served
returns-in-Err-clause-served g c = held_halted _ _ _ _ c.in-Err.halt _ _ _ _ c.loop-halt.invariant.served c.in-Err.ensures

pub returns-in-Err-clause-cause : goal.returns-in-Err-clause-cause
returns-in-Err-clause-cause g c = counts_none c.in-Err.halt _ _ _ _ _ _ c.in-Err.ensures

pub returns-in-Ok-None-clause-served : goal.returns-in-Ok-None-clause-served
returns-in-Ok-None-clause-served g c = held_ended _ _ _ _ _ _ _ _ c.loop-halt.invariant.served (rw c.in-Ok-None.field-0-is at c.in-Ok-None.ensures)

pub returns-in-Err-serve_heard-clause-served : goal.returns-in-Err-serve_heard-clause-served
returns-in-Err-serve_heard-clause-served g c =
    let hears = rw c.in-Ok-Some.field-0-is at c.in-Ok-Some.ensures in
    held_broke _ _ _ _ c.in-Err-serve_heard.stop c.in-Ok-Some.heard _ _ _ _ _ _ c.loop-halt.invariant.served hears
    (c.in-Err-serve_heard.ensures.served hears.frame hears.is hears.request)

pub returns-in-Err-serve_heard-clause-cause : goal.returns-in-Err-serve_heard-clause-cause
returns-in-Err-serve_heard-clause-cause g c =
    counts_later c.in-Err-serve_heard.stop _ _ _ _ _ _ c.loop-halt.invariant.sink c.loop-halt.invariant.clock c.in-Err-serve_heard.ensures.cause

pub returns-in-Err-serve_heard-clause-outside : goal.returns-in-Err-serve_heard-clause-outside
returns-in-Err-serve_heard-clause-outside g c tells = outside_then (c.loop-halt.invariant.outside tells) (c.in-Err-serve_heard.ensures.outside tells)

pub loop-halt-smaller : goal.loop-halt-smaller
loop-halt-smaller g c = let hears = rw c.in-Ok-Some.field-0-is at c.in-Ok-Some.ensures in heard_strict c.in-Ok-Some.heard _ _ hears

pub loop-halt-preserved : goal.loop-halt-preserved
loop-halt-preserved g c =
    let hears = rw c.in-Ok-Some.field-0-is at c.in-Ok-Some.ensures in
    record {
      served = held_more _ _ _ _ c.in-Ok-Some.heard _ _ _ _ _ _ c.loop-halt.invariant.served hears (c.in-Ok.ensures.served hears.frame hears.is hears.request);
      free = c.in-Ok.ensures.free;
      inside = c.in-Ok.ensures.inside;
      sink = c.in-Ok.ensures.cause.0 ∙ c.loop-halt.invariant.sink;
      clock = c.in-Ok.ensures.cause.1 ∙ c.loop-halt.invariant.clock;
      outside = λ tells. outside_then (c.loop-halt.invariant.outside tells) (c.in-Ok.ensures.outside tells);
    }
