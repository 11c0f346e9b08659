use Rattle.std.proofs.Common.{arith}
use Rattle.loop_threads.proofs.KeepingUp.{keeps_start, keeps_more}
use Rattle.loop_threads.proofs.KeepingUp.{disk_grows}
use Rattle.loop_threads.proofs.keeper.keep_up.Goals as goal

pub loop-init : goal.loop-init
loop-init g c = record {
  next = tt;
  finite = tt;
  has = λ tells. tt;
  kept = keeps_start _ _ _ _;
  grow = omega arith;
}

pub loop-preserved : goal.loop-preserved
loop-preserved g c = record {
  next = tt;
  finite = tt;
  has = c.keeper_turn.ensures.has;
  kept = keeps_more _ _ _ _ _ _ _ _ _ c.loop.invariant.kept c.keeper_turn.ensures.kept;
  grow = omega (arith, c.loop.invariant.grow, disk_grows c.keeper_turn.result _ _ c.keeper_turn.ensures.cause);
}
