use Rattle.std.proofs.Common.{◌^◌, ◌≤◌, sym, subst, arith}
use Rattle.log_model.specs.Bases.{Base}
use Rattle.log_tests.proofs.replay_tests.no_base.Goals as goal

pub returns : goal.returns
returns c = record {
  levels = λ level. subst (λ (b : Base). b.levels level ≤ 2 ^ 62) (sym c.none.ensures) (omega arith);
  counts = λ topic queue. subst (λ (b : Base). b.queues topic queue ≤ 2 ^ 62) (sym c.none.ensures) (omega arith);
}
