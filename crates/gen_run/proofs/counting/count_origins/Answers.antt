use Rattle.std.proofs.Common.{◌≡◌, ◌∙◌, ℕ, refl, subst, arith}
use Rattle.gen_run.specs.Sums.{CountsOrigins}
use Rattle.gen_run.proofs.SumLemmas.{counts_more}
use Rattle.gen_run.proofs.counting.count_origins.Goals as goal

pub loop-half-init : goal.loop-half-init
loop-half-init c = record { counts = λ segment log well halves. refl; few = omega arith }

pub loop-half-preserved : goal.loop-half-preserved
loop-half-preserved c = record {
  counts = λ segment log well halves.
      counts_more log.records c.args.state c.loop-half.half c.loop-half.count c.count_origin-count.result (c.loop-half.invariant.counts segment log well halves) (c.count_origin-count.ensures.counts segment log well halves);
  few = omega (arith, c.loop-half.invariant.few, c.count_origin-count.ensures.few);
}

pub returns : goal.returns
returns c segment log well halves =
    let whole : c.loop-half.half ≡ c.end-half-end.result = omega arith in
    subst (λ (n : ℕ). CountsOrigins log.records c.args.state n c.loop-half.count) (whole ∙ c.end-half-end.ensures.records segment log well halves) (c.loop-half.invariant.counts segment log well halves)
