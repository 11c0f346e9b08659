use Rattle.std.proofs.Common.{arith}
use Rattle.reply_fields.proofs.BodyLemmas.{goes_on-next}
use Rattle.std.proofs.lemmas.Grind.{common_steps}
use Rattle.reply_fields.proofs.body.stretch_from.Goals as goal

pub loop-count-preserved : goal.loop-count-preserved
loop-count-preserved c = record {
  on = goes_on-next c.args.first.now c.args.others.now c.loop-count.count c.loop-count.len c.index-others-count.result c.loop-count-test.true c.index-others-count.is c.loop-count.invariant.len c.loop-count.invariant.on c.in-Some.ensures.on;
  len = grind (arith, common_steps);
}
