use Rattle.std.proofs.Common.{ℕ, List, arith}
use Rattle.remoting_frame.specs.BinaryText.{IsPairOfTexts}
use Rattle.remoting_frame.proofs.BinaryWriting.{pair_fits, pairs_next, all_next, kept_behind, on_err}
use Rattle.remoting_frame.proofs.binary_writer.push_pairs.Goals as goal

pub push_pair-requires-clause-value : goal.push_pair-requires-clause-value
push_pair-requires-clause-value c =
    let fits = pair_fits c.args.pairs.now c.loop-index.index (c.at.result.0.now, c.at.result.1.now) c.at.ensures.field (omega arith) in
    omega (arith, fits, c.requires.size)

pub returns-in_err-push_pair-clause-err : goal.returns-in_err-push_pair-clause-err
returns-in_err-push_pair-clause-err c =
    on_err c.from_residual.result (kept_behind c.args.out.now.items _ c.loop-index.out.items c.push_pair.new.out.items c.loop-index.invariant.so_far c.in_err-push_pair.ensures.err)

pub loop-index-preserved : goal.loop-index-preserved
loop-index-preserved c =
    let pair : List ℕ × List ℕ = (c.at.result.0.now, c.at.result.1.now) in
    record {
      so_far = pairs_next c.args.pairs.now c.loop-index.index pair c.args.out.now.items c.loop-index.out.items c.push_pair.new.out.items c.at.ensures.field (omega arith) c.loop-index.invariant.so_far c.in_ok-push_pair.ensures.ok;
      texts = all_next IsPairOfTexts c.args.pairs.now c.loop-index.index pair c.at.ensures.field (omega arith) c.loop-index.invariant.texts (c.at.ensures.name, c.at.ensures.value);
    }
