use Rattle.std.proofs.Common.{◌∙◌, subst, arith, ℕ}
use Rattle.std.proofs.lemmas.List.{length-take}
use Rattle.log_model.proofs.OutsideLemmas.{outside_call}
use Rattle.segment_files.specs.Turn.{HasZeros}
use Rattle.segment_files.proofs.Pieces.{writes_on, zeros_next}
use Rattle.segment_files.proofs.zeros.write_zeros.Goals as goal

pub returns-in_err-write_at-clause-any_moment : goal.returns-in_err-write_at-clause-any_moment
returns-in_err-write_at-clause-any_moment g c tells S shape reach behind low each =
    writes_on behind c.loop-done.invariant.low (omega (arith, length-take c.min-piece.result c.args.zeros.now, low, c.min-piece.ensures, c.loop-done.invariant.within, c.loop-done-test.true))
    (c.write_at.ensures.moves tells) (c.loop-done.invariant.any_moment tells S shape reach behind low each)

pub returns-in_err-write_at-clause-outside : goal.returns-in_err-write_at-clause-outside
returns-in_err-write_at-clause-outside g c tells inside = outside_call inside (c.loop-done.invariant.outside tells inside) (c.write_at.ensures.moves tells)

pub loop-done-preserved : goal.loop-done-preserved
loop-done-preserved g c = record {
  low = omega (arith, c.loop-done.invariant.low);
  within = omega (arith, c.loop-done.invariant.within, c.min-piece.ensures, c.loop-done-test.true);
  written = λ tells.
      subst (λ (n : ℕ). HasZeros c.args.name.now c.args.at n (g.D.Disk.state c.args.disk.now) (g.D.Disk.state c.write_at.new.self)) (omega (arith, c.loop-done.invariant.low))
      (zeros_next c.min-piece.result c.args.zeros.now (omega (arith, c.loop-done.invariant.low)) c.requires.zeros (omega (arith, c.min-piece.ensures)) (c.requires.inside tells)
      (c.loop-done.invariant.written tells) (c.in_ok-write_at.ensures.written tells) (c.in_ok-write_at.ensures.fresh tells));
  any_moment = λ tells S shape reach behind low each.
      writes_on behind c.loop-done.invariant.low (omega (arith, length-take c.min-piece.result c.args.zeros.now, low, c.min-piece.ensures, c.loop-done.invariant.within, c.loop-done-test.true))
      (c.write_at.ensures.moves tells) (c.loop-done.invariant.any_moment tells S shape reach behind low each);
  outside = λ tells inside. outside_call inside (c.loop-done.invariant.outside tells inside) (c.write_at.ensures.moves tells);
  faults = c.in_ok-write_at.ensures.cause ∙ c.loop-done.invariant.faults;
  syncs = c.write_at.ensures.syncs ∙ c.loop-done.invariant.syncs;
}
