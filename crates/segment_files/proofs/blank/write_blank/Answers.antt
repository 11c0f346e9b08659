use Rattle.std.proofs.Common.{◌-◌, ◌+◌, ◌∙◌, ap, refl, subst, arith, List, ℕ, length, replicate, length-append, Some}
use Rattle.std.proofs.lemmas.List.{length-take, length-replicate}
use Rattle.mq_outside.specs.Files.{bytes_of, overwritten}
use Rattle.mq_outside.proofs.Moments.{at_start}
use Rattle.log_model.specs.Store.{Stands}
use Rattle.log_model.proofs.OutsideLemmas.{outside_start, outside_call}
use Rattle.segment_files.proofs.Pieces.{writes_on, blank_next}
use Rattle.record_codec.specs.Blanks.{blank_front}
use Rattle.segment_files.proofs.blank.write_blank.Goals as goal

pub returns-clause-fresh : goal.returns-clause-fresh
returns-clause-fresh g c tells =
    subst (λ (n : ℕ). (g.D.Disk.state c.loop-done.disk).fresh c.args.name.now c.args.at n)
    (omega (arith, length-append (blank_front c.args.size) (replicate (c.args.size - 8) 0), length-replicate {A = ℕ} (c.args.size - 8) 0, c.loop-done.invariant.low, c.loop-done.invariant.within, c.loop-done-test.false, c.from-end.ensures))
    (c.loop-done.invariant.fresh tells)

pub returns-in_err-write_at-clause-any_moment : goal.returns-in_err-write_at-clause-any_moment
returns-in_err-write_at-clause-any_moment g c tells S shape reach behind low each =
    writes_on behind (omega arith) (omega (arith, ap length c.blank_front.ensures, low)) (c.write_at.ensures.moves tells) (at_start _ (Stands S shape reach) each)

pub loop-done-init : goal.loop-done-init
loop-done-init g c = record {
  low = omega arith;
  within = omega arith;
  written = λ tells. c.in_ok-write_at.ensures.written tells
      ∙ ap (λ (l : List ℕ). Some (overwritten c.args.at l (bytes_of (g.D.Disk.state c.args.disk.now).reads c.args.name.now))) c.blank_front.ensures;
  fresh = λ tells. subst (λ (n : ℕ). (g.D.Disk.state c.write_at.new.self).fresh c.args.name.now c.args.at n) (ap length c.blank_front.ensures) (c.in_ok-write_at.ensures.fresh tells).piece;
  any_moment = λ tells S shape reach behind low each.
      writes_on behind (omega arith) (omega (arith, ap length c.blank_front.ensures, low)) (c.write_at.ensures.moves tells) (at_start _ (Stands S shape reach) each);
  outside = λ tells inside. outside_call inside (outside_start (g.D.Disk.state c.args.disk.now)) (c.write_at.ensures.moves tells);
  faults = c.in_ok-write_at.ensures.cause;
  syncs = c.write_at.ensures.syncs;
}

pub returns-in_err-write_at-2-clause-any_moment : goal.returns-in_err-write_at-2-clause-any_moment
returns-in_err-write_at-2-clause-any_moment g c tells S shape reach behind low each =
    writes_on behind (omega arith) (omega (arith, length-take c.min-piece.result c.args.zeros.now, length-replicate {A = ℕ} (c.args.size - 8) 0, low, c.loop-done.invariant.within, c.loop-done.invariant.low, c.min-piece.ensures, c.from-end.ensures, c.loop-done-test.true)) (c.write_at-in-loop-done.ensures.moves tells) (c.loop-done.invariant.any_moment tells S shape reach behind low each)

pub loop-done-preserved : goal.loop-done-preserved
loop-done-preserved g c = record {
  low = omega (arith, c.loop-done.invariant.low);
  within = omega (arith, c.loop-done.invariant.within, c.loop-done.invariant.low, c.min-piece.ensures, c.from-end.ensures, c.loop-done-test.true);
  written = λ tells. blank_next c.args.at c.args.size c.loop-done.done c.min-piece.result c.args.zeros.now (bytes_of (g.D.Disk.state c.args.disk.now).reads c.args.name.now)
      c.requires.zeros (omega (arith, c.min-piece.ensures)) (c.requires.inside tells) c.loop-done.invariant.low (c.loop-done.invariant.written tells) (c.in_ok-write_at-2.ensures.written tells);
  fresh = λ tells. subst (λ (n : ℕ). (g.D.Disk.state c.write_at-in-loop-done.new.self).fresh c.args.name.now c.args.at (c.loop-done.done + n))
      (omega (arith, length-take c.min-piece.result c.args.zeros.now, c.min-piece.ensures))
      ((c.in_ok-write_at-2.ensures.fresh tells).longer c.args.at c.loop-done.done refl (c.loop-done.invariant.fresh tells));
  any_moment = λ tells S shape reach behind low each.
      writes_on behind (omega arith) (omega (arith, length-take c.min-piece.result c.args.zeros.now, length-replicate {A = ℕ} (c.args.size - 8) 0, low, c.loop-done.invariant.within, c.loop-done.invariant.low, c.min-piece.ensures, c.from-end.ensures, c.loop-done-test.true)) (c.write_at-in-loop-done.ensures.moves tells) (c.loop-done.invariant.any_moment tells S shape reach behind low each);
  outside = λ tells inside. outside_call inside (c.loop-done.invariant.outside tells inside) (c.write_at-in-loop-done.ensures.moves tells);
  faults = c.in_ok-write_at-2.ensures.cause ∙ c.loop-done.invariant.faults;
  syncs = c.write_at-in-loop-done.ensures.syncs ∙ c.loop-done.invariant.syncs;
}

pub returns-in_err-write_at-clause-outside : goal.returns-in_err-write_at-clause-outside
returns-in_err-write_at-clause-outside g c tells inside = outside_call inside (outside_start (g.D.Disk.state c.args.disk.now)) (c.write_at.ensures.moves tells)

pub returns-in_err-write_at-2-clause-outside : goal.returns-in_err-write_at-2-clause-outside
returns-in_err-write_at-2-clause-outside g c tells inside = outside_call inside (c.loop-done.invariant.outside tells inside) (c.write_at-in-loop-done.ensures.moves tells)
