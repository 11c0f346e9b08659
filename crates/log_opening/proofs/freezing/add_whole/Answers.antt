use Rattle.std.proofs.Common.{◌≡◌, ◌∙◌, ◌+◌, ◌*◌, ℕ, List, length, Option, IsSome, refl, sym, subst, ap, arith}
use Rattle.mq_bytes.specs.Names.{log_file}
use Rattle.mq_outside.specs.Files.{Files, bytes_of}
use Rattle.mq_outside.proofs.Moments.{rests_start, rests_then}
use Rattle.log_model.specs.Bases.{whole}
use Rattle.log_model.specs.Segments.{segment_file}
use Rattle.log_opening.specs.Freezes.{ArePieces}
use Rattle.log_opening.proofs.FreezeLemmas.{segments_low, one_more}
use Rattle.log_opening.proofs.freezing.add_whole.Goals as goal

pub loop-i-init : goal.loop-i-init
loop-i-init g c = record {
  pieces = λ files reads are. subst (λ (n : ℕ). ArePieces g.D.Disk.tells c.args.segment n files c.args.stored.now) (let none : 0 ≡ 0 * c.args.segment = omega arith in none) are;
  end = omega (arith, c.requires.none);
  rests = λ tells. rests_start _;
  faults = refl;
  syncs = omega arith;
}

pub add_file-requires-clause-behind : goal.add_file-requires-clause-behind
add_file-requires-clause-behind g c = c.loop-i.invariant.end

pub add_file-requires-clause-low : goal.add_file-requires-clause-low
add_file-requires-clause-low g c = omega (arith, segments_low c.args.segment c.loop-i.i c.args.count c.loop-i-test.true, c.requires.low, c.from.ensures)

pub add_file-requires-clause-within : goal.add_file-requires-clause-within
add_file-requires-clause-within g c = λ tells.
    let long = c.requires.within tells c.loop-i.i c.loop-i-test.true in
    let same = ap (λ (f : Files). length (bytes_of f (segment_file (whole c.args.segment) c.loop-i.i))) (c.loop-i.invariant.rests tells).same in
    omega (arith, long, same, c.from.ensures)

pub add_file-requires-clause-made : goal.add_file-requires-clause-made
add_file-requires-clause-made g c = λ tells low.
    let S : ℕ = c.args.segment in
    let to : c.loop-i.i * S + c.from.result ≡ (c.loop-i.i + 1) * S = ap (λ (k : ℕ). c.loop-i.i * S + k) c.from.ensures ∙ one_more S c.loop-i.i in
    let there = c.requires.made tells (c.loop-i.i + 1) (omega (arith, low, to)) in
    let same = ap (λ (f : Files). f (segment_file (whole S) (c.loop-i.i + 1))) (c.loop-i.invariant.rests tells).same in
    subst (λ (n : ℕ). IsSome ((g.D.Disk.state c.loop-i.disk).reads (log_file n))) (sym to) (subst (λ (file : Option (List ℕ)). IsSome file) (sym same) there)

pub loop-i-preserved : goal.loop-i-preserved
loop-i-preserved g c =
    let S : ℕ = c.args.segment in
    let i : ℕ = c.loop-i.i in
    let to : i * S + c.from.result ≡ (i + 1) * S = ap (λ (k : ℕ). i * S + k) c.from.ensures ∙ one_more S i in
    record {
      pieces = λ files reads are. subst (λ (n : ℕ). ArePieces g.D.Disk.tells S n files c.add_file.new.stored) to
          (c.in_ok-add_file.ensures.pieces files (λ tells. (c.loop-i.invariant.rests tells).same ∙ reads tells) (c.loop-i.invariant.pieces files reads are));
      end = omega (arith, c.in_ok-add_file.ensures.end, to);
      rests = λ tells. rests_then (c.loop-i.invariant.rests tells) (c.add_file.ensures.rests tells);
      faults = c.in_ok-add_file.ensures.cause ∙ c.loop-i.invariant.faults;
      syncs = omega (arith, c.add_file.ensures.syncs, c.loop-i.invariant.syncs);
    }

pub returns-clause-pieces : goal.returns-clause-pieces
returns-clause-pieces g c = λ files reads are.
    let all : c.loop-i.i ≡ c.args.count = omega (arith, c.loop-i-test.false, c.loop-i.auto.i-end) in
    subst (λ (n : ℕ). ArePieces g.D.Disk.tells c.args.segment (n * c.args.segment) files c.loop-i.stored) all (c.loop-i.invariant.pieces files reads are)
