use Rattle.std.proofs.Common.{◌≡◌, ◌∙◌, ◌*◌, ◌/◌, ℕ, sym, subst, arith}
use Rattle.mq_outside.specs.declared.frozen_ranges.FrozenRanges.{FrozenRanges}
use Rattle.log_opening.specs.Freezes.{ArePieces}
use Rattle.log_opening.proofs.FreezeLemmas.{no_files, whole_and_rest, reached_is_there}
use Rattle.log_opening.proofs.freezing.freeze_log.Goals as goal
use Rattle.log_opening.proofs.freezing.freeze_log.Goals.{then-rest-gt0+in_ok-add_file, else-rest-gt0}

pub add_whole-requires-clause-made : goal.add_whole-requires-clause-made
add_whole-requires-clause-made g c = λ tells k low.
    reached_is_there c.args.segment c.args.end k (g.D.Disk.state c.args.disk.now).reads (omega (arith, c.requires.size.low)) (c.requires.has tells) low

pub add_file-requires-clause-made : goal.add_file-requires-clause-made
add_file-requires-clause-made g c = λ tells low.
    let all = whole_and_rest c.args.segment c.from.result c.from-2.result c.args.end c.from.ensures c.from-2.ensures in
    absurd (let none : ⊥ = omega (arith, all, low) in none)

pub returns-clause-pieces : goal.returns-clause-pieces
returns-clause-pieces g c = λ files reads.
    let T : Type 0 = g.D.Disk.tells in
    let S : ℕ = c.args.segment in
    let end : ℕ = c.args.end in
    let all = whole_and_rest S c.from.result c.from-2.result end c.from.ensures c.from-2.ensures in
    let stands = c.in_ok-add_whole.ensures.pieces files reads (no_files T S files c.new-stored.result c.new-stored.ensures.pieces c.new-stored.ensures.end) in
    elim c.if-rest-gt0.branch [
      | then-rest-gt0+in_ok-add_file w ↦ subst (λ (st : FrozenRanges). ArePieces T S end files st) (sym w.stored-is)
          (subst (λ (n : ℕ). ArePieces T S n files w.add_file.new.stored) all (w.in_ok-add_file.ensures.pieces files (λ tells. (c.add_whole.ensures.rests tells).same ∙ reads tells) stands))
      | else-rest-gt0 w ↦ subst (λ (st : FrozenRanges). ArePieces T S end files st) (sym w.stored-is)
          (subst (λ (n : ℕ). ArePieces T S n files c.add_whole.new.stored) (let to : end / c.from.result * S ≡ end = omega (arith, all, w.if-rest-gt0.false) in to) stands)
    ]
