use Rattle.std.proofs.Common.{◌*◌, ◌≡◌, ◌∙◌, ℕ, Some, ap, take}
use Rattle.mq_bytes.specs.Names.{log_file}
use Rattle.mq_outside.specs.Files.{bytes_of}
use Rattle.log_opening.proofs.FreezeLemmas.{file_added, pieces_same}
use Rattle.log_opening.proofs.freezing.add_file.Goals as goal

pub returns-clause-pieces : goal.returns-clause-pieces
returns-clause-pieces g c = λ files reads are.
    let n : ℕ = c.args.number in
    let S : ℕ = c.args.segment in
    let base : n * c.from.result ≡ n * S = ap (λ (k : ℕ). n * k) c.from.ensures in
    file_added g.D.Disk.tells S n c.args.len files c.reserve.new.self c.push.new.self c.in_ok-piece.piece c.requires.short
    (pieces_same g.D.Disk.tells S (n * S) files c.args.stored.now c.reserve.new.self c.reserve.ensures.pieces c.reserve.ensures.end are)
    (record {
      base = c.in_ok-piece.ensures.range.0 ∙ base;
      from = c.in_ok-piece.ensures.range.1;
      len_is = c.in_ok-piece.ensures.range.2;
      held = λ tells. c.in_ok-piece.ensures.held tells ∙ (λ i. Some (take c.args.len (bytes_of (reads tells i) (log_file (base i)))));
      no_others = c.in_ok-piece.ensures.no_others;
    })
    (record { added = c.push.ensures.added; kept = c.push.ensures.kept; holds = c.push.ensures.holds; end = c.push.ensures.end })
