use Rattle.std.proofs.Common.{◌≡◌, ℕ, List, length, sym, ◌∙◌, arith}
use Rattle.std.proofs.lemmas.Bool.{and_left, and_right, and_from, cond-true, cond-false, eqb-true, eqb-false, le-ltb, lt-ltb}
use Rattle.record_codec.proofs.WrittenLemmas.{piece_none, piece_pair}
use Rattle.record_codec.proofs.scan.pair_of.Goals as goal
use Rattle.record_codec.proofs.scan.pair_of.Goals.{then-is_empty-via-then-is_empty, then-is_empty-via-else-is_empty+then-not-lacks}

pub returns-in_err-name : goal.returns-in_err-name
returns-in_err-name c = rw c.from_residual.ensures (sym (piece_none c.args.piece.now (sym c.in_err-name.ensures)))

pub returns-then-is_empty : goal.returns-then-is_empty
returns-then-is_empty c =
    let p : List ℕ × List ℕ = (c.in_ok-name.name.now, c.in_ok-name.value.now) in
    let pair = piece_pair c.args.piece.now p (sym c.in_ok-name.ensures) c.requires in
    elim c.then-is_empty.branch [
      | then-is_empty-via-then-is_empty w ↦
          let none : length p.0 ≡ 0 = eqb-true (length p.0) 0 (sym c.is_empty.ensures ∙ w.if-is_empty.true) in
          sym (pair ∙ cond-false _ _ _ (and_left _ _ (le-ltb 0 (length p.0) (omega (arith, none)))))
      | then-is_empty-via-else-is_empty+then-not-lacks w ↦ sym (pair ∙ cond-false _ _ _ (and_right _ _ (sym w.lacks.ensures ∙ w.if-not-lacks.true)))
    ]

pub returns : goal.returns
returns c =
    let p : List ℕ × List ℕ = (c.in_ok-name.name.now, c.in_ok-name.value.now) in
    let pair = piece_pair c.args.piece.now p (sym c.in_ok-name.ensures) c.requires in
    let some : length p.0 ≡ 0 → ⊥ = eqb-false (length p.0) 0 (sym c.is_empty.ensures ∙ c.if-is_empty.false) in
    sym (pair ∙ cond-true _ _ _ (and_from _ _ (lt-ltb 0 (length p.0) (omega (arith, some))) (sym c.lacks.ensures ∙ c.if-not-lacks.false)))
