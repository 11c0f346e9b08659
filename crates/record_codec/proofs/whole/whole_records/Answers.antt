use Rattle.std.proofs.lemmas.List.{take_rest}
use Rattle.record_codec.specs.Wholes.{size_at}
use Rattle.std.proofs.Common.{ℕ, List, ◌≡◌, ◌+◌, None, Some, sym, ap, subst, ◌∙◌, arith, length-drop}
use Rattle.record_codec.proofs.WholeLemmas.{Left, left_first, left_next, left_last}
use Rattle.record_codec.proofs.whole.whole_records.Goals as goal

pub loop-at-init : goal.loop-at-init
loop-at-init c = left_first c.args.bytes.now c.args.place

pub loop-at-preserved-in-Some : goal.loop-at-preserved-in-Some
loop-at-preserved-in-Some c =
    let fits = c.in-Some.ensures.within in
    left_next c.args.bytes.now c.args.place c.loop-at.count c.loop-at.at (Some c.in-Some.size) c.loop-at.invariant c.loop-at-test.true (ap (λ (b : List ℕ). size_at b (c.args.place + c.loop-at.at)) (sym (take_rest c.args.bytes.now c.loop-at.at)) ∙ sym c.in-Some.ensures.size)
    (omega (arith, fits.0)) (omega (arith, fits.1, length-drop c.loop-at.at c.args.bytes.now, c.loop-at-test.true)) (omega arith)

pub loop-at-preserved : goal.loop-at-preserved
loop-at-preserved c =
    let same : c.loop-at.count + 0 ≡ c.loop-at.count = omega arith in
    subst (λ count. Left c.args.bytes.now c.args.place count (c.loop-at.at + 1)) same
    (left_next c.args.bytes.now c.args.place c.loop-at.count c.loop-at.at None c.loop-at.invariant c.loop-at-test.true (ap (λ (b : List ℕ). size_at b (c.args.place + c.loop-at.at)) (sym (take_rest c.args.bytes.now c.loop-at.at)) ∙ sym c.in-None.ensures.size)
    (omega arith) (omega (arith, c.loop-at-test.true)) (omega arith))

pub returns : goal.returns
returns c = left_last c.args.bytes.now c.args.place c.loop-at.count c.loop-at.at c.loop-at.invariant (omega (arith, c.loop-at-test.false))
