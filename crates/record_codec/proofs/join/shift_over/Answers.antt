use Rattle.std.proofs.Common.{◌≡◌, ℕ, ◌+◌, ◌*◌, ◌/◌, ◌%◌, ◌^◌, ◌≤◌, refl, sym, ap, ◌∙◌, arith}
use Rattle.std.proofs.lemmas.Grind.{pow_more}
use Rattle.record_codec.specs.Join.{shift_of}
use Rattle.record_codec.proofs.ShiftLemmas.{digit_done}
use Rattle.record_codec.proofs.join.shift_over.Goals as goal
use Rattle.record_codec.proofs.join.shift_over.Goals.{then-rest-ne0, else-rest-ne0}

pub loop-rest-init : goal.loop-rest-init
loop-rest-init c = (0, refl, omega arith, omega arith)

pub loop-rest-preserved : goal.loop-rest-preserved
loop-rest-preserved c =
    let held = c.loop-rest.invariant in
    let rest = c.loop-rest.rest in
    let row = c.loop-rest.row in
    let w = 16 ^ row in
    let here = rest % 16 * w in
    let nothing_here : rest % 16 ≡ 0 → held.0 ≡ held.0 + here =
    λ none.
    let zero : here ≡ 0 * w = ap (λ (d : ℕ). d * w) none in
    omega (arith, zero) in
    let shift : c.if-rest-ne0.shift ≡ shift_of (held.0 + here) =
    elim c.if-rest-ne0.branch [
      | then-rest-ne0 s ↦ s.shift-is ∙ s.both-shift.ensures held.0 here held.1 s.shift_at.ensures
      | else-rest-ne0 s ↦ s.shift-is ∙ held.1 ∙ ap shift_of (nothing_here s.if-rest-ne0.false)
    ] in
    let done = digit_done held.0 rest w c.args.len held.2 in
    let total : held.0 + here + rest / 16 * 16 ^ (row + 1) ≡ c.args.len =
    ap (λ (v : ℕ). held.0 + here + rest / 16 * v) (pow_more 16 row) ∙ done in
    let smaller : row + 1 + rest / 16 ≤ c.args.len = omega (arith, held.3, c.loop-rest-test.true) in
    (held.0 + here, shift, total, smaller)

pub returns : goal.returns
returns c =
    let held = c.loop-rest.invariant in
    let none : 0 ≡ 0 * 16 ^ c.loop-rest.row = omega arith in
    let left : 0 ≡ c.loop-rest.rest * 16 ^ c.loop-rest.row = none ∙ ap (λ (r : ℕ). r * 16 ^ c.loop-rest.row) (sym c.loop-rest-test.false) in
    let all : held.0 ≡ c.args.len = omega (arith, held.2, left) in
    held.1 ∙ ap shift_of all
