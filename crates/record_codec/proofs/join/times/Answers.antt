use Rattle.std.proofs.Common.{◌≡◌, ℕ, ◌+◌, ◌-◌, refl, sym, ap, ◌∙◌, arith}
use Rattle.std.specs.Prelude.{bit_xor}
use Rattle.mq_bytes.specs.Crc.{bits, bit_out}
use Rattle.record_codec.proofs.JoinLemmas.{product, product-shift, term, term-even, term-odd, bits-on, with_rest, with_rest-first, with_rest-last, with_rest-on}
use Rattle.record_codec.proofs.join.times.Goals as goal
use Rattle.record_codec.proofs.join.times.Goals.{then-register-power-eq0, else-register-power-eq0}

pub loop-power-init : goal.loop-power-init
unfolding bits
loop-power-init c = record { moved = refl; said = with_rest-first 32 c.args.register c.args.shift }

pub loop-power-preserved : goal.loop-power-preserved
loop-power-preserved c =
    let k = c.loop-power.power in
    let r = c.args.register in
    let q = c.args.shift in
    let held = c.loop-power.invariant in
    let due = bits k (term (32 - 1 - k) r q) in
    let added : c.if-register-power-eq0.term ≡ due =
    elim c.if-register-power-eq0.branch [
      | then-register-power-eq0 w ↦ w.term-is ∙ sym (term-even k (31 - k) r q w.if-register-power-eq0.true)
      | else-register-power-eq0 w ↦ w.term-is ∙ held.moved ∙ sym (term-odd k (31 - k) r q w.if-register-power-eq0.false)
    ] in
    record {
      moved = c.step-moved.ensures ∙ ap bit_out held.moved ∙ sym (bits-on k q);
      said = ap (λ (t : ℕ). with_rest (bit_xor c.loop-power.sum t) (k + 1) (32 - (k + 1)) r q) added
          ∙ sym (with_rest-on c.loop-power.sum k 32 r q c.loop-power-test.true) ∙ held.said;
    }

pub returns : goal.returns
returns c = λ n is.
    let r = c.args.register in
    let q = c.args.shift in
    let held = c.loop-power.invariant in
    let none : 0 ≡ 32 - c.loop-power.power = omega arith in
    sym (with_rest-last c.loop-power.sum c.loop-power.power r q)
    ∙ ap (λ (n : ℕ). with_rest c.loop-power.sum c.loop-power.power n r q) none
    ∙ held.said ∙ ap (product 32 r) is ∙ product-shift n r (omega arith)
