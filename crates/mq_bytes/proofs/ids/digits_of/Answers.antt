use Rattle.std.proofs.Common.{◌≡◌, ◌+◌, ◌*◌, ◌<◌, ℕ, length, subst, sym, ap, ◌∙◌, arith}
use Rattle.std.specs.Str.{IsAscii}
use Rattle.std.proofs.lemmas.List.{length-set, take_all}
use Rattle.mq_bytes.specs.Hex.{hex_digit}
use Rattle.mq_bytes.specs.Ids.{hex_of}
use Rattle.mq_bytes.proofs.HexLemmas.{hex_more, hex_of_is_ascii}
use Rattle.mq_bytes.proofs.ids.digits_of.Goals as goal

pub loop-i-preserved : goal.loop-i-preserved
loop-i-preserved c =
    let room : 2 * c.loop-i.i + 1 < length c.loop-i.digits = omega arith in (
      omega (arith, length-set {A = ℕ}),
      hex_more c.args.bytes.now c.loop-i.digits c.loop-i.i c.hex_digit.result c.hex_digit-in-loop-i.result (omega arith) room c.loop-i.invariant.1
          (c.hex_digit.ensures ∙ ap hex_digit c.from.ensures) (c.hex_digit-in-loop-i.ensures ∙ ap hex_digit c.from-in-loop-i.ensures),
    )

pub returns-clause-value : goal.returns-clause-value
returns-clause-value c =
    let done : 2 * c.loop-i.i ≡ 32 = omega arith in
    sym (take_all (2 * c.loop-i.i) c.loop-i.digits (omega arith)) ∙ c.loop-i.invariant.1 ∙ ap hex_of (take_all c.loop-i.i c.args.bytes.now (omega arith))

pub returns-clause-ascii : goal.returns-clause-ascii
returns-clause-ascii c = subst IsAscii (sym (returns-clause-value c)) (hex_of_is_ascii c.args.bytes.now (λ i. omega arith))
