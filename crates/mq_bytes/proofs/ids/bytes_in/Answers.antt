use Rattle.std.proofs.Common.{◌+◌, ◌*◌, ◌<◌, ℕ, length, sym, ap, ◌∙◌, arith}
use Rattle.std.proofs.lemmas.List.{length-set, take_all}
use Rattle.std.proofs.lemmas.List.Elements.{All-same}
use Rattle.mq_bytes.specs.Hex.{IsHexDigit}
use Rattle.mq_bytes.specs.Ids.{hex_of}
use Rattle.mq_bytes.proofs.HexLemmas.{byte_more, digits_more}
use Rattle.mq_bytes.proofs.ids.bytes_in.Goals as goal

pub loop-i-preserved : goal.loop-i-preserved
loop-i-preserved c =
    let digits = c.args.digits.now in
    let room : 2 * c.loop-i.i + 1 < length digits = omega arith in (
      omega (arith, length-set {A = ℕ}),
      byte_more digits c.loop-i.byte-items c.loop-i.i c.in_ok-hex_value.field-0 c.in_ok-byte.field-0 (omega arith) room c.in_ok-hex_value.ensures.value c.in_ok-byte.ensures.value c.loop-i.invariant.1,
      digits_more digits c.loop-i.i room c.in_ok-hex_value.ensures.some c.in_ok-byte.ensures.some c.loop-i.invariant.2,
    )

pub returns-clause-some : goal.returns-clause-some
returns-clause-some c =
    let digits = c.args.digits.now in
    let bytes = c.loop-i.byte-items in
    sym (take_all (2 * c.loop-i.i) digits (omega arith)) ∙ sym c.loop-i.invariant.1 ∙ ap hex_of (take_all c.loop-i.i bytes (omega arith))

pub returns-clause-digits : goal.returns-clause-digits
returns-clause-digits c =
    All-same IsHexDigit _ _ (sym (take_all (2 * c.loop-i.i) c.args.digits.now (omega arith))) c.loop-i.invariant.2
