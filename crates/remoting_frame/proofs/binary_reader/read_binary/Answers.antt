use Rattle.std.proofs.Common.{◌≡◌, ◌+◌, ◌-◌, sym, ◌∙◌, arith, rules}
use Rattle.std.specs.Int.{w32, cast_signed, cast_unsigned}
use Rattle.std.proofs.lemmas.List.{take_rest}
use Rattle.remoting_frame.proofs.BinaryReading.{header_of_parts}
use Rattle.remoting_frame.proofs.BinaryTakes.{binary_takes, read_fits}
use Rattle.remoting_frame.proofs.binary_reader.read_binary.Goals as goal

pub returns-clause-header : goal.returns-clause-header
returns-clause-header c =
    let bytes = c.args.bytes.now in
    let len = c.in-Some.remark_len in
    let of_remark : 17 + len - 17 ≡ len = omega arith in
    let code : cast_signed w32 (cast_unsigned w32 c.i16_at.result) ≡ c.i16_at.result = search rules in
    let version : cast_signed w32 (cast_unsigned w32 c.i16_at-2.result) ≡ c.i16_at-2.result = search rules in
    let opaque : cast_signed w32 (cast_unsigned w32 c.i32_at.result) ≡ c.i32_at.result = search rules in
    let flag : cast_signed w32 (cast_unsigned w32 c.i32_at-2.result) ≡ c.i32_at-2.result = search rules in
    rw (c.of.ensures)
    (header_of_parts bytes len _ _ _ _ _ _ (sym c.in-Some.ensures.len) (rw of_remark at c.in_ok-remark.ensures) (rw (take_rest bytes (21 + len)) at c.in_ok-ext.ensures.pairs) (code ∙ c.i16_at.ensures) (version ∙ c.i16_at-2.ensures) (opaque ∙ c.i32_at.ensures) (flag ∙ c.i32_at-2.ensures))

pub returns-clause-lengths : goal.returns-clause-lengths
returns-clause-lengths c = read_fits c.args.bytes.now _ (binary_takes c.args.bytes.now _ (λ i. omega (arith, c.type_inv.bytes i)) (returns-clause-header c))
