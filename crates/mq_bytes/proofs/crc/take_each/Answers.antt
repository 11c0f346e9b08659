use Rattle.std.proofs.Common.{ℕ, sym, ap, ◌∙◌, get_or}
use Rattle.std.specs.Prelude.{bit_xor}
use Rattle.mq_bytes.specs.Crc.{bits}
use Rattle.mq_bytes.proofs.CrcLemmas.{byte_on}
use Rattle.mq_bytes.proofs.crc.take_each.Goals as goal

pub loop-byte-preserved : goal.loop-byte-preserved
loop-byte-preserved c =
    let bytes = c.args.bytes.now in
    let at = c.loop-byte.byte-index in
    c.take_byte-register.ensures ∙ ap (λ (r : ℕ). bits 8 (bit_xor r (get_or bytes at 0))) c.loop-byte.invariant ∙ sym (byte_on c.args.register bytes at c.loop-byte-test.true)
