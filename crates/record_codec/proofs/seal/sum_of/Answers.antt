use Rattle.std.proofs.Common.{ap, ◌∙◌, arith, ℕ}
use Rattle.mq_bytes.specs.Crc.{crc_more}
use Rattle.mq_bytes.proofs.CrcLaws.{crc_more-of}
use Rattle.record_codec.specs.Layout.{unsealed}
use Rattle.record_codec.proofs.seal.sum_of.Goals as goal

pub returns : goal.returns
returns c = c.crc32_more.ensures ∙ ap (λ (s : ℕ). crc_more s unsealed) c.crc32.ensures ∙ crc_more-of c.args.before.now unsealed (λ i. omega (arith, c.type_inv.before i))
