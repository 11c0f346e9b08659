use Rattle.std.proofs.Common.{◌≡◌, ◌+◌, ◌-◌, ℕ, List, length, take, drop, sym, ap, ◌∙◌, arith}
use Rattle.std.proofs.Math.Seq.{length-take-le}
use Rattle.std.proofs.lemmas.List.{take_rest}
use Rattle.mq_bytes.specs.Bytes.{AreBytes}
use Rattle.mq_bytes.specs.Crc.{crc_of, crc_more}
use Rattle.mq_bytes.proofs.CrcLaws.{crc_more-of}
use Rattle.record_codec.specs.Layout.{unsealed}
use Rattle.record_codec.proofs.Seals.{bytes_taken, bytes_within, around}
use Rattle.record_codec.proofs.seal.sum_around.Goals as goal

pub slice_bounds-crc32-end : goal.slice_bounds-crc32-end
slice_bounds-crc32-end c = sym (length-take-le 88 c.args.before.now (omega arith))

pub returns : goal.returns
returns c =
    let before = c.args.before.now in
    let body = c.args.body.now in
    let are : AreBytes before = λ i. omega (arith, c.type_inv.before i) in
    let joined = c.crc32_join-joined.ensures (take 88 before) body (bytes_taken 88 before are) (bytes_within before body 88 are c.requires.body)
    c.crc32-front.ensures c.sum.ensures c.shift.ensures in
    let end : 88 + length c.as_slice.result.now ≡ 88 + length body = ap (λ (w : List ℕ). 88 + length w) c.as_slice.ensures in
    let behind : take (length before - (88 + length c.as_slice.result.now)) (drop (88 + length c.as_slice.result.now) before) ≡ drop (88 + length body) before =
    take_rest before (88 + length c.as_slice.result.now) ∙ ap (λ (n : ℕ). drop n before) end in
    let all : c.crc32_more.result ≡ crc_of before =
    c.crc32_more.ensures ∙ ap (crc_more c.crc32_join-joined.result) behind ∙ ap (λ (s : ℕ). crc_more s (drop (88 + length body) before)) joined
    ∙ around before body 88 are c.requires.body in
    c.crc32_more-2.ensures ∙ ap (λ (s : ℕ). crc_more s unsealed) all ∙ crc_more-of before unsealed are
