use Rattle.std.proofs.Common.{◌≡◌, ℕ, ◌+◌, ◌<◌, take, get_or, refl, sym, ap, ◌∙◌, arith}
use Rattle.std.specs.Prelude.{bit_xor}
use Rattle.std.proofs.Math.Seq.{take_all}
use Rattle.mq_bytes.specs.Crc.{crc_from}
use Rattle.mq_bytes.specs.Tables.{after}
use Rattle.mq_bytes.proofs.WordLemmas.{word_at, braided-first, braided-on, braided-joined, block_on}
use Rattle.mq_bytes.proofs.crc.take_blocks.Goals as goal

pub loop-at-init : goal.loop-at-init
loop-at-init c = record { within = omega arith; whole = refl; said = braided-first c.args.register }

pub loop-at-preserved : goal.loop-at-preserved
loop-at-preserved c =
    let l = c.loop-at in
    let bytes = c.args.bytes.now in
    let fits : (i : ℕ) → get_or bytes i 0 < 256 = λ i. omega (arith, c.type_inv.bytes i) in
    let block = block_on c.args.register l.a l.b l.c l.d bytes l.at l.invariant.within fits l.invariant.said in
    let on = braided-on (bit_xor l.a (word_at bytes l.at)) (bit_xor l.b (word_at bytes (l.at + 4))) (bit_xor l.c (word_at bytes (l.at + 8))) (bit_xor l.d (word_at bytes (l.at + 12))) in
    record {
      within = omega arith;
      whole = omega arith;
      said = rw (c.past_16-a.ensures, c.word.ensures, c.past_16-b.ensures, c.word-in-loop-at.ensures, c.past_16-c.ensures, c.word-in-loop-at-2.ensures, c.past_16-d.ensures, c.word-in-loop-at-3.ensures) (ap (after 16) block ∙ on);
    }

pub returns : goal.returns
returns c =
    let l = c.loop-at in
    let bytes = c.args.bytes.now in
    let fits : (i : ℕ) → get_or bytes i 0 < 256 = λ i. omega (arith, c.type_inv.bytes i) in
    let block = block_on c.args.register l.a l.b l.c l.d bytes l.at l.invariant.within fits l.invariant.said in
    let joined = braided-joined (bit_xor l.a (word_at bytes l.at)) (bit_xor l.b (word_at bytes (l.at + 4))) l.c (bit_xor l.d (word_at bytes (l.at + 12))) (word_at bytes (l.at + 8)) in
    let all : take (l.at + 16) bytes ≡ bytes = take_all (l.at + 16) bytes (omega arith) in
    rw (c.past_8-2.ensures, c.past_8.ensures, c.word-2.ensures, c.past_4.ensures, c.word-3.ensures, c.word-4.ensures, c.past_4-2.ensures, c.word-5.ensures)
    (joined ∙ sym block ∙ ap (crc_from c.args.register) all)
