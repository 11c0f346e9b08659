use Rattle.std.proofs.Common.{arith, sym}
use Rattle.mq_bytes.proofs.CrcLemmas.{in_two}
use Rattle.mq_bytes.proofs.WordLemmas.{word_on}
use Rattle.mq_bytes.proofs.crc.take_few.Goals as goal

pub returns : goal.returns
returns c =
    let bytes = c.args.bytes.now in
    let four = sym (word_on c.args.register bytes 0 (omega arith) (λ i. omega (arith, c.type_inv.bytes i))) in
    rw (c.take_each-2.ensures, c.past_4.ensures, c.word.ensures, four) (in_two c.args.register 4 bytes)
