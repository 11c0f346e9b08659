use Rattle.std.proofs.Common.{ℕ, ap, ◌∙◌, length}
use Rattle.std.specs.Prelude.{bit_xor}
use Rattle.mq_bytes.specs.Crc.{crc_of}
use Rattle.mq_bytes.specs.Tables.{after}
use Rattle.record_codec.proofs.JoinLemmas.{crc_of-joined}
use Rattle.record_codec.proofs.join.crc32_join.Goals as goal

pub returns : goal.returns
returns c = λ front back are_front are_back first second shift.
    let n = length back in
    let moved = c.times.ensures n shift ∙ ap (after n) first in
    ap (λ (x : ℕ). bit_xor x c.args.second) moved ∙ ap (bit_xor (after n (crc_of front))) second ∙ crc_of-joined front back are_front are_back
