use Rattle.std.proofs.Common.{◌≡◌, false, sym, ap, ◌∙◌}
use Rattle.mq_bytes.specs.Crc.{crc_of}
use Rattle.record_codec.specs.Marks.{is_marked}
use Rattle.record_codec.proofs.MarkLemmas.{unmarked}
use Rattle.record_codec.proofs.scan.is_repeated.Goals as goal

pub returns-else-mark-clause-repeated : goal.returns-else-mark-clause-repeated
returns-else-mark-clause-repeated c = λ ps h marks.
    let none : is_marked c.args.words.now (crc_of c.args.name.now) ≡ false = ap (is_marked c.args.words.now) (sym c.crc32.ensures) ∙ sym c.mark.ensures.before ∙ c.if-mark.false in
    c.if-mark.false ∙ sym (unmarked c.args.words.now c.args.name.now ps marks none)
