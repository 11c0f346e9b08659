use Rattle.std.proofs.Common.{Some, sym, ap, subst, ◌∙◌}
use Rattle.std.specs.Str.{IsUtf8}
use Rattle.remoting_frame.proofs.BinaryReading.{text_is, no_text, told_err}
use Rattle.remoting_frame.proofs.binary_reader.str_in.Goals as goal

pub returns-then-is_err : goal.returns-then-is_err
returns-then-is_err c = sym (no_text c.args.bytes.now (told_err c.from_utf8.result _ _ _ c.from_utf8.ensures.cases (sym c.is_err.ensures.value ∙ c.if-is_err.true)))

pub returns : goal.returns
returns c =
    let utf8 = subst IsUtf8 c.from_utf8_unchecked.ensures c.from_utf8_unchecked.utf8 in
    ap Some c.from_utf8_unchecked.ensures ∙ sym (text_is c.args.bytes.now utf8)
