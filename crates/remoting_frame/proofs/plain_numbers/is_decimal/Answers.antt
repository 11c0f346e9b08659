use Rattle.remoting_frame.proofs.PlainNumbers.{bare_is_decimal}
use Rattle.remoting_frame.proofs.plain_numbers.is_decimal.Goals as goal

pub returns-then-is_bare : goal.returns-then-is_bare
returns-then-is_bare c = λ _.
    let bare = c.is_bare.ensures c.if-is_bare.true in
    bare_is_decimal c.args.text.now c.args.value bare.0 bare.1 c.requires
