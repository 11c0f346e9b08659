use Rattle.std.proofs.Common.{FitsSigned, arith, rules}
use Rattle.std.specs.Int.{w32}
use Rattle.remoting_frame.specs.Head.{IsInOrder}
use Rattle.remoting_frame.proofs.BinaryAgain.{written_again}
use Rattle.remoting_frame.proofs.BinaryWriting.{length-header_bytes}
use Rattle.remoting_frame.proofs.front_writer.write_binary_front.Goals as goal

pub returns-in-Ok-clause-again : goal.returns-in-Ok-clause-again
returns-in-Ok-clause-again c =
    let h = c.args.header.now in
    let opaque : FitsSigned w32 h.opaque = search rules in
    let flag : FitsSigned w32 h.flag = search rules in
    let order : IsInOrder h.ext = search rules in
    written_again h c.requires.bits c.requires.lengths c.in-Ok.ensures.texts opaque flag order

pub returns-in-Ok-clause-small : goal.returns-in-Ok-clause-small
returns-in-Ok-clause-small c = let h = c.args.header.now in omega (arith, length-header_bytes h 7 h.ext, c.requires.short)
