use Rattle.remoting_frame.proofs.PlainMembers.{ordered_found, says_header}
use Rattle.remoting_frame.proofs.plain_reader.header_from.Goals as goal

pub header_with-requires : goal.header_with-requires
header_with-requires c = rw c.pairs_or_none-ext.ensures (ordered_found c.args.found.ext c.requires)

pub returns : goal.returns
returns c ms says =
    rw (c.header_with.ensures, c.pairs_or_none-ext.ensures)
    (says_header c.args.found ms c.in_ok-code.field-0 c.in_ok-opaque.field-0 c.in_ok-code.was c.in_ok-opaque.was says)
