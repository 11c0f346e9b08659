use Rattle.std.proofs.Common.{sym}
use Rattle.record_codec.proofs.WrittenLemmas.{until_lacks, until_none}
use Rattle.record_codec.proofs.props.first_piece.Goals as goal

pub returns-in-Some-clause-piece : goal.returns-in-Some-clause-piece
returns-in-Some-clause-piece c = until_lacks 2 c.args.text.now (c.in-Some.parts.0.now, c.in-Some.parts.1.now) (sym c.in-Some.ensures)

pub returns-in-None-clause-piece : goal.returns-in-None-clause-piece
returns-in-None-clause-piece c = until_none 2 c.args.text.now (sym c.in-None.ensures)
