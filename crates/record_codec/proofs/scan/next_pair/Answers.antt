use Rattle.std.proofs.Common.{sym}
use Rattle.record_codec.proofs.WrittenLemmas.{until_lacks}
use Rattle.record_codec.proofs.scan.next_pair.Goals as goal

pub pair_of-requires : goal.pair_of-requires
pair_of-requires c = until_lacks 2 c.args.text.now (c.in_ok-piece.piece.now, c.in_ok-piece.rest.now) (sym c.in_ok-piece.ensures)
