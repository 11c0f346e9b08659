use Rattle.std.proofs.Common.{[]}
use Rattle.remoting_frame.proofs.StreamLaws.{calls_begin}
use Rattle.remoting_frame.proofs.streams.pieces_do_not_matter.Goals as goal

pub returns : goal.returns
returns c = λ calls held h. calls_begin calls (record { at = 0; bytes = [] }) held h
