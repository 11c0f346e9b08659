use Rattle.std.proofs.Common.{arith}
use Rattle.remoting_frame.proofs.FrontLaws.{kept_after}
use Rattle.remoting_frame.proofs.cutter.Cutter.feed.Goals as goal

pub invariant_of-self : goal.invariant_of-self
invariant_of-self c =
    let len = c.len-held.ensures.value in
    let fits = c.self.invariant.fits in
    kept_after c.extend_from_slice.result c.self.inside.at c.self.inside.held.items _ c.args.piece.now c.self.inside.front c.extend_from_slice.ensures.ok c.extend_from_slice.ensures.err (omega (arith, len, fits)) c.self.invariant
