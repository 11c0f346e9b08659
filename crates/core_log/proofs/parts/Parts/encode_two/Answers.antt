use Rattle.std.proofs.Common.{ap, arith, length, length-append}
use Rattle.record_codec.specs.Layout.{layout}
use Rattle.record_codec.specs.Drafts.{entry_of}
use Rattle.record_codec.proofs.LayoutLengths.{length-layout}
use Rattle.pending_log.specs.Parts.{PendingPart}
use Rattle.core_log.proofs.parts.Parts.encode_two.Goals as goal

pub append-requires-2-clause-room : goal.append-requires-2-clause-room
append-requires-2-clause-room c =
    let old = c.args.self.now.pending in
    let r = entry_of c.args.first.now.draft.now c.args.first.now.place in
    let grown = ap (λ (v : PendingPart). length v.bytes) c.in_ok-append.ensures.appended in
    let both = length-append old.bytes (layout r) in
    let long = length-layout r in
    let room = c.requires.room in
    omega (arith, grown, both, long, room)
