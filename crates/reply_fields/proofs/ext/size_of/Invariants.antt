use Rattle.std.proofs.Common.{◌≡◌, ◌+◌, drop}
use Rattle.remoting_frame.specs.Head.{pairs_size}
use Rattle.reply_fields.proofs.ext.size_of.Given as goal

abbrev pub invariant-loop-index : goal.invariant-loop-index
invariant-loop-index l = l.size + pairs_size (drop l.index l.fields) ≡ pairs_size l.fields
