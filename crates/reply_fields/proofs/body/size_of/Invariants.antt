use Rattle.std.proofs.Common.{◌≡◌, take}
use Rattle.reply_fields.specs.Slices.{body_len}
use Rattle.reply_fields.proofs.body.size_of.Given as goal

abbrev pub invariant-loop-slice : goal.invariant-loop-slice
invariant-loop-slice l = l.size ≡ body_len (take l.slice-index l.slices)
