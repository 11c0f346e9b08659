use Rattle.std.proofs.Common.{◌≡◌, ◌+◌, take}
use Rattle.reply_fields.specs.Slices.{body_len}
use Rattle.reply_fields.specs.Stretches.{GoOn}
use Rattle.reply_fields.proofs.body.stretch_from.Given as goal

abbrev pub invariant-loop-count : goal.invariant-loop-count
invariant-loop-count l = record {
  on : GoOn l.first l.first.len (take l.count l.others);
  len : l.len ≡ l.first.len + body_len (take l.count l.others);
}
