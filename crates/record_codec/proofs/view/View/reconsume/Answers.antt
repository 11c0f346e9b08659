use Rattle.std.proofs.Common.{sym, ap, ◌∙◌, arith, rules}
use Rattle.std.proofs.Math.Facts.{to_z-of_z}
use Rattle.std.specs.Int.{w32, cast_signed}
use Rattle.record_codec.specs.Entry.{Entry}
use Rattle.record_codec.proofs.Views.{shows}
use Rattle.record_codec.proofs.view.View.reconsume.Goals as goal

pub u32_at-requires : goal.u32_at-requires
u32_at-requires c = let s = shows c.self.inside.bytes.now _ c.self.invariant in omega (arith, s.within)

pub returns : goal.returns
returns c = let s = shows c.self.inside.bytes.now _ c.self.invariant in to_z-of_z {w = w32} {z = c.cast_signed.result} (search rules) ∙ c.cast_signed.ensures ∙ ap (cast_signed w32) c.u32_at.ensures ∙ ap (λ (r : Entry). r.reconsume) (sym s.entry ∙ c.self.view_is)
