use Rattle.std.proofs.Common.{ap, ◌∙◌, arith}
use Rattle.record_codec.specs.Layout.{size}
use Rattle.record_codec.proofs.Views.{shows}
use Rattle.record_codec.proofs.view.View.size.Goals as goal

pub u32_at-requires : goal.u32_at-requires
u32_at-requires c = let s = shows c.self.inside.bytes.now _ c.self.invariant in omega (arith, s.within)

pub returns : goal.returns
returns c = let s = shows c.self.inside.bytes.now _ c.self.invariant in c.u32_at.ensures ∙ s.first ∙ ap size c.self.view_is
