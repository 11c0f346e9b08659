use Rattle.std.proofs.Common.{sym, ap, ◌∙◌, arith}
use Rattle.record_codec.specs.Entry.{Entry}
use Rattle.record_codec.proofs.Views.{shows}
use Rattle.record_codec.proofs.view.View.store_host.Goals as goal

pub host_at-requires : goal.host_at-requires
host_at-requires c = let s = shows c.self.inside.bytes.now _ c.self.invariant in omega (arith, s.within)

pub returns : goal.returns
returns c = let s = shows c.self.inside.bytes.now _ c.self.invariant in c.host_at.ensures ∙ ap (λ (r : Entry). r.store_host) (sym s.entry ∙ c.self.view_is)
