use Rattle.std.proofs.Common.{sym, ap, ◌∙◌, arith}
use Rattle.record_codec.specs.Layout.{layout, size}
use Rattle.record_codec.specs.Views.{or_blank}
use Rattle.record_codec.proofs.Records.{lengths_facts}
use Rattle.record_codec.proofs.Views.{shows}
use Rattle.record_codec.proofs.view.View.layout.Goals as goal

pub front_of-requires : goal.front_of-requires
front_of-requires c =
    let b = c.self.inside.bytes.now in
    let s = shows b _ c.self.invariant in
    let f = lengths_facts b _ c.self.invariant.lengths in
    omega (arith, f.within, f.size, s.first, c.size.ensures ∙ sym (ap size c.self.view_is))

pub returns : goal.returns
returns c =
    let r = c.self.invariant.record_is in
    let is = sym (ap or_blank r.1) ∙ c.self.view_is in
    c.front_of.ensures r.0 r.1 (c.size.ensures ∙ sym (ap size is)) ∙ ap layout is
