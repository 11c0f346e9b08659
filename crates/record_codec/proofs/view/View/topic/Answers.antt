use Rattle.std.proofs.Common.{◌+◌, sym, ap, subst, ◌∙◌, arith}
use Rattle.std.specs.Str.{IsUtf8}
use Rattle.record_codec.specs.Entry.{Entry}
use Rattle.record_codec.proofs.InPlaceLemmas.{part_of}
use Rattle.record_codec.proofs.TextLemmas.{IsUtf8-legal}
use Rattle.record_codec.proofs.Views.{shows}
use Rattle.record_codec.proofs.view.View.topic.Goals as goal

pub slice_bounds-from_utf8-end : goal.slice_bounds-from_utf8-end
slice_bounds-from_utf8-end c = let s = shows c.self.inside.bytes.now _ c.self.invariant in omega (arith, s.within)

pub unreachable-requires : goal.unreachable-requires
unreachable-requires c =
    let v = c.self.inside in
    let s = shows v.bytes.now _ c.self.invariant in
    let topic = part_of v.bytes.now (89 + v.body) v.topic ∙ ap (λ (r : Entry). r.topic) (sym s.entry) in
    c.in-Err.ensures.cases.0 (subst IsUtf8 (sym topic) (IsUtf8-legal _ s.facts.legal))

pub returns : goal.returns
returns c =
    let v = c.self.inside in
    let s = shows v.bytes.now _ c.self.invariant in
    c.in-Ok.ensures.cases.0 ∙ part_of v.bytes.now (89 + v.body) v.topic ∙ ap (λ (r : Entry). r.topic) (sym s.entry ∙ c.self.view_is)
