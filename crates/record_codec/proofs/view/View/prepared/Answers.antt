use Rattle.std.proofs.Common.{sym, ap, ◌∙◌, arith}
use Rattle.record_codec.specs.Entry.{Entry}
use Rattle.record_codec.proofs.Views.{shows}
use Rattle.record_codec.proofs.view.View.prepared.Goals as goal

pub u64_at-requires : goal.u64_at-requires
u64_at-requires c = let s = shows c.self.inside.bytes.now _ c.self.invariant in omega (arith, s.within)

pub returns-clause-value : goal.returns-clause-value
returns-clause-value c = let s = shows c.self.inside.bytes.now _ c.self.invariant in c.u64_at.ensures ∙ ap (λ (r : Entry). r.prepared) (sym s.entry ∙ c.self.view_is)

pub returns-clause-low : goal.returns-clause-low
returns-clause-low c =
    let s = shows c.self.inside.bytes.now _ c.self.invariant in
    let value = c.u64_at.ensures ∙ ap (λ (r : Entry). r.prepared) (sym s.entry) in
    omega (arith, value, s.facts.prepared)
