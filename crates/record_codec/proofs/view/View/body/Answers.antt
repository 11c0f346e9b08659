use Rattle.std.proofs.Common.{◌≡◌, ◌+◌, ◌-◌, ℕ, take, drop, sym, ap, ◌∙◌, arith}
use Rattle.record_codec.specs.Entry.{Entry}
use Rattle.record_codec.proofs.Views.{shows}
use Rattle.record_codec.proofs.view.View.body.Goals as goal

pub slice_bounds-result-end : goal.slice_bounds-result-end
slice_bounds-result-end c = let s = shows c.self.inside.bytes.now _ c.self.invariant in omega (arith, s.within)

pub returns : goal.returns
returns c =
    let s = shows c.self.inside.bytes.now _ c.self.invariant in
    let n : 88 + c.self.inside.body - 88 ≡ c.self.inside.body = omega arith in
    ap (λ (k : ℕ). take k (drop 88 c.self.inside.bytes.now)) n ∙ ap (λ (r : Entry). r.body) (sym s.entry ∙ c.self.view_is)
