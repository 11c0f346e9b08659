use Rattle.std.proofs.Common.{◌≡◌, ◌≢◌, ◌∙◌, ◌<◌, ◌≤◌, ℕ, List, length, get_or, slice_get, Some, sym, subst, arith}
use Rattle.std.proofs.lemmas.Bool.{eq-eqb}
use Rattle.std.proofs.lemmas.Grind.{get_or_default_zero}
use Rattle.std.proofs.lemmas.Nat.{pow_pos}
use Rattle.half_view.specs.Times.{AreAllLater}
use Rattle.half_view.proofs.TimeLemmas.{none_of_root, root_comes, some_size}
use Rattle.half_view.proofs.times.Times.earliest.Goals as goal

pub returns-clause-later : goal.returns-clause-later
returns-clause-later c = λ now late.
    let nodes = c.self.inside.nodes.items in
    let len = c.self.inside.nodes.ok.0 in
    let some : length nodes ≢ 0 = (λ none. cc (sym c.if-is_empty.false ∙ c.is_empty.ensures ∙ eq-eqb _ 0 (omega (arith, none, len)))) in
    let size = some_size nodes c.self.inside.height c.self.invariant.size some in
    let pos = pow_pos c.self.inside.height in
    let read : c.index.result.now ≡ get_or nodes 1 0 = c.index.ensures ∙ get_or_default_zero nodes 1 c.index.result.now (omega (arith, size, pos)) in
    subst (λ (ts : List ℕ). AreAllLater now ts (length ts)) c.self.view_is
    (none_of_root now nodes c.self.inside.height size c.self.invariant.least (subst (λ (t : ℕ). now < t) read late))

pub returns-clause-come : goal.returns-clause-come
returns-clause-come c =
    let nodes = c.self.inside.nodes.items in
    let len = c.self.inside.nodes.ok.0 in
    let some : length nodes ≢ 0 = (λ none. cc (sym c.if-is_empty.false ∙ c.is_empty.ensures ∙ eq-eqb _ 0 (omega (arith, none, len)))) in
    let size = some_size nodes c.self.inside.height c.self.invariant.size some in
    let pos = pow_pos c.self.inside.height in
    let read : c.index.result.now ≡ get_or nodes 1 0 = c.index.ensures ∙ get_or_default_zero nodes 1 c.index.result.now (omega (arith, size, pos)) in
    let found = root_comes nodes c.self.inside.height size c.self.invariant.least in (
      found.0,
      found.1,
      subst (λ (ts : List ℕ). slice_get ts found.0 ≡ Some found.1) c.self.view_is found.2,
      subst (λ (t : ℕ). found.1 ≤ t) (sym read) found.3,
    )
