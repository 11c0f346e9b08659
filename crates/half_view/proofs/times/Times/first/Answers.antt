use Rattle.std.proofs.Common.{◌≡◌, ◌≢◌, ◌∙◌, ◌<◌, ◌-◌, ◌/◌, ℕ, List, length, drop, get_or, slice_get, Some, sym, subst, arith}
use Rattle.std.proofs.lemmas.Bool.{eqb-true, eq-eqb}
use Rattle.std.proofs.lemmas.Grind.{get_or_default_zero}
use Rattle.std.proofs.lemmas.Nat.{pow_pos}
use Rattle.std.proofs.lemmas.Option.{slice_get-get_or}
use Rattle.half_view.specs.Times.{AreAllLater}
use Rattle.half_view.proofs.TimeLemmas.{times_later, time_found, none_of_none, none_of_root, even_size, some_size}
use Rattle.half_view.proofs.times.Times.first.Goals.{then-is_empty-via-then-is_empty, then-is_empty-via-else-is_empty+then-index-now}
use Rattle.half_view.proofs.times.Times.first.Goals as goal

pub returns-then-is_empty-clause-none : goal.returns-then-is_empty-clause-none
returns-then-is_empty-clause-none c =
    let nodes = c.self.inside.nodes.items in
    let len = c.self.inside.nodes.ok.0 in
    subst (λ (ts : List ℕ). AreAllLater c.args.now ts (length ts)) c.self.view_is (elim c.then-is_empty.branch [
      | then-is_empty-via-then-is_empty w ↦
          (let none = eqb-true _ 0 (sym c.is_empty.ensures ∙ w.if-is_empty.true) in none_of_none c.args.now nodes (omega (arith, none, len)))
      | then-is_empty-via-else-is_empty+then-index-now w ↦
          (let some : length nodes ≢ 0 = (λ none. cc (sym w.if-is_empty.false ∙ c.is_empty.ensures ∙ eq-eqb _ 0 (omega (arith, none, len)))) in
          let size = some_size nodes c.self.inside.height c.self.invariant.size some in
          let pos = pow_pos c.self.inside.height in
          let read : w.index.result.now ≡ get_or nodes 1 0 = w.index.ensures ∙ get_or_default_zero nodes 1 w.index.result.now (omega (arith, size, pos)) in
          none_of_root c.args.now nodes c.self.inside.height size c.self.invariant.least (subst (λ (t : ℕ). c.args.now < t) read w.if-index-now.true))
    ])

pub returns-clause-come : goal.returns-clause-come
returns-clause-come c =
    let nodes = c.self.inside.nodes.items in
    let node = c.first_node-node.result in
    let found = c.first_node-node.ensures.come in
    let half : length nodes / 2 ≡ c.len.result / 2 = (let e = c.len.ensures in omega (arith, e, c.self.inside.nodes.ok.0)) in
    let at = time_found nodes (length nodes / 2) node found.0 c.first_node-node.ensures.time found.1 in (
      found.0,
      subst (λ (ts : List ℕ). slice_get ts (node - c.len.result / 2) ≡ Some found.0) c.self.view_is
          (subst (λ (h : ℕ). slice_get (drop (length nodes / 2) nodes) (node - h) ≡ Some found.0) half at),
      found.2,
    )

pub returns-clause-first : goal.returns-clause-first
returns-clause-first c =
    let nodes = c.self.inside.nodes.items in
    let node = c.first_node-node.result in
    let half : length nodes / 2 ≡ c.len.result / 2 = (let e = c.len.ensures in omega (arith, e, c.self.inside.nodes.ok.0)) in
    let from_half = c.first_node-node.ensures.time in
    subst (λ (ts : List ℕ). AreAllLater c.args.now ts (node - c.len.result / 2)) c.self.view_is
    (subst (λ (h : ℕ). AreAllLater c.args.now (drop (length nodes / 2) nodes) (node - h)) half
    (times_later c.args.now nodes (length nodes / 2) (node - length nodes / 2) (even_size nodes c.self.inside.height c.self.invariant.size)
    (λ j from before within. c.first_node-node.ensures.first j (get_or nodes j 0) from (omega (arith, before, from_half)) (slice_get-get_or nodes j 0 within))))
