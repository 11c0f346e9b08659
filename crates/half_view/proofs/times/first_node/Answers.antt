use Rattle.std.proofs.Common.{◌≡◌, ◌∙◌, ◌<◌, ◌≤◌, ◌+◌, ◌*◌, ◌^◌, ℕ, length, get_or, sym, subst, arith}
use Rattle.std.proofs.lemmas.Grind.{get_or_default_zero}
use Rattle.std.proofs.lemmas.Nat.{pow_pos}
use Rattle.std.proofs.lemmas.Option.{get_or_from_slice_get, slice_get-get_or, slice_get_within}
use Rattle.half_view.proofs.TimeLemmas.{IsOnWay, below_within, way_begins, way_left, way_right, way_ends}
use Rattle.half_view.proofs.times.first_node.Goals.{then-index-now, else-index-now}
use Rattle.half_view.proofs.times.first_node.Goals as goal

pub loop-init : goal.loop-init
loop-init c =
    let nodes = c.args.nodes.now.items in
    let size = c.requires.size in
    let pos = pow_pos c.args.height in
    way_begins c.args.now nodes c.args.height (c.requires.come (get_or nodes 1 0) (slice_get-get_or nodes 1 0 (omega (arith, size, pos))))

pub overflow_mul-node : goal.overflow_mul-node
overflow_mul-node c =
    let within = below_within c.args.height c.loop.counter c.loop.node c.loop-test.true c.loop.invariant.high in
    let size = c.requires.size in
    omega (arith, within, size, c.args.nodes.now.small, c.args.nodes.now.ok.0, c.args.nodes.now.ok.1)

pub index-requires : goal.index-requires
index-requires c =
    let within = below_within c.args.height c.loop.counter c.loop.node c.loop-test.true c.loop.invariant.high in
    let size = c.requires.size in
    omega (arith, within, size, c.args.nodes.now.ok.0)

pub overflow_add-node : goal.overflow_add-node
overflow_add-node c =
    let within = below_within c.args.height c.loop.counter c.loop.node c.loop-test.true c.loop.invariant.high in
    let size = c.requires.size in
    omega (arith, within, size, c.args.nodes.now.small, c.args.nodes.now.ok.0, c.args.nodes.now.ok.1)

pub loop-preserved : goal.loop-preserved
loop-preserved c =
    let nodes = c.args.nodes.now.items in
    let within = below_within c.args.height c.loop.counter c.loop.node c.loop-test.true c.loop.invariant.high in
    let size = c.requires.size in
    let inside : c.loop.node * 2 < length nodes = omega (arith, within, size) in
    let read : c.index.result.now ≡ get_or nodes (c.loop.node * 2) 0 = c.index.ensures ∙ get_or_default_zero nodes (c.loop.node * 2) c.index.result.now inside in
    let twice : c.loop.node * 2 ≡ 2 * c.loop.node = omega arith in
    elim c.if-index-now.branch [
      | then-index-now w ↦ subst (λ (n : ℕ). IsOnWay c.args.now nodes c.args.height (c.loop.counter + 1) n) (sym w.node-is)
          (way_right c.args.now nodes c.args.height c.loop.counter c.loop.node (c.loop.node * 2) size c.requires.least c.loop-test.true c.loop.invariant twice
          (subst (λ (t : ℕ). c.args.now < t) read w.if-index-now.true))
      | else-index-now w ↦ subst (λ (n : ℕ). IsOnWay c.args.now nodes c.args.height (c.loop.counter + 1) n) (sym w.node-is)
          (way_left c.args.now nodes c.args.height c.loop.counter c.loop.node (c.loop.node * 2) c.loop-test.true c.loop.invariant twice
          (subst (λ (t : ℕ). t ≤ c.args.now) read w.if-index-now.false))
    ]

pub returns-clause-time : goal.returns-clause-time
returns-clause-time c =
    let same : c.loop.counter ≡ c.args.height = (let most = c.loop.auto.counter-end in let least = c.loop-test.false in omega (arith, most, least)) in
    let low : 2 ^ c.args.height ≤ c.loop.node = subst (λ (n : ℕ). 2 ^ n ≤ c.loop.node) same c.loop.invariant.low in
    let size = c.requires.size in
    omega (arith, low, size)

pub returns-clause-come : goal.returns-clause-come
returns-clause-come c =
    let nodes = c.args.nodes.now.items in
    let same : c.loop.counter ≡ c.args.height = (let most = c.loop.auto.counter-end in let least = c.loop-test.false in omega (arith, most, least)) in
    let high : c.loop.node < 2 * 2 ^ c.args.height = subst (λ (n : ℕ). c.loop.node < 2 * 2 ^ n) same c.loop.invariant.high in
    let size = c.requires.size in
    (get_or nodes c.loop.node 0, slice_get-get_or nodes c.loop.node 0 (omega (arith, high, size)), c.loop.invariant.come)

pub returns-clause-first : goal.returns-clause-first
returns-clause-first c = λ j time from before at.
    let nodes = c.args.nodes.now.items in
    let same : c.loop.counter ≡ c.args.height = (let most = c.loop.auto.counter-end in let least = c.loop-test.false in omega (arith, most, least)) in
    let way = subst (λ (n : ℕ). IsOnWay c.args.now nodes c.args.height n c.loop.node) same c.loop.invariant in
    let size = c.requires.size in
    let late = way_ends c.args.now nodes c.args.height c.loop.node way j (omega (arith, from, size)) (slice_get_within nodes j time at) before in
    subst (λ (t : ℕ). c.args.now < t) (get_or_from_slice_get nodes j time 0 at) late
