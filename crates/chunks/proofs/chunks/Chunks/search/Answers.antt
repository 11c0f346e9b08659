use Rattle.std.proofs.Common.{◌≡◌, subst, arith, ◌+◌, ◌-◌, ◌/◌, ◌<◌, ◌≤◌}
use Rattle.chunks.proofs.SearchLemmas.{below_middle, past_middle, first_is}
use Rattle.chunks.proofs.chunks.Chunks.search.Goals as goal

pub loop-low-preserved-then-key-bound : goal.loop-low-preserved-then-key-bound
loop-low-preserved-then-key-bound g c =
    let items = c.args.self.now.items in
    let invariant = c.loop-low.invariant in
    let some = c.loop-low-test.true in
    let middle = c.loop-low.low + (c.loop-low.high - c.loop-low.low) / 2 in
    let low = subst (λ n. n < c.args.bound) c.key.ensures c.if-key-bound.true in (
      omega (arith, some),
      invariant.1,
      below_middle g.T.Keyed.key items c.args.end middle c.args.bound c.at.result c.requires.within c.requires.rising (let high = invariant.1 in omega (arith, some, high)) c.at.ensures low,
      invariant.3,
    )

pub loop-low-preserved : goal.loop-low-preserved
loop-low-preserved g c =
    let items = c.args.self.now.items in
    let invariant = c.loop-low.invariant in
    let some = c.loop-low-test.true in
    let middle = c.loop-low.low + (c.loop-low.high - c.loop-low.low) / 2 in
    let high = subst (λ n. c.args.bound ≤ n) c.key.ensures c.if-key-bound.false in (
      omega arith,
      (let most = invariant.1 in omega (arith, some, most)),
      invariant.2,
      past_middle g.T.Keyed.key items c.args.end middle c.args.bound c.at.result c.requires.within c.requires.rising c.at.ensures high,
    )

pub returns-clause-first : goal.returns-clause-first
returns-clause-first g c =
    let invariant = c.loop-low.invariant in
    let over = c.loop-low-test.false in
    let same : c.loop-low.high ≡ c.loop-low.low = let low = invariant.0 in omega (arith, over, low) in
    first_is g.T.Keyed.key c.args.self.now.items c.args.end c.loop-low.low c.args.bound c.requires.within
    (let low = invariant.0 in let high = invariant.1 in omega (arith, low, high)) invariant.2
    (λ k x behind. invariant.3 k x (omega (arith, same, behind)))
