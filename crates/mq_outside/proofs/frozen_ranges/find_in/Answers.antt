use Rattle.std.proofs.Common.{◌<◌, arith, subst, length, List}
use Rattle.mq_outside.specs.declared.frozen.Frozen.{Frozen}
use Rattle.mq_outside.specs.Covers.{AreOrdered, HoldsRange}
use Rattle.mq_outside.proofs.RangeLemmas.{split-is, ordered-le, ordered-split, start-within, search-behind, search-before, holds-before, holds-behind}
use Rattle.mq_outside.proofs.frozen_ranges.find_in.Goals as goal

pub overflow_add-middle : goal.overflow_add-middle
overflow_add-middle c =
    let rest = c.loop-rest.rest.now in
    let ordered = c.loop-rest.invariant.ordered in
    let cut = split-is _ rest c.split_at.result.0.now c.split_at.result.1.now c.split_at.ensures.front c.split_at.ensures.back in
    let some : 0 < length c.split_at.result.1.now = omega (arith, c.split_at.ensures.back_len, c.loop-rest-test.true) in
    omega (arith, start-within rest _ _ c.index-behind-0.result ordered.0 ordered.1 0 0 cut some c.index-behind-0.is ordered.2, ordered.3)

pub loop-rest-preserved-then-middle-place : goal.loop-rest-preserved-then-middle-place
loop-rest-preserved-then-middle-place c =
    let rest = c.loop-rest.rest.now in
    let front = c.split_at.result.0.now in
    let back = c.split_at.result.1.now in
    let ordered = c.loop-rest.invariant.ordered in
    let cut = split-is _ rest front back c.split_at.ensures.front c.split_at.ensures.back in
    let some : 0 < length back = omega (arith, c.split_at.ensures.back_len, c.loop-rest-test.true) in
    let parts = ordered-split ordered.0 front back ordered.1 (subst (λ (l : List Frozen). AreOrdered ordered.0 l ordered.1) cut ordered.2) in
    record {
      there = search-behind rest front back c.index-behind-0.result ordered.0 ordered.1 c.args.place c.args.size cut some c.index-behind-0.is ordered.2 c.if-middle-place.true c.loop-rest.invariant.there;
      ordered = (parts.0, ordered.1, parts.2, ordered.3);
      holds = λ bytes size holds. holds-behind front back c.args.place bytes (subst (λ (l : List Frozen). HoldsRange l c.args.place bytes) cut (c.loop-rest.invariant.holds bytes size holds));
    }

pub loop-rest-preserved : goal.loop-rest-preserved
loop-rest-preserved c =
    let rest = c.loop-rest.rest.now in
    let front = c.split_at.result.0.now in
    let back = c.split_at.result.1.now in
    let ordered = c.loop-rest.invariant.ordered in
    let cut = split-is _ rest front back c.split_at.ensures.front c.split_at.ensures.back in
    let some : 0 < length back = omega (arith, c.split_at.ensures.back_len, c.loop-rest-test.true) in
    let parts = ordered-split ordered.0 front back ordered.1 (subst (λ (l : List Frozen). AreOrdered ordered.0 l ordered.1) cut ordered.2) in
    record {
      there = search-before rest front back c.index-behind-0.result ordered.0 ordered.1 c.args.place c.args.size cut some c.index-behind-0.is ordered.2 (omega (arith, c.if-middle-place.false)) c.loop-rest.invariant.there;
      ordered = (ordered.0, parts.0, parts.1, (let le = ordered-le parts.0 back ordered.1 parts.2 in omega (arith, le, ordered.3)));
      holds = λ bytes size holds. holds-before front back c.args.place bytes (subst (λ (l : List Frozen). HoldsRange l c.args.place bytes) cut (c.loop-rest.invariant.holds bytes size holds));
    }
