use Rattle.std.proofs.Common.{inr, refl, arith, subst, List}
use Rattle.mq_outside.specs.declared.frozen.Frozen.{Frozen}
use Rattle.mq_outside.specs.Covers.{AreOrdered}
use Rattle.mq_outside.proofs.RangeLemmas.{ordered-last}
use Rattle.mq_outside.proofs.frozen_ranges.add.Goals as goal

pub are_one-requires : goal.are_one-requires
are_one-requires c =
    let low = c.requires.low in
    let last = ordered-last 0 c.pop.new.self.items c.in-Some.last low.0 (subst (λ (l : List Frozen). AreOrdered 0 l low.0) c.in-Some.ensures.items low.1) in
    omega (arith, last.0, low.2, c.requires.fits)

pub returns-in-Some : goal.returns-in-Some
returns-in-Some c = inr (record {
  rest = c.pop.new.self.items;
  last = c.in-Some.last;
  joined = _;
  was = c.in-Some.ensures.items;
  is = c.put-in-Some.ensures.items;
  are_one = record {
    base = refl;
    from = refl;
    len = refl;
    none = refl;
    meets = omega (arith, c.if-are_one.ensures.file, c.if-are_one.ensures.meets);
  };
})
