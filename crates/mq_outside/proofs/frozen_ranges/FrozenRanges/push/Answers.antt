use Rattle.mq_outside.proofs.RangeLemmas.{ordered-added, has-added, has-kept, holds-added, holds-past}
use Rattle.mq_outside.proofs.frozen_ranges.FrozenRanges.push.Goals as goal

pub invariant_of-self : goal.invariant_of-self
invariant_of-self c = record { ordered = ordered-added _ c.args.piece _ c.args.self.now.end c.args.self.now.ordered c.requires.behind c.add.ensures }

pub returns-clause-added : goal.returns-clause-added
returns-clause-added c place n covers = has-added _ c.args.piece _ place n c.add.ensures covers

pub returns-clause-kept : goal.returns-clause-kept
returns-clause-kept c place n has = has-kept _ c.args.piece _ place n c.add.ensures has

pub returns-clause-holds : goal.returns-clause-holds
returns-clause-holds c place bytes holds here = holds-added _ c.args.piece _ place bytes c.add.ensures holds here

pub returns-clause-fresh : goal.returns-clause-fresh
returns-clause-fresh c place bytes past some here =
    holds-added _ c.args.piece _ place bytes c.add.ensures (holds-past 0 c.args.self.now.pieces.items c.args.self.now.end place bytes c.args.self.now.ordered past some) here
