use Rattle.std.proofs.Common.{sym, ◌∙◌}
use Rattle.remoting_frame.proofs.NameOrder.{put_same_before, put_behind_before}
use Rattle.remoting_frame.proofs.fields.Fields.spot_of.Goals as goal

pub returns-in-Equal-clause-spot : goal.returns-in-Equal-clause-spot
returns-in-Equal-clause-spot c = λ value.
    put_same_before c.args.self.now c.args.name.now value c.loop-at.at c.name_at.result.now c.requires c.loop-at-test.true c.loop-at.invariant.within c.name_at.ensures (sym c.cmp.ensures ∙ c.in-Equal.is)

pub returns-in-Greater-clause-spot : goal.returns-in-Greater-clause-spot
returns-in-Greater-clause-spot c = λ value.
    put_behind_before c.args.self.now c.args.name.now value c.loop-at.at c.name_at.result.now c.requires c.loop-at-test.true c.loop-at.invariant.within c.name_at.ensures (sym c.cmp.ensures ∙ c.in-Greater.is) c.loop-at.invariant.above
