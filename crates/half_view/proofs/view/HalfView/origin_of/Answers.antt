use Rattle.std.proofs.Common.{◌∙◌}
use Rattle.half_view.proofs.OriginLemmas.{origin_of_is}
use Rattle.half_view.proofs.view.HalfView.origin_of.Goals as goal

pub returns-clause-records : goal.returns-clause-records
returns-clause-records c segment log well are = c.named_origin.ensures ∙ origin_of_is segment log c.args.self.now well are c.args.queue_offset c.args.place
