use Rattle.queue_view.proofs.AddedLemmas.{started_tables}
use Rattle.queue_view.proofs.view.QueueView.start.Goals as goal

pub returns-clause-records : goal.returns-clause-records
returns-clause-records c low added n are =
    started_tables c.make.result low added n c.args.self.now c.make.new.self c.args.topic.now c.args.queue c.args.min 0 c.requires.absent c.make.ensures.made are
