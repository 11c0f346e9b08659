use Rattle.segment_files.proofs.Ready.{ready_more, ready_as, inside_as}
use Rattle.segment_files.proofs.laws.a_ready_log_stays_ready.Goals as goal

pub returns-clause-longer : goal.returns-clause-longer
returns-clause-longer g c it more behind well ready = ready_more it more behind _ well ready

pub returns-clause-other_files : goal.returns-clause-other_files
returns-clause-other_files g c it behind stays ready = ready_as it behind c.args.file.now _ _ stays ready

pub returns-clause-inside : goal.returns-clause-inside
returns-clause-inside g c stays inside = inside_as _ _ _ _ stays inside
