use Rattle.log_model.proofs.Standing.{flushed_stand}
use Rattle.log_model.proofs.laws.flushed_records_stand_at_their_places.Goals as goal

pub returns-clause-read : goal.returns-clause-read
returns-clause-read given c = λ tells S log flushed k r stores low got.
    (flushed_stand S log flushed k r _ stores low got).at _ (given.met.D.Disk.reads_is_image c.args.disk.now tells)

pub returns-clause-crash : goal.returns-clause-crash
returns-clause-crash given c = λ tells S log flushed k r stores low got. flushed_stand S log flushed k r _ stores low got
