use Rattle.segment_files.proofs.Ready.{stored_ready, ready_placed}
use Rattle.segment_files.proofs.Turns.{writes_inside}
use Rattle.segment_files.proofs.laws.a_stored_log_is_ready.Goals as goal

pub returns-clause-ready : goal.returns-clause-ready
returns-clause-ready g c it reach to_end ahead low stores = stored_ready it reach c.args.file.now _ to_end ahead low stores

pub returns-clause-inside : goal.returns-clause-inside
returns-clause-inside g c tells it behind ready = writes_inside ready.writes (g.met.D.Disk.reads_is_image c.args.disk.now tells)

pub returns-clause-placed : goal.returns-clause-placed
returns-clause-placed g c it behind ready = ready_placed it behind c.args.file.now _ ready
