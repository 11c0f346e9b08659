use Rattle.segment_files.proofs.Ready.{ready_first_records}
use Rattle.segment_files.proofs.laws.a_ready_log_has_its_records.Goals as goal

pub returns : goal.returns
returns g c it behind ready = ready_first_records it behind c.args.file.now _ ready
