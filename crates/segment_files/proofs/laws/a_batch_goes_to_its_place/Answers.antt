use Rattle.segment_files.proofs.Ready.{goes_to_place}
use Rattle.segment_files.proofs.laws.a_batch_goes_to_its_place.Goals as goal

pub returns : goal.returns
returns c it well is placed = goes_to_place it c.args.batch.now c.args.file.now well is placed
