use Rattle.segment_files.proofs.Pieces.{zeros_start}
use Rattle.segment_files.proofs.last_file.LastFile.write_ahead.Goals as goal

pub returns-then-end-self-clause-written : goal.returns-then-end-self-clause-written
returns-then-end-self-clause-written g c tells = (0, zeros_start (g.D.Disk.state c.args.disk.now) c.args.name.now c.args.end)
