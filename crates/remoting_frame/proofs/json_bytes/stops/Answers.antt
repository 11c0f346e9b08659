use Rattle.std.proofs.Common.{arith}
use Rattle.remoting_frame.proofs.PlainRuns.{mask_is}
use Rattle.remoting_frame.proofs.json_bytes.stops.Goals as goal

pub returns : goal.returns
returns c = mask_is c.args.bytes 16 c.fits-bytes.0 (omega arith)
