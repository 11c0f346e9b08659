use Rattle.record_codec.proofs.ShiftLemmas.{shift_entry}
use Rattle.record_codec.proofs.join.shift_at.Goals as goal

pub returns : goal.returns
returns c = shift_entry c.args.j c.args.d c.requires
