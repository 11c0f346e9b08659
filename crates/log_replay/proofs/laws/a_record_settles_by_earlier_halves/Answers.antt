use Rattle.log_replay.proofs.Growth.{copies_more, settled_more, state_more}
use Rattle.log_replay.proofs.laws.a_record_settles_by_earlier_halves.Goals as goal

pub returns : goal.returns
returns c = record {
  copies = λ S log r h well follows. copies_more log r h S well follows;
  settled = λ S log r h well follows. settled_more log r h S well follows;
  state = λ S log r h well follows. state_more log r h S well follows;
}
