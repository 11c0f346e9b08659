use Rattle.record_codec.proofs.PropsLemmas.{AreProps-nil}
use Rattle.record_codec.proofs.props.Props.new.Goals as goal

pub invariant_of-result : goal.invariant_of-result
invariant_of-result c = rw c.new.ensures.items AreProps-nil
