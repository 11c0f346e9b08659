use Rattle.remoting_frame.proofs.HeaderReading.{none_in_order}
use Rattle.format_tests.proofs.frame_tests.refusal.Goals as goal

pub invariant_of-result : goal.invariant_of-result
invariant_of-result c = rw c.new.ensures none_in_order
