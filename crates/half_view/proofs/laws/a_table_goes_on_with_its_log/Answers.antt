use Rattle.half_view.proofs.GrowthLemmas.{half_follows, others_follow}
use Rattle.half_view.proofs.laws.a_table_goes_on_with_its_log.Goals as goal

pub returns : goal.returns
returns c = record {
  half = λ segment log r t well follows are is spare. half_follows segment log r t well follows are is spare;
  other = λ segment log r t well follows are is. others_follow segment log r t well follows are is;
}
