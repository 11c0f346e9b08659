use Rattle.std.proofs.Common.{codes, refl, ◌∙◌, sym, subst, List, ℕ, arith}
use Rattle.std.specs.Prelude.{IsTrue}
use Rattle.record_codec.specs.Props.{is_pair}
use Rattle.made_records.proofs.PairLemmas.{digits_pair, topic_pair}
use Rattle.made_records.proofs.send_draft.put_real.Goals as goal

pub put-requires : goal.put-requires
put-requires c = topic_pair (codes "REAL_TOPIC") c.args.topic.now refl c.requires

pub put-requires-2 : goal.put-requires-2
put-requires-2 c =
    subst (λ (t : List ℕ). IsTrue (is_pair (codes "REAL_QID", t))) (sym (c.as_str.ensures.value ∙ c.in_ok-digits.ensures.ok))
    (digits_pair (codes "REAL_QID") c.args.queue refl (omega (arith, c.ranges.queue.fits)))
