use Rattle.std.proofs.Common.{codes, refl, ◌∙◌, sym, subst, List, ℕ, arith}
use Rattle.std.specs.Prelude.{IsTrue}
use Rattle.record_codec.specs.Props.{is_pair}
use Rattle.record_copies.proofs.Pairs.{digits_pair}
use Rattle.record_copies.proofs.made.put_renewal.Goals as goal

pub put-requires : goal.put-requires
put-requires c =
    subst (λ (t : List ℕ). IsTrue (is_pair (codes "TRAN_PREPARED_QUEUE_OFFSET", t))) (sym (c.as_str.ensures.value ∙ c.in_ok-digits.ensures))
    (digits_pair (codes "TRAN_PREPARED_QUEUE_OFFSET") c.args.origin refl (omega (arith, c.ranges.origin.fits)))

pub put-requires-2 : goal.put-requires-2
put-requires-2 c =
    subst (λ (t : List ℕ). IsTrue (is_pair (codes "TRANSACTION_CHECK_TIMES", t))) (sym (c.as_str-2.ensures.value ∙ c.in_ok-times.ensures))
    (digits_pair (codes "TRANSACTION_CHECK_TIMES") c.args.count refl (omega (arith, c.ranges.count.fits)))
