use Rattle.std.proofs.Common.{◌+◌, ℕ, ◌==◌, not, sym, ap, ◌∙◌, arith}
use Rattle.record_codec.proofs.WholeLemmas.{nothing_said, offset_of_found}
use Rattle.record_codec.proofs.whole.may_stand.Goals as goal

pub returns-then-is_none : goal.returns-then-is_none
returns-then-is_none c = λ r h. absurd (nothing_said c.args.bytes.now r _ (λ i. omega (arith, c.type_inv.bytes i)) c.size_in_front.ensures.exact h (c.is_none.ensures ∙ ap not c.if-is_none.true))

pub returns-then-bytes-lt-PLACED : goal.returns-then-bytes-lt-PLACED
returns-then-bytes-lt-PLACED c = λ r h. absurd (omega (arith, c.if-bytes-lt-PLACED.true, (offset_of_found c.args.bytes.now r h).0))

pub returns : goal.returns
returns c = λ r h.
    let own = c.u64_at.ensures ∙ sym (offset_of_found c.args.bytes.now r h).1 in
    c.is_behind.ensures ∙ ap (λ (n : ℕ). n == (c.args.place + c.args.behind)) own
