use Rattle.std.proofs.Common.{sym, ap, ◌∙◌}
use Rattle.mq_bytes.specs.Tables.{after}
use Rattle.record_codec.proofs.JoinLemmas.{shift_of-add}
use Rattle.record_codec.proofs.join.both.Goals as goal

pub returns-then-shift-eq-ONE : goal.returns-then-shift-eq-ONE
returns-then-shift-eq-ONE c = λ m n is other.
    other ∙ ap (after n) (sym c.if-shift-eq-ONE.true ∙ is) ∙ sym (shift_of-add m n)

pub returns-else-shift-eq-ONE : goal.returns-else-shift-eq-ONE
returns-else-shift-eq-ONE c = λ m n is other.
    c.times.ensures n other ∙ ap (after n) is ∙ sym (shift_of-add m n)
