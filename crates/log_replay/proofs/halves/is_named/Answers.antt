use Rattle.std.proofs.Common.{◌&&◌, ℕ, List, sym, ap, ◌∙◌, bytes_eq}
use Rattle.record_codec.specs.Entry.{Entry}
use Rattle.log_model.specs.Kinds.{is_op}
use Rattle.log_model.specs.Queues.{said_by}
use Rattle.log_replay.proofs.Anys.{both, found}
use Rattle.log_replay.proofs.halves.is_named.Goals as goal

pub returns-then-eq : goal.returns-then-eq
returns-then-eq c =
    let r = c.record-item.result in
    found (λ (x : Entry). is_op x && bytes_eq x.body c.args.digits.now) c.args.log.now c.loop-record.record-index r c.loop-record-test.true c.record-item.is
    (both (is_op (said_by r)) (bytes_eq r.draft.body c.args.digits.now) (sym c.is_op.ensures ∙ c.if-is_op.true) (ap (λ (b : List ℕ). bytes_eq b c.args.digits.now) (sym c.as_slice.ensures) ∙ sym c.eq.ensures ∙ c.if-eq.true))
