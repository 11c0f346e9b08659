use Rattle.std.proofs.Common.{◌&&◌, sym, ◌∙◌}
use Rattle.record_codec.specs.Entry.{Entry}
use Rattle.log_model.specs.Kinds.{is_discard}
use Rattle.log_model.specs.Queues.{said_by}
use Rattle.log_replay.specs.Told.{is_among}
use Rattle.log_replay.proofs.Anys.{both, found}
use Rattle.log_replay.proofs.halves.is_discarded.Goals as goal

pub returns-then-is_among : goal.returns-then-is_among
returns-then-is_among c =
    let r = c.record-item.result in
    found (λ (x : Entry). is_discard x && is_among c.args.places.now x.prepared) c.args.log.now c.loop-record.record-index r c.loop-record-test.true c.record-item.is
    (both (is_discard (said_by r)) (is_among c.args.places.now r.draft.prepared) (sym c.is_discard.ensures ∙ c.if-is_discard.true) (sym c.is_among.ensures ∙ c.if-is_among.true))
