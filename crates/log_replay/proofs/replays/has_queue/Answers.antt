use Rattle.std.proofs.Common.{◌≡◌, ◌==◌, true, bytes_eq, eq-eqb}
use Rattle.record_codec.specs.Entry.{Entry}
use Rattle.log_model.specs.Queues.{said_by}
use Rattle.log_replay.specs.Replays.{are_of_one_queue}
use Rattle.log_replay.proofs.Anys.{both, found}
use Rattle.log_replay.proofs.replays.has_queue.Goals as goal

pub returns-then-record-r : goal.returns-then-record-r
returns-then-record-r c =
    let r = c.record-item.result in
    let topics : bytes_eq r.draft.topic c.args.r.now.draft.topic ≡ true = cc (c.eq.ensures, c.if-eq.true, c.as_str.ensures.value, c.as_str-in-loop-record.ensures.value) in
    found (λ (x : Entry). are_of_one_queue x (said_by c.args.r.now)) c.args.log.now c.loop-record.record-index r c.loop-record-test.true c.record-item.is
    (both (bytes_eq r.draft.topic c.args.r.now.draft.topic) (r.draft.queue == c.args.r.now.draft.queue) topics (eq-eqb _ _ c.if-record-r.true))
