use Rattle.std.proofs.Common.{◌≡◌, List, take, ap, ◌∙◌, arith}
use Rattle.std.proofs.lemmas.List.{take_all}
use Rattle.std.specs.Prelude.{count_by, ◌&&◌}
use Rattle.record_codec.specs.declared.draft.Record.{Record}
use Rattle.record_codec.specs.Entry.{Entry}
use Rattle.log_model.specs.Kinds.{is_copy}
use Rattle.log_model.specs.Queues.{entries_of}
use Rattle.log_replay.specs.Told.{is_among}
use Rattle.log_replay.proofs.States.{copied_is, count_by-agree}
use Rattle.log_replay.proofs.halves.copies_of.Goals as goal

pub returns : goal.returns
returns c =
    let log = c.args.log.now in
    let places = c.in_ok-places.places.items in
    let whole : take c.loop-record.record-index log ≡ log = take_all c.loop-record.record-index log (omega arith) in
    c.loop-record.invariant.0 ∙ ap (λ (l : List Record). count_by (λ (r : Entry). is_copy r && is_among places r.prepared) (entries_of l)) whole
    ∙ count_by-agree _ _ (copied_is (entries_of log) c.args.origin places c.in_ok-places.ensures) (entries_of log)
