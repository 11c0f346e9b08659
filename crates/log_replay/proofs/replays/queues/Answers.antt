use Rattle.std.proofs.Common.{◌∙◌, ◌∷◌, [], ◌++◌, ℕ, List, map, take, cond, ap, sym}
use Rattle.std.specs.List.{list_any}
use Rattle.record_codec.specs.declared.unit.Unit.{Unit as QueueUnit}
use Rattle.record_codec.specs.Entry.{Entry}
use Rattle.log_model.specs.Queues.{said_by, entries_of}
use Rattle.log_replay.specs.Replays.{row_of, first_records, are_of_one_queue}
use Rattle.log_replay.proofs.Rows.{rows_more, front_more}
use Rattle.log_replay.proofs.replays.queues.Goals as goal

pub loop-i-preserved : goal.loop-i-preserved
loop-i-preserved c =
    let log = c.args.log.now in
    let whole = entries_of log in
    let front = entries_of (take c.loop-i.i log) in
    let r = said_by c.index-log-i.result in
    c.in_ok-put_row.ensures
    ∙ ap (λ (rows : List (List ℕ × ℕ × List QueueUnit)). cond (list_any (λ (e : Entry). are_of_one_queue e r) front) rows (rows ++ row_of whole r ∷ [])) c.loop-i.invariant
    ∙ rows_more whole front r
    ∙ ap (λ (l : List Entry). map (row_of whole) (first_records l)) (sym (front_more log c.loop-i.i c.index-log-i.result c.loop-i-test.true c.index-log-i.is))
