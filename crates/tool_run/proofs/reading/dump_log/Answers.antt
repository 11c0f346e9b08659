use Rattle.std.proofs.Common.{◌≡◌, ⊎_elim, inl, inr, ℕ, subst, arith}
use Rattle.log_model.specs.Bases.{Base, geometry}
use Rattle.log_model.specs.Told.{base_of}
use Rattle.log_recovery.specs.Visits.{IsGiven}
use Rattle.store_open.specs.declared.tool_words.Tool.TheVariants as tool
use Rattle.tool_run.specs.Texts.{dump_text}
use Rattle.tool_run.specs.Tools.{CountsReport, Reports, WroteKept, seen_of}
use Rattle.tool_run.specs.Writes.{HasBroken, HasDumped}
use Rattle.tool_run.specs.declared.dump.Dump.{Dump}
use Rattle.tool_run.proofs.WriteLemmas.{part_told}
use Rattle.tool_run.proofs.ReadingLemmas.{counts_broken, counts_whole, dump_start, dumped, dumped_broken, dumped_damage, dumped_part, stopped_damaged, stopped_failed, stopped_memory, told_from}
use Rattle.tool_run.proofs.reading.dump_log.Goals as goal

pub returns-in-Ok-clause-reports : goal.returns-in-Ok-clause-reports
returns-in-Ok-clause-reports g c =
    let start : Dump g.row.K.Denot = record { lines = c.new.result } in
    let handed = c.in-Ok.ensures.went start (dump_start g.K.Sink start c.new.ensures.held c.new.ensures.well) in
    subst (λ (b : Base). Reports tool.Dump (geometry c.args.segment b) c.end_whole.result.status (seen_of g.K.Sink c.args.sink c.end_whole.result.sink)) c.none-base.ensures
    (dumped g.K.Sink (geometry c.args.segment (base_of c.none-base.result)) c.args.sink c.end_whole.result.sink c.read_kept.new.each.lines c.end_whole.result.status
    handed.records handed.lawful (told_from g.K.Sink c.args.sink c.new.result.sink c.read_kept.new.each.lines (dump_text handed.records) c.new.ensures.sink handed.handed)
    c.end_whole.ensures.done c.end_whole.ensures.failed c.end_whole.ensures.known)

pub returns-in-Ok-clause-kept : goal.returns-in-Ok-clause-kept
returns-in-Ok-clause-kept g c = λ tells code.
    let start : Dump g.row.K.Denot = record { lines = c.new.result } in
    let kept = c.in-Ok.ensures.kept_on tells start in
    let handed = kept.handed (dump_start g.K.Sink start c.new.ensures.held c.new.ensures.well) in
    subst (λ (b : Base). WroteKept tool.Dump (geometry c.args.segment b) (g.D.Disk.state c.args.disk.now).reads (seen_of g.K.Sink c.args.sink c.end_whole.result.sink)) c.none-base.ensures
    (record {
      records = kept.records;
      keeps = kept.keeps;
      took = c.end_whole.ensures.done c.args.sink (dump_text kept.records)
          (told_from g.K.Sink c.args.sink c.new.result.sink c.read_kept.new.each.lines (dump_text kept.records) c.new.ensures.sink handed) code;
    })

pub returns-in-Ok-clause-causes : goal.returns-in-Ok-clause-causes
returns-in-Ok-clause-causes g c =
    let start : Dump g.row.K.Denot = record { lines = c.new.result } in
    let handed = c.in-Ok.ensures.went start (dump_start g.K.Sink start c.new.ensures.held c.new.ensures.well) in
    let status = c.end_whole.result.status in
    counts_whole status _ _ _ _ (⊎_elim (λ (e : status.code ≡ 0). inl e) (λ (e : status.code ≡ 4). inr (inl e)) c.end_whole.ensures.known)
    (λ four. (c.end_whole.ensures.failed c.args.sink (dump_text handed.records)
    (told_from g.K.Sink c.args.sink c.new.result.sink c.read_kept.new.each.lines (dump_text handed.records) c.new.ensures.sink handed.handed) four).rose)

pub returns-in-Err-Damaged-clause-reports : goal.returns-in-Err-Damaged-clause-reports
returns-in-Err-Damaged-clause-reports g c =
    let start : Dump g.row.K.Denot = record { lines = c.new.result } in
    let S = geometry c.args.segment (base_of c.none-base.result) in
    let given = stopped_damaged ℕ c.in-Err-Damaged.field-0 c.in-Err-Damaged.place c.in-Err-Damaged.name (IsGiven S (λ records. HasDumped g.K.Sink start records c.read_kept.new.each))
    (HasBroken g.K.Sink start c.read_kept.new.each) c.in-Err-Damaged.field-0-is
    (c.in-Err-Damaged.ensures.stopped start (dump_start g.K.Sink start c.new.ensures.held c.new.ensures.well)) in
    subst (λ (b : Base). Reports tool.Dump (geometry c.args.segment b) c.end_damaged.result.status (seen_of g.K.Sink c.args.sink c.end_damaged.result.sink)) c.none-base.ensures
    (dumped_damage g.K.Sink (geometry c.args.segment (base_of c.none-base.result)) c.args.sink c.end_damaged.result.sink c.read_kept.new.each.lines c.end_damaged.result.status
    given.records c.in-Err-Damaged.place c.in-Err-Damaged.name given.lawful
    (told_from g.K.Sink c.args.sink c.new.result.sink c.read_kept.new.each.lines (dump_text given.records) c.new.ensures.sink given.handed)
    c.end_damaged.ensures.damaged c.end_damaged.ensures.memory c.end_damaged.ensures.told c.end_damaged.ensures.known)

pub returns-in-Err-Failed-clause-reports : goal.returns-in-Err-Failed-clause-reports
returns-in-Err-Failed-clause-reports g c =
    let start : Dump g.row.K.Denot = record { lines = c.new.result } in
    let S = geometry c.args.segment (base_of c.none-base.result) in
    let given = stopped_failed ℕ c.in-Err-Failed.field-0 (IsGiven S (λ records. HasDumped g.K.Sink start records c.read_kept.new.each))
    (HasBroken g.K.Sink start c.read_kept.new.each) c.in-Err-Failed.field-0-is
    (c.in-Err-Failed.ensures.stopped start (dump_start g.K.Sink start c.new.ensures.held c.new.ensures.well)) in
    let five : c.end_failed.result.status.code ≡ 5 = c.end_failed.ensures.code in
    subst (λ (b : Base). Reports tool.Dump (geometry c.args.segment b) c.end_failed.result.status (seen_of g.K.Sink c.args.sink c.end_failed.result.sink)) c.none-base.ensures
    (dumped_part g.K.Sink (geometry c.args.segment (base_of c.none-base.result)) c.args.sink c.end_failed.result.sink c.read_kept.new.each.lines c.end_failed.result.status
    given.records (part_told g.K.Sink c.args.sink c.read_kept.new.each.lines (dump_text given.records)
    (told_from g.K.Sink c.args.sink c.new.result.sink c.read_kept.new.each.lines (dump_text given.records) c.new.ensures.sink given.handed))
    c.end_failed.ensures.sink (λ e. omega (arith, five, e)) (λ e. omega (arith, five, e)))

pub returns-clause-reports : goal.returns-clause-reports
returns-clause-reports g c =
    let start : Dump g.row.K.Denot = record { lines = c.new.result } in
    let S = geometry c.args.segment (base_of c.none-base.result) in
    let so_far = stopped_memory ℕ c.in-Err-Memory.field-0 (IsGiven S (λ records. HasDumped g.K.Sink start records c.read_kept.new.each))
    (HasBroken g.K.Sink start c.read_kept.new.each) c.in-Err-Memory.field-0-is
    (c.in-Err-Memory.ensures.stopped start (dump_start g.K.Sink start c.new.ensures.held c.new.ensures.well)) in
    subst (λ (b : Base). Reports tool.Dump (geometry c.args.segment b) c.end_broken.result.status (seen_of g.K.Sink c.args.sink c.end_broken.result.sink)) c.none-base.ensures
    (subst (λ (k : g.row.K.Denot). Reports tool.Dump (geometry c.args.segment (base_of c.none-base.result)) c.end_broken.result.status (seen_of g.K.Sink k c.end_broken.result.sink)) c.new.ensures.sink
    (dumped_broken g.K.Sink (geometry c.args.segment (base_of c.none-base.result)) start c.read_kept.new.each c.end_broken.result.sink c.end_broken.result.status
    c.end_broken.ensures.sink c.end_broken.ensures.known so_far))

pub returns-clause-causes : goal.returns-clause-causes
returns-clause-causes g c =
    let start : Dump g.row.K.Denot = record { lines = c.new.result } in
    let S = geometry c.args.segment (base_of c.none-base.result) in
    let so_far = stopped_memory ℕ c.in-Err-Memory.field-0 (IsGiven S (λ records. HasDumped g.K.Sink start records c.read_kept.new.each))
    (HasBroken g.K.Sink start c.read_kept.new.each) c.in-Err-Memory.field-0-is
    (c.in-Err-Memory.ensures.stopped start (dump_start g.K.Sink start c.new.ensures.held c.new.ensures.well)) in
    subst (λ (k : g.row.K.Denot). CountsReport c.end_broken.result.status (g.K.Sink.faults k) (g.K.Sink.faults c.end_broken.result.sink) (g.D.Disk.faults c.args.disk.now) (g.D.Disk.faults c.read_kept.new.disk)) c.new.ensures.sink
    (counts_broken g.K.Sink (geometry c.args.segment (base_of c.none-base.result)) start c.read_kept.new.each c.end_broken.result.sink c.end_broken.result.status _ _
    c.end_broken.ensures.sink c.end_broken.ensures.write c.end_broken.ensures.known so_far)
