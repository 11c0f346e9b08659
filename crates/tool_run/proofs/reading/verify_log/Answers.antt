use Rattle.std.proofs.Common.{◌≡◌, ◌∙◌, [], arith}
use Rattle.log_model.specs.Bases.{whole}
use Rattle.log_model.proofs.Places.{empty_well_formed, whole_geometry}
use Rattle.tool_run.proofs.WriteLemmas.{told_none}
use Rattle.tool_run.proofs.ReadingLemmas.{counts_whole, neither, told_from, verified, verified_all, verified_damage, verified_nothing}
use Rattle.tool_run.proofs.reading.verify_log.Goals as goal

pub returns-in-Ok-clause-reports : goal.returns-in-Ok-clause-reports
returns-in-Ok-clause-reports g c =
    let log = c.in-Ok.ensures.lawful in
    let told = told_from g.K.Sink c.args.sink c.new-lines.result.sink c.new-lines.result [] c.new-lines.ensures.sink
    (told_none g.K.Sink c.new-lines.result c.new-lines.ensures.held c.new-lines.ensures.well) in
    verified g.K.Sink (whole c.args.segment) c.args.sink c.end_sound.result.sink c.end_sound.result.status log.records
    c.in-Ok.sound.records c.in-Ok.sound.end log.lawful log.has.count log.has.ends (c.end_sound.ensures.done c.args.sink [] told)
    (c.end_sound.ensures.failed c.args.sink [] told) (λ seven. c.end_sound.ensures.memory seven ∙ c.new-lines.ensures.sink) c.end_sound.ensures.known

pub returns-in-Ok-clause-kept : goal.returns-in-Ok-clause-kept
returns-in-Ok-clause-kept g c = λ tells code.
    let log = c.in-Ok.ensures.kept tells in
    let told = told_from g.K.Sink c.args.sink c.new-lines.result.sink c.new-lines.result [] c.new-lines.ensures.sink
    (told_none g.K.Sink c.new-lines.result c.new-lines.ensures.held c.new-lines.ensures.well) in
    record {
      records = log.records;
      keeps = log.keeps;
      took = verified_all g.K.Sink (whole c.args.segment) c.args.sink c.end_sound.result.sink log.records
          c.in-Ok.sound.records c.in-Ok.sound.end log.has.count log.has.ends (c.end_sound.ensures.done c.args.sink [] told code);
    }

pub returns-in-Ok-clause-causes : goal.returns-in-Ok-clause-causes
returns-in-Ok-clause-causes g c =
    let told = told_from g.K.Sink c.args.sink c.new-lines.result.sink c.new-lines.result [] c.new-lines.ensures.sink
    (told_none g.K.Sink c.new-lines.result c.new-lines.ensures.held c.new-lines.ensures.well) in
    counts_whole c.end_sound.result.status _ _ _ _ c.end_sound.ensures.known (λ four. (c.end_sound.ensures.failed c.args.sink [] told four).rose)

pub returns-in-Err-Damaged-clause-reports : goal.returns-in-Err-Damaged-clause-reports
returns-in-Err-Damaged-clause-reports g c =
    let S = whole c.args.segment in
    let told = told_from g.K.Sink c.args.sink c.new-lines.result.sink c.new-lines.result [] c.new-lines.ensures.sink
    (told_none g.K.Sink c.new-lines.result c.new-lines.ensures.held c.new-lines.ensures.well) in
    verified_damage g.K.Sink S c.args.sink c.end_damaged.result.sink c.new-lines.result c.end_damaged.result.status []
    _ _ (empty_well_formed S (whole_geometry c.args.segment c.requires)) told c.new-lines.ensures.sink c.end_damaged.ensures.told c.end_damaged.ensures.damaged c.end_damaged.ensures.memory
    c.end_damaged.ensures.known

pub returns-in-Err-Failed-clause-reports : goal.returns-in-Err-Failed-clause-reports
returns-in-Err-Failed-clause-reports g c =
    let five : c.end_failed.result.status.code ≡ 5 = c.end_failed.ensures.code in
    verified_nothing g.K.Sink (whole c.args.segment) c.args.sink c.end_failed.result.sink c.end_failed.result.status []
    (c.end_failed.ensures.sink ∙ c.new-lines.ensures.sink) (λ e. omega (arith, five, e)) (λ e. omega (arith, five, e))

pub returns-in-Err-Memory-clause-reports : goal.returns-in-Err-Memory-clause-reports
returns-in-Err-Memory-clause-reports g c =
    verified_nothing g.K.Sink (whole c.args.segment) c.args.sink c.end_broken.result.sink c.end_broken.result.status []
    (c.end_broken.ensures.sink ∙ c.new-lines.ensures.sink)
    (neither c.end_broken.result.status.code 4 7 0 c.end_broken.ensures.known (λ e. omega (arith, e)) (λ e. omega (arith, e)))
    (neither c.end_broken.result.status.code 4 7 8 c.end_broken.ensures.known (λ e. omega (arith, e)) (λ e. omega (arith, e)))
