use Rattle.std.proofs.Common.{◌∙◌, ap, refl, subst, List, Bor}
use Rattle.record_codec.specs.Entry.{Entry}
use Rattle.log_model.specs.Bases.{Base, geometry}
use Rattle.log_model.specs.declared.base.Base.{Base as Told}
use Rattle.log_recovery.specs.Recovered.{Kept}
use Rattle.half_records.specs.declared.halves.Halves.{Halves}
use Rattle.level_records.specs.declared.levels.Levels.{Levels}
use Rattle.table_check.specs.declared.tables.Tables.{Tables}
use Rattle.tool_run.specs.Writes.{HasGoneBeside}
use Rattle.tool_run.specs.declared.beside.Beside.{Beside}
use Rattle.tool_run.proofs.SoundLemmas.{said, says_in}
use Rattle.tool_run.proofs.sound.is_said.Goals as goal

pub returns-clause-said : goal.returns-clause-said
returns-clause-said g c = λ tells records keeps.
    let files = (g.D.Disk.state c.args.disk.now).reads in
    let loaded = c.args.loaded.now in
    let start : Beside = record { comparing = c.in_ok-new.field-0; alloc = c.args.alloc } in
    let now : Beside = c.read_kept.new.each in
    let tables : Tables = record { queues = c.queues.result; keys = c.keys.result; halves = c.table.result; levels = c.table-2.result } in
    let there = subst (λ (b : Base). Kept (geometry c.args.segment b) files (λ (rs : List Entry). HasGoneBeside start rs start) (λ (rs : List Entry). HasGoneBeside start rs now) c.in_ok-read_kept.field-0)
    c.none-base.ensures (c.in_ok-read_kept.ensures.kept_on tells start) in
    let gone = there.handed (record { same = record { tables = refl; base = refl }; beside = c.in_ok-new.ensures.none }) in
    let says = says_in records loaded tables c.queues.ensures c.keys.ensures (c.table.ensures ∙ ap (λ (h : Halves). h.view) c.halves.ensures)
    (c.table-2.ensures ∙ ap (λ (l : Levels). l.view) c.levels.ensures) in
    said c.none-base.result c.args.segment records there.records files loaded tables now.comparing c.end.result c.none-base.ensures
    (gone.same.tables ∙ c.in_ok-new.ensures.tables) (ap (λ (b : Bor Told). b.now) (gone.same.base ∙ c.in_ok-new.ensures.base)) says keeps there.keeps gone.beside
    (λ beside lawful. c.end.ensures c.args.segment there.records beside lawful)
