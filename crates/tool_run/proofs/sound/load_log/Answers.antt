use Rattle.std.proofs.Common.{refl, ℕ, [], Err}
use Rattle.log_model.specs.Bases.{whole}
use Rattle.log_model.specs.Told.{base_of}
use Rattle.log_model.specs.Store.{IsDamagedAt}
use Rattle.log_recovery.proofs.ScanLemmas.{passed_on}
use Rattle.tool_run.specs.declared.sound.LoadedLog.{LoadedLog}
use Rattle.tool_run.specs.Writes.{HasLoaded}
use Rattle.tool_run.specs.declared.loading.Loading.{Loading}
use Rattle.tool_run.proofs.SoundLemmas.{counts_on, damaged_whole, loaded_log, loaded_of}
use Rattle.tool_run.proofs.sound.load_log.Goals as goal

pub returns-in_err-end-clause-damaged : goal.returns-in_err-end-clause-damaged
returns-in_err-end-clause-damaged g c = λ tells.
    let files = (g.D.Disk.state c.args.disk.now).reads in
    passed_on LoadedLog ℕ c.from_residual-in_err-end.result c.in_err-end.field-0.0 (IsDamagedAt (whole c.args.segment) files) c.from_residual-in_err-end.ensures.1
    (damaged_whole ℕ (base_of c.none-base.result) c.args.segment (Err c.in_err-end.field-0.0) files c.none-base.ensures (c.in_err-end.ensures.damaged tells))

pub returns-in_err-end-clause-cause : goal.returns-in_err-end-clause-cause
returns-in_err-end-clause-cause g c =
    counts_on LoadedLog ℕ c.from_residual-in_err-end.result c.in_err-end.field-0.0 _ _ c.from_residual-in_err-end.ensures.1 c.in_err-end.ensures.cause

pub returns-clause-loaded : goal.returns-clause-loaded
returns-clause-loaded g c =
    let start : Loading = record { loaded = c.in_ok-new.field-0; records = 0; alloc = c.args.alloc } in
    let begins : HasLoaded [] start = record { loaded = c.in_ok-new.ensures; count = refl } in
    loaded_log (base_of c.none-base.result) c.args.segment c.in_ok-end.end c.read_kept.new.each c.none-base.ensures (c.in_ok-end.ensures.handed begins)

pub returns-clause-kept : goal.returns-clause-kept
returns-clause-kept g c = λ tells.
    let start : Loading = record { loaded = c.in_ok-new.field-0; records = 0; alloc = c.args.alloc } in
    let begins : HasLoaded [] start = record { loaded = c.in_ok-new.ensures; count = refl } in
    loaded_of (base_of c.none-base.result) c.args.segment c.in_ok-end.end (g.D.Disk.state c.args.disk.now).reads start c.read_kept.new.each c.none-base.ensures begins
    (c.in_ok-end.ensures.kept tells)
