use Rattle.std.proofs.Common.{◌∙◌, sym, subst, codes, Bool, Err}
use Rattle.mq_outside.specs.Files.{Files}
use Rattle.mq_outside.proofs.Moments.{rests_then}
use Rattle.log_model.specs.Bases.{whole}
use Rattle.log_model.specs.Store.{IsDamagedAt, Keeps}
use Rattle.log_recovery.proofs.ScanLemmas.{passed_on}
use Rattle.tool_run.specs.declared.sound.Sound.{Sound}
use Rattle.tool_run.proofs.SoundLemmas.{counts_on, counts_then, damaged_then, loaded_says, unequal_counts}
use Rattle.tool_run.proofs.sound.verified.Goals as goal

pub returns-in_err-is_said-clause-damaged : goal.returns-in_err-is_said-clause-damaged
returns-in_err-is_said-clause-damaged g c = λ tells.
    let files = (g.D.Disk.state c.args.disk.now).reads in
    let first = c.in_ok-log.ensures.rests tells in
    passed_on Sound Bool c.from_residual-in_err-is_said.result c.in_err-is_said.field-0.0 (IsDamagedAt (whole c.args.segment) files) c.from_residual-in_err-is_said.ensures.1
    (damaged_then Bool (whole c.args.segment) (Err c.in_err-is_said.field-0.0) files _ first.same (c.in_err-is_said.ensures.damaged tells))

pub returns-in_err-is_said-clause-rests : goal.returns-in_err-is_said-clause-rests
returns-in_err-is_said-clause-rests g c = λ tells. rests_then (c.in_ok-log.ensures.rests tells) (c.in_err-is_said.ensures.rests tells)

pub returns-in_err-is_said-clause-cause : goal.returns-in_err-is_said-clause-cause
returns-in_err-is_said-clause-cause g c =
    counts_on Sound Bool c.from_residual-in_err-is_said.result c.in_err-is_said.field-0.0 _ _ c.from_residual-in_err-is_said.ensures.1
    (counts_then Bool (Err c.in_err-is_said.field-0.0) _ _ _ c.in_ok-log.ensures.cause c.in_err-is_said.ensures.cause)

pub returns-then-not-branch-clause-damaged : goal.returns-then-not-branch-clause-damaged
returns-then-not-branch-clause-damaged g c = λ tells.
    let kept = c.in_ok-log.ensures.kept tells in
    let first = c.in_ok-log.ensures.rests tells in
    let again = subst (λ (files : Files). Keeps (whole c.args.segment) kept.records files) (sym first.same) kept.keeps in
    let says = c.in_ok-is_said.ensures.said tells kept.records again in
    let is_said = says.1 (loaded_says c.args.segment kept.records c.in_ok-log.log.loaded kept.keeps.well_formed kept.has.loaded) in
    absurd (cc (is_said, c.if-not-branch.true))

pub returns-then-not-branch-clause-rests : goal.returns-then-not-branch-clause-rests
returns-then-not-branch-clause-rests g c = λ tells. rests_then (c.in_ok-log.ensures.rests tells) (c.in_ok-is_said.ensures.rests tells)

pub returns-then-not-branch-clause-cause : goal.returns-then-not-branch-clause-cause
returns-then-not-branch-clause-cause g c =
    unequal_counts Sound c.unequal.result (codes "commitlog") _ _ c.unequal.ensures (c.in_ok-is_said.ensures.cause ∙ c.in_ok-log.ensures.cause)

pub returns-clause-kept : goal.returns-clause-kept
returns-clause-kept g c = λ tells.
    let kept = c.in_ok-log.ensures.kept tells in
    record { records = kept.records; keeps = kept.keeps; has = record { count = kept.has.count; ends = kept.has.ends } }

pub returns-clause-rests : goal.returns-clause-rests
returns-clause-rests g c = λ tells. rests_then (c.in_ok-log.ensures.rests tells) (c.in_ok-is_said.ensures.rests tells)
