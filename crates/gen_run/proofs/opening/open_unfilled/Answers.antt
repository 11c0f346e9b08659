use Rattle.log_opening.specs.declared.opening.Opened.{Opened}
use Rattle.gen_run.proofs.FillLemmas.{opened_empty}
use Rattle.gen_run.proofs.DamageLemmas.{fault_damaged, fault_rests, opens_none, opens_unequal}
use Rattle.gen_run.proofs.RunLemmas.{fault_counts}
use Rattle.gen_run.proofs.opening.open_unfilled.Goals as goal

pub returns-in-Err-clause-cause : goal.returns-in-Err-clause-cause
returns-in-Err-clause-cause g c = fault_counts Opened _ c.in-Err.fault _ _ c.status_of_fault.ensures.tells c.in-Err.ensures.cause

pub returns-then-counts-eq0-clause-opens : goal.returns-then-counts-eq0-clause-opens
returns-then-counts-eq0-clause-opens g c =
    opened_empty _ c.args.segment c.in-Ok.opened _ _ _ c.in-Ok.ensures.represents (λ tells. c.in-Ok.ensures.ours tells) c.counts-counts.ensures c.if-counts-eq0.true
    (λ tells. opens_none c.args.segment (g.D.Disk.state c.args.disk.now).reads c.in-Ok.opened _ (c.in-Ok.ensures.kept tells) c.counts-counts.ensures c.if-counts-eq0.true)

pub returns-in-Err-clause-damaged : goal.returns-in-Err-clause-damaged
returns-in-Err-clause-damaged g c = λ none tells eight. record {
  damaged = fault_damaged Opened c.args.segment c.status_of_fault.result c.in-Err.fault (g.D.Disk.state c.args.disk.now).reads c.status_of_fault.ensures.tells (c.in-Err.ensures.damaged tells) eight;
  rests = fault_rests Opened c.status_of_fault.result c.in-Err.fault _ _ c.status_of_fault.ensures.tells (c.in-Err.ensures.untouched tells) eight;
}

-- a log in which recovery keeps no record doesn't open with one
pub returns-else-counts-eq0-clause-damaged : goal.returns-else-counts-eq0-clause-damaged
returns-else-counts-eq0-clause-damaged g c = λ none tells eight.
    absurd (opens_unequal c.args.segment (g.D.Disk.state c.args.disk.now).reads c.in-Ok.opened _ (c.in-Ok.ensures.kept tells) c.counts-counts.ensures (none tells) c.if-counts-eq0.false)
