use Rattle.std.proofs.Common.{Bool, inl, inr}
use Rattle.gen_run.proofs.DamageLemmas.{fault_damaged}
use Rattle.gen_run.proofs.RunLemmas.{fault_counts}
use Rattle.gen_run.proofs.opening.checked.Goals as goal

pub returns-in-Err-clause-cause : goal.returns-in-Err-clause-cause
returns-in-Err-clause-cause g c = fault_counts Bool _ c.in-Err.fault _ _ c.status_of_fault.ensures.tells c.in-Err.ensures.cause

pub returns-then-equal-clause-sums : goal.returns-then-equal-clause-sums
returns-then-equal-clause-sums g c = λ s are. let all = c.in-Ok.ensures.seen c.if-equal.true s are in (all, c.summary_of.ensures s are all)

pub returns-in-Err-clause-damaged : goal.returns-in-Err-clause-damaged
returns-in-Err-clause-damaged g c = λ tells eight.
    inl (fault_damaged Bool c.args.segment c.status_of_fault.result c.in-Err.fault (g.D.Disk.state c.args.disk.now).reads c.status_of_fault.ensures.tells (c.in-Err.ensures.damaged tells) eight)

pub returns-else-equal-clause-damaged : goal.returns-else-equal-clause-damaged
returns-else-equal-clause-damaged g c = λ tells eight. inr (c.unequal.ensures.place eight)
