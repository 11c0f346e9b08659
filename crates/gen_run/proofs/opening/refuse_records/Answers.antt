use Rattle.std.proofs.Common.{Bool}
use Rattle.gen_run.proofs.DamageLemmas.{fault_damaged, refused_sound}
use Rattle.gen_run.proofs.RunLemmas.{fault_counts, records_counts}
use Rattle.gen_run.proofs.opening.refuse_records.Goals as goal

pub returns-in-Err-clause-cause : goal.returns-in-Err-clause-cause
returns-in-Err-clause-cause g c = fault_counts Bool _ c.in-Err.fault _ _ c.status_of_fault.ensures.tells c.in-Err.ensures.cause

pub returns-then-there-clause-cause : goal.returns-then-there-clause-cause
returns-then-there-clause-cause g c = records_counts _ _ _ c.named.ensures.code c.named.ensures.name

pub returns-in-Err-clause-damaged : goal.returns-in-Err-clause-damaged
returns-in-Err-clause-damaged g c = λ tells eight.
    fault_damaged Bool c.args.segment c.status_of_fault.result c.in-Err.fault (g.D.Disk.state c.args.disk.now).reads c.status_of_fault.ensures.tells (c.in-Err.ensures.damaged tells) eight

pub returns-then-there-clause-damaged : goal.returns-then-there-clause-damaged
returns-then-there-clause-damaged g c = λ tells eight. absurd (refused_sound c.named.result c.named.ensures.code eight)

pub returns-else-there-clause-none : goal.returns-else-there-clause-none
returns-else-there-clause-none g c = λ tells. c.in-Ok.ensures.none tells c.if-there.false
