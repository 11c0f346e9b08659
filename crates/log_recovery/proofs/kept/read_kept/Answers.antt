use Rattle.std.proofs.Common.{None, Some}
use Rattle.log_recovery.proofs.kept.read_kept.Goals as goal

pub returns-clause-kept : goal.returns-clause-kept
returns-clause-kept g c = λ tells.
    let read = c.in_ok-log.ensures.read tells None in
    record { records = read.records; keeps = read.keeps; handed = read.handed; ends = read.ends }

pub returns-clause-kept_on : goal.returns-clause-kept_on
returns-clause-kept_on g c = λ tells first.
    let read = c.in_ok-log.ensures.read tells (Some first) in
    record { records = read.records; keeps = read.keeps; handed = read.handed; ends = read.ends }

pub returns-clause-handed : goal.returns-clause-handed
returns-clause-handed g c = λ start. c.in_ok-log.ensures.handed None start

pub returns-clause-went : goal.returns-clause-went
returns-clause-went g c = λ first start. c.in_ok-log.ensures.handed (Some first) start
