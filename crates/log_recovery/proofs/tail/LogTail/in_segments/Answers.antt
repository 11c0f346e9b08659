use Rattle.log_recovery.proofs.tail.LogTail.in_segments.Goals as goal

pub returns-clause-stands : goal.returns-clause-stands
returns-clause-stands c base log stands = record { end = stands.end; records = stands.records; time = stands.time; latest = stands.latest; counts = stands.counts }
