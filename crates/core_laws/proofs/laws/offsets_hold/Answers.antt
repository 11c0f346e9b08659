use Rattle.std.proofs.Common.{inl, refl}
use Rattle.broker_model.specs.Run.{Anything, Crashes}
use Rattle.core_laws.proofs.Runs.{opening_sound}
use Rattle.core_laws.proofs.Offsets.{run_rows, goes_rows, crash_uncut, opening_rows}
use Rattle.core_laws.proofs.Within.{run_within, opening_within}
use Rattle.core_laws.proofs.laws.offsets_hold.Goals as goal

pub returns-clause-within : goal.returns-clause-within
returns-clause-within a b c moves opening run = run_within Anything b moves c (opening_sound b opening) (opening_within b opening) run

pub returns-clause-stored : goal.returns-clause-stored
returns-clause-stored a b c d moves k setup allowed opening all run crash =
    let rows = run_rows allowed b moves c (opening_sound b opening) (opening_rows allowed b opening all) run in
    ((goes_rows allowed c (Crashes k setup) d rows.1 rows.0 crash tt).boot d.now (inl refl), crash_uncut allowed c k setup d rows.1 rows.0 crash)
