-- A call of `run_pipe` keeps its answers.
use Rattle.std.proofs.Common.{ℕ, List}
use Rattle.store_open.specs.declared.status.Status.{Status}
use Rattle.log_opening.specs.Opens.{saved_as}
use Rattle.broker_run.specs.Promise.{Call, KeepSeen, Seen}
use Rattle.program_run.specs.Stand.{KeepsAnswers}
use Rattle.program_run.proofs.Calls.{KeepsSent, call_stands}
use Rattle.program_run.proofs.Sent.{sent}

-- whatever acts a run was, each of its sends that waits and is answered with 0 is in the log
each_sent : {D : Type 0} (seen : Seen D) → KeepsSent seen
each_sent seen setup offsets topics log acts reached change runs happened sync it answer faults front later send parts is asked waiting code =
    sent seen.disk change setup (saved_as offsets topics) log acts reached seen.gives it answer faults front later send runs happened sync parts is asked waiting code

-- what a call answered with 0 stands on the disk
pub answered_stand : {D : Type 0} (seen : Seen D) (words : List (List ℕ)) (status : Status) (keep : KeepSeen) → Call words status seen keep → KeepsAnswers words seen keep
answered_stand seen words status keep call = call_stands seen (each_sent seen) words status keep call
