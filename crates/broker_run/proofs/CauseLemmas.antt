-- Which status has which cause.
use Rattle.std.proofs.Common.{◌≡◌, ◌≢◌, ◌⊎◌, ⊎_elim, inl, inr, refl, codes, ◌∙◌, ℕ, ◌≤◌, Option, Some, None, Result, Ok, Err, sym, subst, arith}
use Rattle.mq_outside.specs.Counts.{Rises}
use Rattle.log_recovery.specs.Recovered.{CountsRecoverFault}
use Rattle.log_recovery.specs.declared.fault.RecoverFault.{RecoverFault}
use Rattle.log_recovery.specs.declared.fault.RecoverFault.TheVariants.{Damaged, Failed as DiskFailed, Memory as NoMemory}
use Rattle.log_opening.specs.declared.opening.Opened.{Opened}
use Rattle.store_open.specs.Openings.{OpeningCause}
use Rattle.store_open.specs.declared.status.Status.{Status}
use Rattle.pipe_stream.specs.Piping.{CountsPipe}
use Rattle.worker_turns.specs.declared.broken.Broken.{Broken}
use Rattle.worker_turns.specs.declared.broken.Broken.TheVariants as broken
use Rattle.pipe_stream.specs.declared.stop.Stop.TheVariants as stops
use Rattle.pipe_stream.specs.declared.stop.Halt.{Halt}
use Rattle.pipe_stream.specs.declared.stop.Halt.TheVariants.{BadFrame, Read, Stopped}
use Rattle.broker_run.specs.Closing.{IsFailed, CountsRun}
use Rattle.exit_status.specs.Statuses.{StatusTellsFault}
use Rattle.broker_run.specs.Promise.{StatusOf, StatusTells, AllFaults, Causes, CountsStatus, CountsEnd}
use Rattle.broker_run.specs.declared.ended.Ended.{Ended}
use Rattle.pipe_stream.specs.Telling.{fault_counts}

-- ---- a run from a log that is open

module _ (status : Status) (source source_then sink sink_then disk disk_then clock clock_then : ℕ) (grows : disk ≤ disk_then) where
  -- the status is none of a fault
  quiet_run : (code : ℕ) → status.code ≡ code → code ≢ 3 → code ≢ 4 → code ≢ 5 → code ≢ 10 → (code ≡ 0) ⊎ ((code ≡ 2) ⊎ (code ≡ 7))
      → CountsStatus status (fault_counts source source_then) (fault_counts sink sink_then) (fault_counts disk disk_then) (fault_counts clock clock_then)
  quiet_run code is three four five ten known = record {
    read = λ e. absurd (three (sym is ∙ e));
    write = λ e. absurd (four (sym is ∙ e));
    disk_failed = λ e. absurd (five (sym is ∙ e));
    clock_failed = λ e. absurd (ten (sym is ∙ e));
    known = ⊎_elim
        (λ (zero : code ≡ 0). inl (is ∙ zero))
        (λ (more : (code ≡ 2) ⊎ (code ≡ 7)). ⊎_elim (λ (two : code ≡ 2). inr (inl (is ∙ two))) (λ (seven : code ≡ 7). inr (inr (inr (inr (inr (inl (is ∙ seven))))))) more)
        known;
    disk_grows = grows;
  }

  seven : status.code ≡ 7 → CountsStatus status (fault_counts source source_then) (fault_counts sink sink_then) (fault_counts disk disk_then) (fault_counts clock clock_then)
  seven is = quiet_run 7 is (λ e. omega (arith, e)) (λ e. omega (arith, e)) (λ e. omega (arith, e)) (λ e. omega (arith, e)) (inr (inr refl))

  clock_ended : status.code ≡ 10 → status.name ≡ codes "clock" → Rises clock clock_then → CountsStatus status (fault_counts source source_then) (fault_counts sink sink_then) (fault_counts disk disk_then) (fault_counts clock clock_then)
  clock_ended is named rises = record {
    read = λ e. absurd (omega (arith, is, e));
    write = λ e. absurd (omega (arith, is, e));
    disk_failed = λ e. absurd (omega (arith, is, e));
    clock_failed = λ e. (named, rises);
    known = inr (inr (inr (inr (inr (inr is)))));
    disk_grows = grows;
  }

  reading_counts : (reading : Result (Unit {0}) Halt) (last : Option ℕ) → StatusTells status reading last → CountsPipe reading (fault_counts source source_then) (fault_counts sink sink_then) (fault_counts clock clock_then)
      → (IsFailed {E = Broken} (Ok last) → Rises disk disk_then) → CountsStatus status (fault_counts source source_then) (fault_counts sink sink_then) (fault_counts disk disk_then) (fault_counts clock clock_then)
  reading_counts (Ok done) None tells counts failed = quiet_run 0 tells (λ e. omega (arith, e)) (λ e. omega (arith, e)) (λ e. omega (arith, e)) (λ e. omega (arith, e)) (inl refl)
  reading_counts (Ok done) (Some count) tells counts failed = record {
    read = λ e. absurd (omega (arith, tells, e));
    write = λ e. absurd (omega (arith, tells, e));
    disk_failed = λ e. failed tt;
    clock_failed = λ e. absurd (omega (arith, tells, e));
    known = inr (inr (inr (inr (inl tells))));
    disk_grows = grows;
  }
  reading_counts (Err (BadFrame place)) last tells counts failed = quiet_run 2 tells.0 (λ e. omega (arith, e)) (λ e. omega (arith, e)) (λ e. omega (arith, e)) (λ e. omega (arith, e)) (inr (inl refl))
  reading_counts (Err Read) last tells counts failed = record {
    read = λ e. counts;
    write = λ e. absurd (omega (arith, tells, e));
    disk_failed = λ e. absurd (omega (arith, tells, e));
    clock_failed = λ e. absurd (omega (arith, tells, e));
    known = inr (inr (inl tells));
    disk_grows = grows;
  }
  reading_counts (Err (Stopped stops.Sink)) last tells counts failed = record {
    read = λ e. absurd (omega (arith, tells, e));
    write = λ e. counts;
    disk_failed = λ e. absurd (omega (arith, tells, e));
    clock_failed = λ e. absurd (omega (arith, tells, e));
    known = inr (inr (inr (inl tells)));
    disk_grows = grows;
  }
  reading_counts (Err (Stopped stops.Memory)) last tells counts failed = seven tells
  reading_counts (Err (Stopped stops.Misplaced)) last tells counts failed = absurd tells
  reading_counts (Err (Stopped stops.Clock)) last (inl ten) counts failed = clock_ended ten.0 ten.1 counts
  reading_counts (Err (Stopped stops.Clock)) last (inr memory) counts failed = seven memory

  ended_counts : (reading : Result (Unit {0}) Halt) (last : Result (Option ℕ) Broken) → StatusOf status reading last → CountsPipe reading (fault_counts source source_then) (fault_counts sink sink_then) (fault_counts clock clock_then)
      → (IsFailed last → Rises disk disk_then) → CountsStatus status (fault_counts source source_then) (fault_counts sink sink_then) (fault_counts disk disk_then) (fault_counts clock clock_then)
  ended_counts reading (Ok last) tells counts failed = reading_counts reading last tells counts failed
  ended_counts reading (Err broken.Memory) tells counts failed = seven tells
  ended_counts reading (Err broken.Misplaced) tells counts failed = absurd tells

-- the status of a run has its cause
pub counts_status : (status : Status) (ended : Ended) (source source_then sink sink_then disk disk_then clock clock_then : ℕ) → StatusOf status ended.reading ended.last
    → CountsRun ended (fault_counts source source_then) (fault_counts sink sink_then) (fault_counts disk disk_then) (fault_counts clock clock_then) → CountsStatus status (fault_counts source source_then) (fault_counts sink sink_then) (fault_counts disk disk_then) (fault_counts clock clock_then)
counts_status status ended source source_then sink sink_then disk disk_then clock clock_then tells counts =
    ended_counts status source source_then sink sink_then disk disk_then clock clock_then counts.disk_grows ended.reading ended.last tells counts.reading counts.disk_rises

-- the status of a run that was served is none of a foreign store
pub is_ours : (code : ℕ) → (code ≡ 0) ⊎ ((code ≡ 2) ⊎ ((code ≡ 3) ⊎ ((code ≡ 4) ⊎ ((code ≡ 5) ⊎ ((code ≡ 7) ⊎ (code ≡ 10)))))) → code ≢ 6
is_ours code (inl e) six = omega (arith, e, six)
is_ours code (inr (inl e)) six = omega (arith, e, six)
is_ours code (inr (inr (inl e))) six = omega (arith, e, six)
is_ours code (inr (inr (inr (inl e)))) six = omega (arith, e, six)
is_ours code (inr (inr (inr (inr (inl e))))) six = omega (arith, e, six)
is_ours code (inr (inr (inr (inr (inr (inl e)))))) six = omega (arith, e, six)
is_ours code (inr (inr (inr (inr (inr (inr e)))))) six = omega (arith, e, six)

-- nor one of arguments that don't fit
pub fits_arguments : (code : ℕ) → (code ≡ 0) ⊎ ((code ≡ 2) ⊎ ((code ≡ 3) ⊎ ((code ≡ 4) ⊎ ((code ≡ 5) ⊎ ((code ≡ 7) ⊎ (code ≡ 10)))))) → code ≢ 1
fits_arguments code (inl e) one = omega (arith, e, one)
fits_arguments code (inr (inl e)) one = omega (arith, e, one)
fits_arguments code (inr (inr (inl e))) one = omega (arith, e, one)
fits_arguments code (inr (inr (inr (inl e)))) one = omega (arith, e, one)
fits_arguments code (inr (inr (inr (inr (inl e))))) one = omega (arith, e, one)
fits_arguments code (inr (inr (inr (inr (inr (inl e)))))) one = omega (arith, e, one)
fits_arguments code (inr (inr (inr (inr (inr (inr e)))))) one = omega (arith, e, one)

-- ---- a whole call

-- the status names none of the devices' faults
pub quiet : (status : Status) (code : ℕ) (old new : AllFaults) → status.code ≡ code → code ≤ 8 → code ≢ 3 → code ≢ 4 → code ≢ 5 → Causes status old new
quiet status code old new is low three four five = record {
  read = λ e. absurd (three (sym is ∙ e));
  write = λ e. absurd (four (sym is ∙ e));
  disk_failed = λ e. absurd (five (sym is ∙ e));
  device = λ e. absurd (omega (arith, is, low, e));
  known = inl (omega (arith, is, low));
}

pub disk_fails : (status : Status) (old new : AllFaults) → status.code ≡ 5 → Rises old.disk new.disk → Causes status old new
disk_fails status old new is rises = record {
  read = λ e. absurd (omega (arith, is, e));
  write = λ e. absurd (omega (arith, is, e));
  disk_failed = λ e. rises;
  device = λ e. absurd (omega (arith, is, e));
  known = inl (omega (arith, is));
}

-- an opening that ended the call has its cause
pub opening_causes : (status : Status) (old new : AllFaults) → OpeningCause status old.disk new.disk old.keep new.keep → Causes status old new
opening_causes status old new (inl failed) = disk_fails status old new failed.0 failed.1
opening_causes status old new (inr (inl six)) =
    quiet status 6 old new six (omega arith) (λ e. omega (arith, e)) (λ e. omega (arith, e)) (λ e. omega (arith, e))
opening_causes status old new (inr (inr (inl seven))) =
    quiet status 7 old new seven (omega arith) (λ e. omega (arith, e)) (λ e. omega (arith, e)) (λ e. omega (arith, e))
opening_causes status old new (inr (inr (inr kept))) = record {
  read = λ e. absurd (omega (arith, kept.0, e));
  write = λ e. absurd (omega (arith, kept.0, e));
  disk_failed = λ e. absurd (omega (arith, kept.0, e));
  device = λ e. inr (kept.1, kept.2);
  known = inr kept.0;
}

-- so has a log that was not recovered
pub fault_causes : (status : Status) (fault : RecoverFault) (old new : AllFaults) → StatusTellsFault status fault → CountsRecoverFault {A = Opened} (Err fault) old.disk new.disk → Causes status old new
fault_causes status (Damaged place name) old new tells counts =
    quiet status 8 old new tells.0 (omega arith) (λ e. omega (arith, e)) (λ e. omega (arith, e)) (λ e. omega (arith, e))
fault_causes status DiskFailed old new tells counts = disk_fails status old new tells counts
fault_causes status NoMemory old new tells counts =
    quiet status 7 old new tells (omega arith) (λ e. omega (arith, e)) (λ e. omega (arith, e)) (λ e. omega (arith, e))

-- the codes that a run may have
known_codes : (status : Status) → (status.code ≡ 0) ⊎ ((status.code ≡ 2) ⊎ ((status.code ≡ 3) ⊎ ((status.code ≡ 4) ⊎ ((status.code ≡ 5) ⊎ ((status.code ≡ 7) ⊎ (status.code ≡ 10))))))
    → (status.code ≤ 8) ⊎ (status.code ≡ 10)
known_codes status (inl e) = inl (omega (arith, e))
known_codes status (inr (inl e)) = inl (omega (arith, e))
known_codes status (inr (inr (inl e))) = inl (omega (arith, e))
known_codes status (inr (inr (inr (inl e)))) = inl (omega (arith, e))
known_codes status (inr (inr (inr (inr (inl e))))) = inl (omega (arith, e))
known_codes status (inr (inr (inr (inr (inr (inl e)))))) = inl (omega (arith, e))
known_codes status (inr (inr (inr (inr (inr (inr e)))))) = inr e

-- and a run, seen from before the opening
pub run_causes : (status : Status) (old new : AllFaults) (disk : ℕ) → disk ≡ old.disk → (keep : ℕ) → keep ≡ old.keep
    → CountsEnd status (fault_counts old.source new.source) (fault_counts old.sink new.sink) (fault_counts disk new.disk) (fault_counts old.clock new.clock) (fault_counts keep new.keep) → Causes status old new
run_causes status old new disk same keep same_keep counts = record {
  read = counts.read;
  write = counts.write;
  disk_failed = λ e. subst (λ (n : ℕ). Rises n new.disk) same (counts.disk_failed e);
  device = λ e. subst (λ (n : ℕ). ((status.name ≡ codes "clock") × Rises old.clock new.clock) ⊎ ((status.name ≡ codes "keep") × Rises n new.keep)) same_keep (counts.device e);
  known = known_codes status counts.known;
}
