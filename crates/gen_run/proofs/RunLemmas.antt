-- How a run of the generator ends, by what its parts did.
use Rattle.std.proofs.Common.{◌≡◌, ◌≢◌, ◌∙◌, ◌⊎◌, inl, inr, ℕ, Err, codes, refl, sym, subst, arith}
use Rattle.mq_outside.specs.Disk.{DiskState, Rests}
use Rattle.log_model.specs.Bases.{whole}
use Rattle.log_recovery.specs.Recovered.{CountsRecoverFault}
use Rattle.log_recovery.specs.declared.fault.RecoverFault.{RecoverFault}
use Rattle.log_recovery.specs.declared.fault.RecoverFault.TheVariants.{Damaged, Failed, Memory}
use Rattle.store_open.specs.declared.status.Status.{Status}
use Rattle.exit_status.specs.Statuses.{StatusTellsFault}
use Rattle.exit_status.proofs.LogLemmas.{honest_rests, stores_rests}
use Rattle.tool_run.specs.Tools.{Causes, Counts}
use Rattle.gen_run.specs.Fills.{CountsFill, HasFilled, StatusTellsStop}
use Rattle.gen_run.specs.Rounds.{CountsStop}
use Rattle.gen_run.specs.declared.stop.Stop.{Stop}
use Rattle.gen_run.specs.declared.stop.Stop.TheVariants as stop
use Rattle.gen_run.specs.declared.summary.Summary.{Summary}
use Rattle.gen_run.proofs.DamageLemmas.{none_before}

-- ---- why the generator stopped

-- the log could not be read
pub fault_counts : (A : Type 0) (status : Status) (fault : RecoverFault) (old new : ℕ) → StatusTellsFault status fault → CountsRecoverFault {A = A} (Err fault) old new → CountsFill status old new
fault_counts A status (Damaged place name) old new tells counts = record {
  disk_failed = λ e. absurd (omega (arith, tells.0, e));
  foreign = λ e. absurd (omega (arith, tells.0, e));
  known = inr (inr (inr tells.0));
}
fault_counts A status Failed old new tells counts = record {
  disk_failed = λ e. counts;
  foreign = λ e. absurd (omega (arith, tells, e));
  known = inl tells;
}
fault_counts A status Memory old new tells counts = record {
  disk_failed = λ e. absurd (omega (arith, tells, e));
  foreign = λ e. absurd (omega (arith, tells, e));
  known = inr (inr (inl tells));
}

-- the store has records
pub records_counts : (status : Status) (old new : ℕ) → (status.code ≡ 6) ⊎ (status.code ≡ 7) → (status.code ≢ 7 → status.name ≡ codes "records") → CountsFill status old new
records_counts status old new (inl six) named = record {
  disk_failed = λ e. absurd (omega (arith, six, e));
  foreign = λ e. named (λ seven. omega (arith, six, seven));
  known = inr (inl six);
}
records_counts status old new (inr seven) named = record {
  disk_failed = λ e. absurd (omega (arith, seven, e));
  foreign = λ e. absurd (omega (arith, seven, e));
  known = inr (inr (inl seven));
}

-- the log's files say something else
pub unequal_counts : (status : Status) (old new : ℕ) → (status.code ≡ 7) ⊎ (status.code ≡ 8) → CountsFill status old new
unequal_counts status old new (inl seven) = record {
  disk_failed = λ e. absurd (omega (arith, seven, e));
  foreign = λ e. absurd (omega (arith, seven, e));
  known = inr (inr (inl seven));
}
unequal_counts status old new (inr eight) = record {
  disk_failed = λ e. absurd (omega (arith, eight, e));
  foreign = λ e. absurd (omega (arith, eight, e));
  known = inr (inr (inr eight));
}

-- a flush turn failed, or memory ran out
pub stop_counts : (A : Type 0) (status : Status) (it : Stop) (old new : ℕ) → StatusTellsStop status it → CountsStop {A = A} (Err it) old new → CountsFill status old new
stop_counts A status stop.Disk old new tells counts = record {
  disk_failed = λ e. counts;
  foreign = λ e. absurd (omega (arith, tells, e));
  known = inl tells;
}
stop_counts A status stop.Memory old new tells counts = record {
  disk_failed = λ e. absurd (omega (arith, tells, e));
  foreign = λ e. absurd (omega (arith, tells, e));
  known = inr (inr (inl tells));
}

pub stop_not_foreign : (status : Status) (it : Stop) → StatusTellsStop status it → status.code ≢ 6
stop_not_foreign status stop.Disk tells = λ six. omega (arith, tells, six)
stop_not_foreign status stop.Memory tells = λ six. omega (arith, tells, six)

-- where the count stayed until then
pub counts_then : (status : Status) (old mid new : ℕ) → mid ≡ old → CountsFill status mid new → CountsFill status old new
counts_then status old mid new same counts = subst (λ (n : ℕ). CountsFill status n new) same counts

-- ---- the causes

out_of_memory : (status : Status) (old new : Counts) → status.code ≡ 7 → Causes status old new
out_of_memory status old new seven = record {
  write = λ e. absurd (omega (arith, seven, e));
  disk_failed = λ e. absurd (omega (arith, seven, e));
  keep_failed = λ e. absurd (omega (arith, seven, e));
  known = inr (inr (inr (inr (inr (inl seven)))));
}

fill_known : (status : Status) → (status.code ≡ 5) ⊎ ((status.code ≡ 6) ⊎ ((status.code ≡ 7) ⊎ (status.code ≡ 8)))
    → (status.code ≡ 0) ⊎ ((status.code ≡ 1) ⊎ ((status.code ≡ 4) ⊎ ((status.code ≡ 5) ⊎ ((status.code ≡ 6)
    ⊎ ((status.code ≡ 7) ⊎ ((status.code ≡ 8) ⊎ (status.code ≡ 10)))))))
fill_known status (inl five) = inr (inr (inr (inl five)))
fill_known status (inr (inl six)) = inr (inr (inr (inr (inl six))))
fill_known status (inr (inr (inl seven))) = inr (inr (inr (inr (inr (inl seven)))))
fill_known status (inr (inr (inr eight))) = inr (inr (inr (inr (inr (inr (inl eight))))))

not_of_fill : (status : Status) (code : ℕ) → (status.code ≡ 5) ⊎ ((status.code ≡ 6) ⊎ ((status.code ≡ 7) ⊎ (status.code ≡ 8))) → (code ≡ 4) ⊎ (code ≡ 10) → status.code ≡ code → ⊥
not_of_fill status code (inl five) (inl four) is = omega (arith, five, four, is)
not_of_fill status code (inl five) (inr ten) is = omega (arith, five, ten, is)
not_of_fill status code (inr (inl six)) (inl four) is = omega (arith, six, four, is)
not_of_fill status code (inr (inl six)) (inr ten) is = omega (arith, six, ten, is)
not_of_fill status code (inr (inr (inl seven))) (inl four) is = omega (arith, seven, four, is)
not_of_fill status code (inr (inr (inl seven))) (inr ten) is = omega (arith, seven, ten, is)
not_of_fill status code (inr (inr (inr eight))) (inl four) is = omega (arith, eight, four, is)
not_of_fill status code (inr (inr (inr eight))) (inr ten) is = omega (arith, eight, ten, is)

counts_cause : (status : Status) (old new : Counts) → CountsFill status old.disk new.disk → Causes status old new
counts_cause status old new counts = record {
  write = λ e. absurd (not_of_fill status 4 counts.known (inl refl) e);
  disk_failed = counts.disk_failed;
  keep_failed = λ e. absurd (not_of_fill status 10 counts.known (inr refl) e);
  known = fill_known status counts.known;
}

-- of a run that stopped, whose status is that of the filling, or there was no memory to say so
pub stopped_causes : (ended status : Status) (old new : Counts) (disk : ℕ) → disk ≡ old.disk → (ended.code ≡ status.code) ⊎ (ended.code ≡ 7)
    → CountsFill status disk new.disk → Causes ended old new
stopped_causes ended status old new disk at (inl same) counts =
    let told = counts_cause status old new (subst (λ (n : ℕ). CountsFill status n new.disk) at counts) in
    record {
      write = λ e. told.write (sym same ∙ e);
      disk_failed = λ e. told.disk_failed (sym same ∙ e);
      keep_failed = λ e. absurd (not_of_fill status 10 counts.known (inr refl) (sym same ∙ e));
      known = subst (λ (n : ℕ). (n ≡ 0) ⊎ ((n ≡ 1) ⊎ ((n ≡ 4) ⊎ ((n ≡ 5) ⊎ ((n ≡ 6) ⊎ ((n ≡ 7) ⊎ ((n ≡ 8) ⊎ (n ≡ 10)))))))) (sym same) told.known;
    }
stopped_causes ended status old new disk at (inr seven) counts = out_of_memory ended old new seven

-- ---- the disk

-- the same from before a call that changed nothing
pub filled_before : (tells : Type 0) (segment items start : ℕ) (summary : Summary) (old mid new : DiskState) → (tells → Rests old mid) → HasFilled tells segment items start summary mid new
    → HasFilled tells segment items start summary old new
filled_before tells segment items start summary old mid new rests it = record {
  none = λ tell. none_before segment old mid (rests tell) (it.none tell);
  found = it.found;
  acts = it.acts;
  reached = it.reached;
  given = it.given;
  runs = it.runs;
  flushed = it.flushed;
  seen = it.seen;
  leaves = λ tell log n stores honest.
      it.leaves tell log n (stores_rests (whole segment) log n _ _ (rests tell) stores) (honest_rests (whole segment) log n _ _ (rests tell) honest);
  sums = it.sums;
}
