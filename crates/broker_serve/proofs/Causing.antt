-- Which device a status blames, and that its count rose.
use Rattle.std.proofs.Common.{◌≡◌, ◌≢◌, ◌⊎◌, inl, inr, sym, subst, arith, ℕ, Result, Ok, Err}
use Rattle.std.specs.Prelude.{codes}
use Rattle.mq_outside.specs.Counts.{Rises, CountsDiskFault}
use Rattle.mq_outside.specs.declared.faults.DiskFault.{DiskFault}
use Rattle.mq_outside.specs.declared.faults.DiskFault.TheVariants as device
use Rattle.log_recovery.specs.Recovered.{CountsRecoverFault}
use Rattle.log_recovery.specs.declared.fault.RecoverFault.{RecoverFault}
use Rattle.log_recovery.specs.declared.fault.RecoverFault.TheVariants as recovery
use Rattle.config_store.specs.Faults.{CountsConfigFault}
use Rattle.config_store.specs.declared.config.ConfigFault.{ConfigFault}
use Rattle.config_store.specs.declared.config.ConfigFault.TheVariants as config
use Rattle.worker_turns.specs.declared.flush.FlushEnd.{FlushEnd}
use Rattle.worker_turns.specs.declared.flush.FlushEnd.TheVariants as flush
use Rattle.event_loops.specs.declared.event_loop.LoopEnd.{LoopEnd}
use Rattle.event_loops.specs.declared.event_loop.LoopEnd.TheVariants as loops
use Rattle.store_open.specs.Openings.{OpeningCause}
use Rattle.store_open.specs.declared.status.Status.{Status}
use Rattle.flush_rounds.specs.Causes.{BlamesDisk}
use Rattle.serve_threads.specs.Causes.{BlamesMaking, BlamesWorld, HasCauses, ServeFaults, WorldFaults, counts_of}
use Rattle.broker_serve.specs.Causes.{BlamesDoor, Causes, StatusTellsMaking}
use Rattle.exit_status.specs.Statuses.{TellsDevice, StatusTellsFault, StatusTellsConfig}
use Rattle.broker_serve.specs.Statuses.{StatusTellsLoops, StatusTellsEnd, StatusLeft, StatusTellsReader}

module _ (status : Status) (old new : ServeFaults) where
  pub seven_causes : status.code ≡ 7 → Causes status old new
  seven_causes seven = inl (inr (inr (inr (inl seven))))

  keep_causes : Rises old.keep new.keep → TellsDevice status (codes "keep") → Causes status old new
  keep_causes rises (inl ten) = inr (inr (ten.0, inr (inl (ten.1, rises))))
  keep_causes rises (inr seven) = seven_causes seven

  -- ---- links were served

  loops_cause : (code : ℕ) (end : LoopEnd) → StatusTellsLoops code status end → BlamesWorld end old.world new.world → (status.code ≡ code → Causes status old new)
      → Causes status old new
  loops_cause code loops.Done tells blames done = done tells
  loops_cause code loops.Stopped tells blames done = seven_causes tells
  loops_cause code loops.Clock (inl ten) blames done = inr (inr (ten.0, inl (ten.1, blames)))
  loops_cause code loops.Clock (inr seven) blames done = seven_causes seven
  loops_cause code loops.Door (inl ten) blames done = inr (inr (ten.0, inr (inr (ten.1, inl blames))))
  loops_cause code loops.Door (inr seven) blames done = seven_causes seven
  loops_cause code loops.Poll (inl ten) blames done = inr (inr (ten.0, inr (inr (ten.1, inr blames))))
  loops_cause code loops.Poll (inr seven) blames done = seven_causes seven
  loops_cause code loops.Memory tells blames done = seven_causes tells

  turn_causes : (end : LoopEnd) (last : FlushEnd) → StatusTellsEnd status end last → BlamesWorld end old.world new.world → BlamesDisk last old.disk new.disk
      → Causes status old new
  turn_causes end flush.Idle tells blames disk = loops_cause 0 end tells blames (λ zero. inl (inl zero))
  turn_causes end flush.Done tells blames disk = loops_cause 0 end tells blames (λ zero. inl (inl zero))
  turn_causes end (flush.Failed count) tells blames disk = loops_cause 5 end tells blames (λ five. inr (inl (five, disk)))
  turn_causes end flush.Misplaced tells blames disk = seven_causes tells
  turn_causes end flush.Memory tells blames disk = seven_causes tells

  pub served_causes : (end : LoopEnd) (last : FlushEnd) (kept : Result (Unit {0}) DiskFault) → StatusLeft status end last kept → HasCauses end last kept old new
      → Causes status old new
  served_causes end last (Ok done) tells causes = turn_causes end last tells causes.loops causes.flush
  served_causes end last (Err device.Memory) tells causes = seven_causes tells
  served_causes end last (Err device.Failed) (inl tells) causes = keep_causes causes.keep tells.1
  served_causes end last (Err device.Failed) (inr tells) causes = turn_causes end last tells.0 causes.loops causes.flush

  -- ---- no links were served

  pub words_cause : status.code ≡ 1 → Causes status old new
  words_cause one = inl (inr (inl one))

  pub threads_cause : status.code ≡ 9 → Causes status old new
  threads_cause nine = inl (inr (inr (inr (inr (inr nine)))))

  pub opening_causes : OpeningCause status old.disk new.disk old.keep new.keep → Causes status old new
  opening_causes (inl failed) = inr (inl failed)
  opening_causes (inr (inl six)) = inl (inr (inr (inl six)))
  opening_causes (inr (inr (inl seven))) = seven_causes seven
  opening_causes (inr (inr (inr kept))) = inr (inr (kept.0, inr (inl (kept.1, kept.2))))

  pub config_causes : (fault : ConfigFault) → StatusTellsConfig status fault → CountsConfigFault {A = Unit {0}} (Err fault) old.keep new.keep → Causes status old new
  config_causes (config.BadText name) (inl told) counts = inl (inr (inr (inr (inr (inl told.0)))))
  config_causes (config.BadText name) (inr seven) counts = seven_causes seven
  config_causes config.Failed told counts = keep_causes counts told
  config_causes config.Memory seven counts = seven_causes seven

  pub log_causes : (fault : RecoverFault) → StatusTellsFault status fault → CountsRecoverFault {A = Unit {0}} (Err fault) old.disk new.disk → Causes status old new
  log_causes (recovery.Damaged place name) told counts = inl (inr (inr (inr (inr (inl told.0)))))
  log_causes recovery.Failed five counts = inr (inl (five, counts))
  log_causes recovery.Memory seven counts = seven_causes seven

  pub reader_causes : (fault : DiskFault) → StatusTellsReader status fault → CountsDiskFault {A = Unit {0}} (Err fault) old.disk new.disk → Causes status old new
  reader_causes device.Failed five counts = inr (inl (five, counts))
  reader_causes device.Memory seven counts = seven_causes seven

  pub door_causes : BlamesDoor status old.world new.world → Causes status old new
  door_causes (inl seven) = seven_causes seven
  door_causes (inr ten) = inr (inr (ten.0, inr (inr (ten.1, ten.2))))

-- ---- the door

pub shut_blames : (status : Status) (old new : WorldFaults) → (status.code ≡ 10) ⊎ (status.code ≡ 7) → (status.code ≢ 7 → status.name ≡ codes "door") → Rises old.door new.door
    → BlamesDoor status old new
shut_blames status old new (inl ten) named rises = inr (ten, named (λ seven. omega (arith, ten, seven)), inl rises)
shut_blames status old new (inr seven) named rises = inl seven

-- the door was opened before
pub making_blames : (status : Status) (end : LoopEnd) (old mid new : WorldFaults) → StatusTellsMaking status end → mid.ready ≡ old.ready → BlamesMaking end mid new
    → BlamesDoor status old new
making_blames status loops.Done old mid new tells same blames = absurd blames
making_blames status loops.Stopped old mid new tells same blames = absurd blames
making_blames status loops.Clock old mid new tells same blames = absurd blames
making_blames status loops.Door old mid new tells same blames = absurd blames
making_blames status loops.Poll old mid new (inl ten) same blames = inr (ten.0, ten.1, inr (inl (subst (λ (n : ℕ × ℕ). Rises n.0 new.ready.0) same blames)))
making_blames status loops.Poll old mid new (inr seven) same blames = inl seven
making_blames status loops.Memory old mid new tells same blames = inl tells

pub making_tells : (status : Status) (end : LoopEnd) → StatusTellsMaking status end → TellsDevice status (codes "door")
making_tells status loops.Done tells = tells
making_tells status loops.Stopped tells = tells
making_tells status loops.Clock tells = tells
making_tells status loops.Door tells = tells
making_tells status loops.Poll tells = tells
making_tells status loops.Memory tells = inr tells

-- ---- seen from elsewhere

-- the same counts before
pub causes_from : (status : Status) (disk disk_was keep keep_was : ℕ) (world world_was : WorldFaults) (new : ServeFaults) → disk ≡ disk_was → keep ≡ keep_was
    → world ≡ world_was → Causes status (counts_of disk keep world) new → Causes status (counts_of disk_was keep_was world_was) new
causes_from status disk disk_was keep keep_was world world_was new same_disk same_keep same_world causes =
    subst (λ (w : WorldFaults). Causes status (counts_of disk_was keep_was w) new) same_world
    (subst (λ (k : ℕ). Causes status (counts_of disk_was k world) new) same_keep (subst (λ (d : ℕ). Causes status (counts_of d keep world) new) same_disk causes))

-- the same status, store and world
pub causes_unserved : {S W : Type 0} (disk keep : S → ℕ) (counts : W → WorldFaults) (old : ServeFaults) (status told : Status) (store then : S) (world around : W)
    → told ≡ status → then ≡ store → around ≡ world → Causes status old (counts_of (disk store) (keep store) (counts world))
    → Causes told old (counts_of (disk then) (keep then) (counts around))
causes_unserved disk keep counts old status told store then world around same_status same_store same_world causes =
    subst (λ s. Causes s old (counts_of (disk then) (keep then) (counts around))) (sym same_status)
    (subst (λ w. Causes status old (counts_of (disk then) (keep then) (counts w))) (sym same_world)
    (subst (λ s. Causes status old (counts_of (disk s) (keep s) (counts world))) (sym same_store) causes))

-- there was no memory
pub causes_seven : (status told : Status) (old new : ServeFaults) → told ≡ status → status.code ≡ 7 → Causes told old new
causes_seven status told old new same seven = subst (λ (s : Status). Causes s old new) (sym same) (seven_causes status old new seven)
