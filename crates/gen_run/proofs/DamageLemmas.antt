-- Where a status of damage comes from, and that a log in which recovery keeps no record opens as one without records.
use Rattle.std.proofs.Common.{◌≡◌, ◌≢◌, ◌⊎◌, ◌∙◌, ◌+◌, inl, inr, ℕ, List, [], length, Err, refl, sym, ap, subst, arith}
use Rattle.mq_outside.specs.Disk.{DiskState, Rests}
use Rattle.mq_outside.specs.Files.{Files}
use Rattle.mq_outside.proofs.Moments.{rests_then}
use Rattle.record_codec.specs.Entry.{Entry}
use Rattle.log_model.specs.Bases.{Base, geometry, no_base, whole}
use Rattle.log_model.specs.Store.{IsDamagedAt, Keeps}
use Rattle.log_model.proofs.Recovery.{keeps_unique}
use Rattle.log_recovery.specs.Recovered.{Kept, OnDamage}
use Rattle.log_recovery.specs.declared.fault.RecoverFault.{RecoverFault}
use Rattle.log_recovery.specs.declared.fault.RecoverFault.TheVariants.{Damaged, Failed, Memory}
use Rattle.store_open.specs.declared.status.Status.{Status}
use Rattle.exit_status.specs.Statuses.{StatusTellsFault}
use Rattle.core_log.specs.Counts.{AreCountsOf}
use Rattle.core_log.specs.declared.counts.Counts.{Counts}
use Rattle.core_log.specs.declared.parts.Parts.{Parts}
use Rattle.core_log.specs.Represents.{Represents}
use Rattle.broker_model.specs.State.{State}
use Rattle.log_opening.specs.Opens.{OpensKept}
use Rattle.log_opening.specs.declared.opening.Opened.{Opened}
use Rattle.broker_core.specs.declared.alone.Alone.{Alone}
use Rattle.segment_files.specs.declared.last_file.LastFile.{LastFile}
use Rattle.worker_turns.specs.Acts.{Acted, DiskView, place_of, change_of}
use Rattle.flush_story.specs.Leads.{alone}
use Rattle.flush_story.proofs.ActStory.{acts_lead}
use Rattle.gen_run.specs.Fills.{AreDamaged, FindsDamage, GivesOther, HasGiven, OpensEmpty, SaysOther, StatusTellsStop, WereDamaged, empty_state, gen_setup}
use Rattle.gen_run.specs.Rounds.{AreAll}
use Rattle.gen_run.specs.declared.stop.Stop.{Stop}
use Rattle.gen_run.specs.declared.stop.Stop.TheVariants as stop
use Rattle.gen_run.proofs.FillLemmas.{counts_none}

-- ---- a log without records

-- a reading that took no record found none
pub keeps_none : (base : Base) (segment end : ℕ) (files : Files) → base ≡ no_base
    → Kept (geometry segment base) files (λ records. records ≡ []) (λ records. records ≡ []) end → Keeps (whole segment) [] files
keeps_none base segment end files is kept =
    subst (λ (b : Base). Keeps (geometry segment b) [] files) is
    (subst (λ (rs : List Entry). Keeps (geometry segment base) rs files) (kept.handed refl) kept.keeps)

-- the log opens over the records that recovery keeps, and counts none
pub opens_none : (segment : ℕ) (files : Files) (it : Opened) (counts : Counts) → OpensKept (gen_setup segment) files it → ((s : State) → Represents it.core s → AreCountsOf s counts)
    → counts.records ≡ 0 → Keeps (whole segment) [] files
opens_none segment files it counts kept told zero =
    subst (λ (rs : List Entry). Keeps (whole segment) rs files) (counts_none segment kept.records it counts kept.opens told zero) kept.keeps

-- where recovery keeps none, it counts none
pub opens_unequal : (segment : ℕ) (files : Files) (it : Opened) (counts : Counts) → OpensKept (gen_setup segment) files it → ((s : State) → Represents it.core s → AreCountsOf s counts)
    → Keeps (whole segment) [] files → counts.records ≢ 0 → ⊥
opens_unequal segment files it counts kept told none more =
    let same : length kept.records ≡ 0 = ap (λ (rs : List Entry). length rs) (keeps_unique (whole segment) kept.records [] files kept.keeps none) in
    let number : counts.records ≡ 0 + length kept.records = (told _ kept.opens.represents).records in
    more (omega (arith, number, same))

-- ---- damage

-- of files that could not be read
pub fault_damaged : (A : Type 0) (segment : ℕ) (status : Status) (fault : RecoverFault) (files : Files) → StatusTellsFault status fault
    → OnDamage {A = A} (Err fault) (IsDamagedAt (whole segment) files) → status.code ≡ 8 → AreDamaged segment status files
fault_damaged A segment status (Damaged place name) files tells damaged eight =
    subst (λ (n : List ℕ). IsDamagedAt (whole segment) files status.place n) (sym tells.2)
    (subst (λ (p : ℕ). IsDamagedAt (whole segment) files p name) (sym tells.1) damaged)
fault_damaged A segment status Failed files tells damaged eight = absurd (omega (arith, tells, eight))
fault_damaged A segment status Memory files tells damaged eight = absurd (omega (arith, tells, eight))

-- and nothing was changed
pub fault_rests : (A : Type 0) (status : Status) (fault : RecoverFault) (old new : DiskState) → StatusTellsFault status fault
    → OnDamage {A = A} (Err fault) (λ place name. Rests old new) → status.code ≡ 8 → Rests old new
fault_rests A status (Damaged place name) old new tells rests eight = rests
fault_rests A status Failed old new tells rests eight = absurd (omega (arith, tells, eight))
fault_rests A status Memory old new tells rests eight = absurd (omega (arith, tells, eight))

-- a flush turn that failed, or want of memory, is none
pub stop_sound : (status : Status) (it : Stop) → StatusTellsStop status it → status.code ≢ 8
stop_sound status stop.Disk tells = λ eight. omega (arith, tells, eight)
stop_sound status stop.Memory tells = λ eight. omega (arith, tells, eight)

-- neither is that the store has records
pub refused_sound : (status : Status) → (status.code ≡ 6) ⊎ (status.code ≡ 7) → status.code ≢ 8
refused_sound status (inl six) = λ eight. omega (arith, six, eight)
refused_sound status (inr seven) = λ eight. omega (arith, seven, eight)

-- ---- the same of the disk before a call that changed nothing

same_files : (P : Files → Type 0) (old mid : DiskState) → Rests old mid → P mid.reads → P old.reads
same_files P old mid rests is = subst P rests.same is

pub were_before : (segment : ℕ) (status : Status) (old mid new : DiskState) → Rests old mid → WereDamaged segment status mid new → WereDamaged segment status old new
were_before segment status old mid new rests were = record {
  damaged = same_files (AreDamaged segment status) old mid rests were.damaged;
  rests = rests_then rests were.rests;
}

pub none_before : (segment : ℕ) (old mid : DiskState) → Rests old mid → Keeps (whole segment) [] mid.reads → Keeps (whole segment) [] old.reads
none_before segment old mid rests none = same_files (Keeps (whole segment) []) old mid rests none

pub none_then : (segment : ℕ) (old mid : DiskState) → Rests old mid → Keeps (whole segment) [] old.reads → Keeps (whole segment) [] mid.reads
none_then segment old mid rests none = subst (λ (files : Files). Keeps (whole segment) [] files) (sym rests.same) none

given_before : (segment items start : ℕ) (old mid : DiskState) → Rests old mid → HasGiven segment items start mid → HasGiven segment items start old
given_before segment items start old mid rests given = record {
  none = none_before segment old mid rests given.none;
  found = given.found;
  acts = given.acts;
  reached = given.reached;
  given = given.given;
  runs = given.runs;
}

pub finds_before : (segment items start : ℕ) (status : Status) (old mid new : DiskState) → Rests old mid → FindsDamage segment items start status mid new → FindsDamage segment items start status old new
finds_before segment items start status old mid new rests (inl were) = inl (were_before segment status old mid new rests were)
finds_before segment items start status old mid new rests (inr other) = inr (record { given = given_before segment items start old mid rests other.given; other = other.other })

-- ---- the run

-- all items were given from a log without records, and what was read back says something else
pub gives_other : {D : Type 0} (view : DiskView D) (segment items start found : ℕ) (status : Status) (it : Opened) (x y : Alone) (old : DiskState) (mid new after : D) (file : LastFile)
    → view.tells → OpensEmpty view.tells segment old (view.state mid) it → x.core ≡ it.core
    → Acted alone view (AreAll start items found) (change_of x (place_of it.flusher.file mid) y (place_of file new))
    → Rests (view.state new) (view.state after) → SaysOther segment status (view.state new).reads → GivesOther segment items start status old (view.state after)
gives_other view segment items start found status it x y old mid new after file tells opens same acted rests other =
    let are : Represents x.core (empty_state segment) = subst (λ (c : Parts). Represents c (empty_state segment)) (sym same) opens.opens.represents in
    let led = acts_lead view acted.acts (empty_state segment) x y (place_of it.flusher.file mid) (place_of file new) are acted.happened in
    record {
      given = record {
        none = opens.none tells;
        found = found;
        acts = acted.acts;
        reached = led.reached;
        given = acted.kind;
        runs = led.steps;
      };
      other = subst (SaysOther segment status) (sym rests.same) other;
    }

-- ---- the end

-- damage that one status tells, by another with its place and its name
abbrev pub IsToldAs : Status → Status → Type 0
IsToldAs ended status = (ended.place ≡ status.place) × (ended.name ≡ status.name)

damaged_as : (segment : ℕ) (ended status : Status) (files : Files) → IsToldAs ended status → AreDamaged segment status files → AreDamaged segment ended files
damaged_as segment ended status files told damaged =
    subst (λ (n : List ℕ). IsDamagedAt (whole segment) files ended.place n) (sym told.1)
    (subst (λ (p : ℕ). IsDamagedAt (whole segment) files p status.name) (sym told.0) damaged)

other_as : (segment : ℕ) (ended status : Status) (files : Files) → IsToldAs ended status → SaysOther segment status files → SaysOther segment ended files
other_as segment ended status files told (inl damaged) = inl (damaged_as segment ended status files told damaged)
other_as segment ended status files told (inr says) = inr (told.0 ∙ says.0, told.1 ∙ says.1)

finds_as : (segment items start : ℕ) (ended status : Status) (old new : DiskState) → IsToldAs ended status → FindsDamage segment items start status old new → FindsDamage segment items start ended old new
finds_as segment items start ended status old new told (inl were) = inl (record { damaged = damaged_as segment ended status old.reads told were.damaged; rests = were.rests })
finds_as segment items start ended status old new told (inr gives) = inr (record { given = gives.given; other = other_as segment ended status new.reads told gives.other })

-- the status of the run is that of the filling, or there was no memory to say so
pub ended_damage : (segment items start : ℕ) (ended status : Status) (old new : DiskState) → (ended.code ≡ status.code) ⊎ (ended.code ≡ 7) → (ended.code ≡ 7) ⊎ IsToldAs ended status
    → (status.code ≡ 8 → FindsDamage segment items start status old new) → ended.code ≡ 8 → FindsDamage segment items start ended old new
ended_damage segment items start ended status old new (inr seven) told finds eight = absurd (omega (arith, seven, eight))
ended_damage segment items start ended status old new (inl code) (inl seven) finds eight = absurd (omega (arith, seven, eight))
ended_damage segment items start ended status old new (inl code) (inr told) finds eight = finds_as segment items start ended status old new told (finds (sym code ∙ eight))
