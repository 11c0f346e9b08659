-- What a call leaves of the log, with calls around it that change nothing.
use Rattle.std.proofs.Common.{◌≡◌, ℕ, ◌≤◌, List, Err, length, take, refl, sym, subst, arith}
use Rattle.mq_outside.specs.Files.{Files}
use Rattle.mq_outside.specs.Disk.{DiskState, EachImage, Rests}
use Rattle.mq_outside.proofs.Moments.{at_end, chained, rests_then, throughout_rests, weaker}
use Rattle.record_codec.specs.Entry.{Entry}
use Rattle.log_model.specs.Bases.{Geometry}
use Rattle.log_model.specs.Log.{IsWellFormed}
use Rattle.log_model.specs.Store.{IsDamagedAt, IsHonest, StoresLog}
use Rattle.log_model.specs.Stored.{HasFirst, HasRecords, StaysWhere}
use Rattle.log_model.proofs.StoredLemmas.{first_keeps}
use Rattle.log_recovery.specs.Recovered.{OnDamage, StaysFlushed}
use Rattle.log_recovery.specs.declared.fault.RecoverFault.{RecoverFault}
use Rattle.log_recovery.specs.declared.fault.RecoverFault.TheVariants.{Damaged, Failed, Memory}
use Rattle.store_open.specs.declared.status.Status.{Status}
use Rattle.exit_status.specs.Statuses.{StatusTellsFault}
use Rattle.exit_status.specs.Stores.{IsUnrecovered, Leaves, LeavesFlushed}

-- ---- a disk that rests

-- its files stay, whatever their names
pub stays_rests : (P : List ℕ → Type 0) (old new : DiskState) → Rests old new → StaysWhere P old new
stays_rests P old new rests = record {
  reads = λ name in_it. subst (λ (files : Files). files name ≡ old.reads name) (sym rests.same) refl;
  images = weaker rests.quiet (λ files image. record { before = files; image = image; same = λ name in_it. refl });
}

-- it stores what it stored
pub stores_rests : (S : Geometry) (log : List Entry) (flushed : ℕ) (old new : DiskState) → Rests old new → StoresLog S log flushed old → StoresLog S log flushed new
stores_rests S log flushed old new rests stores = record {
  shape = stores.shape;
  reach = stores.reach;
  at = record {
    well_formed = stores.at.well_formed;
    within = stores.at.within;
    laid = stores.at.laid;
    each = at_end (throughout_rests rests stores.at.each);
  };
}

-- and is read as it was
pub honest_rests : (S : Geometry) (log : List Entry) (flushed : ℕ) (old new : DiskState) → Rests old new → IsHonest S log flushed old.reads → IsHonest S log flushed new.reads
honest_rests S log flushed old new rests honest = subst (λ (files : Files). IsHonest S log flushed files) (sym rests.same) honest

-- ---- what a crash leaves

leaves_front : (S : Geometry) (log : List Entry) (flushed : ℕ) (files : Files) → IsWellFormed S log → flushed ≤ length log → HasRecords S (take flushed log) files → Leaves S log flushed files
leaves_front S log flushed files well within has =
    let first : HasFirst S log flushed files = record { number = flushed; low = omega arith; high = within; has = has } in
    record { has = first; keeps = first_keeps S log flushed files well first }

-- of a disk that stores a log
each_leaves : (S : Geometry) (log : List Entry) (flushed : ℕ) (disk : DiskState) → StoresLog S log flushed disk → EachImage (Leaves S log flushed) disk
each_leaves S log flushed disk stores = record {
  at = λ files image. leaves_front S log flushed files stores.at.well_formed stores.at.within
      (record { shape = stores.shape; reach = stores.reach; laid = stores.at.laid; stands = stores.at.each.at files image });
}

-- while a log is recovered
pub leaves_flushed : (S : Geometry) (old new : DiskState) → StaysFlushed S old new → LeavesFlushed S old new
leaves_flushed S old new stays log flushed stores honest =
    weaker (stays log flushed stores honest).any_moment (λ files has. leaves_front S log flushed files stores.at.well_formed stores.at.within has)

-- with calls before and behind that change nothing
pub leaves_around : (S : Geometry) (old mid after new : DiskState) → Rests old mid → LeavesFlushed S mid after → Rests after new → LeavesFlushed S old new
leaves_around S old mid after new before leaves behind log flushed stores honest =
    let there = leaves log flushed (stores_rests S log flushed old mid before stores) (honest_rests S log flushed old mid before honest) in
    let so_far = chained (throughout_rests before (each_leaves S log flushed old stores)) there in
    chained so_far (throughout_rests behind (at_end so_far))

-- ---- a log that was not recovered

-- what holds where damage is told holds of the status that tells it
damage_told : (A : Type 0) (status : Status) (fault : RecoverFault) (P : ℕ → List ℕ → Type 0) → StatusTellsFault status fault → OnDamage {A = A} (Err fault) P → status.code ≡ 8 → P status.place status.name
damage_told A status (Damaged place name) P tells damaged code =
    subst (λ (n : ℕ). P n status.name) (sym tells.1) (subst (λ (t : List ℕ). P place t) (sym tells.2) damaged)
damage_told A status Failed P tells damaged code = absurd (omega (arith, tells, code))
damage_told A status Memory P tells damaged code = absurd (omega (arith, tells, code))

pub unrecovered : (A : Type 0) (S : Geometry) (tells : Type 0) (status : Status) (old new : DiskState) (fault : RecoverFault) → StatusTellsFault status fault
    → (tells → OnDamage {A = A} (Err fault) (IsDamagedAt S old.reads)) → (tells → OnDamage {A = A} (Err fault) (λ place name. Rests old new)) → (tells → StaysFlushed S old new)
    → IsUnrecovered S tells status old new
unrecovered A S tells status old new fault told damaged rests flushed = record {
  fault = fault;
  told = told;
  damaged = λ it code. (
    damage_told A status fault (IsDamagedAt S old.reads) told (damaged it) code,
    damage_told A status fault (λ place name. Rests old new) told (rests it) code,
  );
  stores = λ it log number stores honest. (flushed it log number stores honest).still;
  leaves = λ it. leaves_flushed S old new (flushed it);
}

-- with calls before and behind that change nothing
pub unrecovered_around : (S : Geometry) (tells : Type 0) (status : Status) (old mid after new : DiskState) → (tells → Rests old mid) → IsUnrecovered S tells status mid after → (tells → Rests after new)
    → IsUnrecovered S tells status old new
unrecovered_around S tells status old mid after new before it behind = record {
  fault = it.fault;
  told = it.told;
  damaged = λ told code.
      let found = it.damaged told code in (
        subst (λ (files : Files). IsDamagedAt S files status.place status.name) (before told).same found.0,
        rests_then (rests_then (before told) found.1) (behind told),
      );
  stores = λ told log flushed stores honest.
      stores_rests S log flushed after new (behind told)
      (it.stores told log flushed (stores_rests S log flushed old mid (before told) stores) (honest_rests S log flushed old mid (before told) honest));
  leaves = λ told. leaves_around S old mid after new (before told) (it.leaves told) (behind told);
}
