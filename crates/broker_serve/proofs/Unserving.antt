-- What a run leaves of the log and of the store where no links were served, put together from its parts.
use Rattle.std.proofs.Common.{◌≡◌, ◌⊎◌, inl, inr, ◌∙◌, ℕ, List, length, take, length-take, sym, ap, subst, arith}
use Rattle.std.specs.Prelude.{codes}
use Rattle.mq_outside.specs.Files.{Files}
use Rattle.mq_outside.specs.Disk.{DiskState, IsCrashImage, Rests}
use Rattle.mq_outside.proofs.Moments.{rests_start}
use Rattle.record_codec.specs.Entry.{Entry}
use Rattle.log_model.specs.Bases.{Geometry, whole}
use Rattle.log_model.specs.Numbered.{count_of}
use Rattle.log_model.specs.Store.{IsHonest, Keeps, KeepsPrefix, StoresLog}
use Rattle.log_model.proofs.Recovery.{keeps_unique}
use Rattle.log_model.proofs.StoreLemmas.{stores_keeps}
use Rattle.broker_model.specs.State.{Saved}
use Rattle.broker_events.specs.declared.event.Setup.{Setup}
use Rattle.core_log.specs.Loads.{whole_log}
use Rattle.log_opening.specs.Opens.{OpensKeptWith, OpensOursWith}
use Rattle.log_opening.specs.declared.opening.Opened.{Opened}
use Rattle.store_open.specs.Openings.{IsOpened, PutsOnly, store_told}
use Rattle.store_open.specs.declared.format.AskedSizes.{AskedSizes}
use Rattle.store_open.specs.declared.format.Sizes.{Sizes}
use Rattle.store_open.specs.declared.status.Status.{Status}
use Rattle.worker_turns.specs.Acts.{DiskView}
use Rattle.exit_status.specs.Statuses.{TellsDevice}
use Rattle.exit_status.specs.Stores.{Misread, Unrecovered, store_over}
use Rattle.exit_status.proofs.KeepLemmas.{misread_before, opened_still}
use Rattle.exit_status.proofs.LogLemmas.{honest_rests, leaves_around, stores_rests, unrecovered_around}
use Rattle.broker_serve.specs.Serves.{BeginsOn}
use Rattle.broker_serve.specs.Statuses.{ShutOut}
use Rattle.broker_serve.specs.Unserved.{IsUnused, LeavesLog, StoresKept, Unused}

-- ---- the log

-- A log of ours was opened as the one that recovery keeps: both have so many records as the core that was opened shows, and are
-- prefixes of the same log.
stores_kept : (setup : Setup) (saved : Saved) (log : List Entry) (flushed : ℕ) (old mid new : DiskState) (it : Opened) → IsCrashImage old old.reads
    → StoresLog (whole setup.segment) log flushed old → IsHonest (whole setup.segment) log flushed old.reads → OpensKeptWith setup saved old.reads it → OpensOursWith setup saved log flushed mid it
    → Rests mid new → StoresKept (whole setup.segment) log flushed old.reads new
stores_kept setup saved log flushed old mid new it image stores honest kept ours rests =
    let S : Geometry = whole setup.segment in
    let found : KeepsPrefix S log flushed old.reads = (stores_keeps S log flushed stores.shape stores.reach old stores.at).at old.reads image honest in
    let same : kept.records ≡ take found.number log = keeps_unique S kept.records (take found.number log) old.reads kept.keeps found.keeps in
    let counts : count_of (whole_log kept.records) ≡ count_of (whole_log (take ours.number log)) = ap (λ s. s.flushed) (sym kept.opens.shown ∙ ours.opens.shown) in
    let long : length kept.records ≡ length (take ours.number log) = omega (arith, counts) in
    let number : found.number ≡ ours.number =
    omega (arith, found.high, ours.high, length-take found.number log, length-take ours.number log, long, ap (λ (l : List Entry). length l) same) in
    record {
      number = ours.number;
      low = ours.low;
      high = ours.high;
      keeps = subst (λ (n : ℕ). Keeps S (take n log) old.reads) number found.keeps;
      stores = stores_rests S (take ours.number log) ours.number mid new rests (record { shape = ours.ready.shape; reach = ours.ready.reach; at = ours.ready.writes.stores });
    }

-- why no links were served
shut_by : (status : Status) (failed failed_then : ℕ) → ShutOut status failed failed_then → (status.code ≡ 5) ⊎ TellsDevice status (codes "door")
shut_by status failed failed_then (inl five) = inl five.0
shut_by status failed failed_then (inr door) = inr door

-- the log was open, and then the disk rested
pub unused : {D : Type 0} (setup : Setup) (saved : Saved) (view : DiskView D) (it : Opened) (status : Status) (old on new : D) (failed failed_then : ℕ)
    → (view.tells → IsCrashImage (view.state old) (view.state old).reads) → (view.tells → OpensKeptWith setup saved (view.state old).reads it) → BeginsOn setup saved it view old on
    → ShutOut status failed failed_then → (view.tells → Rests (view.state on) (view.state new)) → IsUnused (whole setup.segment) view.tells status (view.state old) (view.state new)
unused setup saved view it status old on new failed failed_then image kept begins shut rests = record {
  why = shut_by status failed failed_then shut;
  kept = λ told. ((kept told).records, (kept told).keeps);
  stores = λ told log flushed stores honest.
      stores_kept setup saved log flushed (view.state old) (view.state on) (view.state new) it (image told) stores honest (kept told) (begins.ours told log flushed stores honest) (rests told);
  leaves = λ told.
      leaves_around (whole setup.segment) (view.state old) (view.state old) (view.state on) (view.state new) (rests_start (view.state old)) (begins.leaves told) (rests told);
}

-- ---- seen from before the store was opened

unused_before : (S : Geometry) (tells : Type 0) (status : Status) (old mid new : DiskState) → (tells → Rests old mid) → IsUnused S tells status mid new → IsUnused S tells status old new
unused_before S tells status old mid new rests it = record {
  why = it.why;
  kept = λ told. ((it.kept told).0, subst (λ (files : Files). Keeps S (it.kept told).0 files) (rests told).same (it.kept told).1);
  stores = λ told log flushed stores honest.
      let kept = it.stores told log flushed (stores_rests S log flushed old mid (rests told) stores) (honest_rests S log flushed old mid (rests told) honest) in
      record {
        number = kept.number;
        low = kept.low;
        high = kept.high;
        keeps = subst (λ (files : Files). Keeps S (take kept.number log) files) (rests told).same kept.keeps;
        stores = kept.stores;
      };
  leaves = λ told. leaves_around S old mid new new (rests told) (it.leaves told) (rests_start new);
}

module _ (asked : AskedSizes) (sizes : Sizes) (status : Status) (format : List ℕ) (tells : Type 0) (disk opened disk_then : DiskState) (told : Type 0) (keep put keep_then : DiskState)
    (rests : tells → Rests disk opened) (is : IsOpened asked sizes (store_told tells disk.reads told keep.reads) put) (puts : told → PutsOnly format keep put) (still : told → Rests put keep_then) where
  pub unserved_before : Misread status (store_over tells opened disk_then told put keep_then) ⊎ LeavesLog (whole sizes.segment) tells status opened disk_then
      → Misread status (store_over tells disk disk_then told keep keep_then)
      ⊎ (Unrecovered asked status (store_over tells disk disk_then told keep keep_then) ⊎ Unused asked status (store_over tells disk disk_then told keep keep_then))
  unserved_before (inl bad) = inl (misread_before status format tells disk opened disk_then told keep put keep_then rests puts bad)
  unserved_before (inr (inl lost)) = inr (inl (record {
    sizes = sizes;
    opened_as = opened_still asked sizes (store_told tells disk.reads told keep.reads) put keep_then still is;
    log = unrecovered_around (whole sizes.segment) tells status disk opened disk_then disk_then rests lost (λ it. rests_start disk_then);
  }))
  unserved_before (inr (inr it)) = inr (inr (record {
    sizes = sizes;
    opened_as = opened_still asked sizes (store_told tells disk.reads told keep.reads) put keep_then still is;
    log = unused_before (whole sizes.segment) tells status disk opened disk_then rests it;
  }))
