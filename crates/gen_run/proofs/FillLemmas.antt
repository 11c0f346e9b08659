-- A run from a log without records, and what it leaves of the disk.
use Rattle.std.proofs.Common.{◌≡◌, ℕ, ◌+◌, List, [], ◌∷◌, length, take, refl, sym, subst, arith, length-take}
use Rattle.mq_outside.specs.Disk.{DiskState, Rests}
use Rattle.mq_outside.specs.Files.{Files}
use Rattle.record_codec.specs.Entry.{Entry}
use Rattle.log_model.specs.Bases.{Geometry, geometry, whole}
use Rattle.log_model.specs.Numbered.{count_of}
use Rattle.log_model.specs.Store.{IsHonest, Keeps as KeepsOf, StoresLog}
use Rattle.log_model.specs.Stored.{FlushTurn, stored}
use Rattle.segment_files.specs.Turn.{Growing, IsReady, growing}
use Rattle.segment_files.specs.declared.last_file.LastFile.{LastFile}
use Rattle.broker_model.specs.State.{State}
use Rattle.broker_core.specs.declared.alone.Alone.{Alone}
use Rattle.core_log.specs.Counts.{AreCountsOf}
use Rattle.core_log.specs.declared.counts.Counts.{Counts}
use Rattle.core_log.specs.declared.parts.Parts.{Parts}
use Rattle.core_log.specs.Represents.{Represents}
use Rattle.log_opening.specs.Opens.{OpensWith, OpensLog, OpensOurs, no_saved}
use Rattle.log_opening.specs.declared.opening.Opened.{Opened}
use Rattle.worker_turns.specs.Acts.{Acted, DiskView, growing_at, place_of, turns_of, change_of}
use Rattle.flush_story.specs.Keeping.{IsOpenFor, Keeps, flushed_in, geometry_of}
use Rattle.flush_story.specs.Leads.{alone}
use Rattle.flush_story.proofs.ActStory.{acts_lead}
use Rattle.exit_status.proofs.LogLemmas.{honest_rests, stores_rests}
use Rattle.gen_run.specs.Fills.{HasFilled, OpensEmpty, empty_state, gen_setup}
use Rattle.gen_run.specs.Rounds.{AreAll}
use Rattle.gen_run.specs.Sums.{IsSummaryOf}
use Rattle.gen_run.specs.declared.summary.Summary.{Summary}

-- ---- the opening

none_of : (records : List Entry) → length records ≡ 0 → records ≡ []
none_of [] short = refl
none_of (r ∷ records) short = absurd (omega (arith, short))

-- a log that was opened, and counts no record, has none
pub counts_none : (segment : ℕ) (records : List Entry) (it : Opened) (counts : Counts) → OpensWith (gen_setup segment) no_saved records it
    → ((s : State) → Represents it.core s → AreCountsOf s counts) → counts.records ≡ 0 → records ≡ []
counts_none segment records it counts opens told zero =
    let number : counts.records ≡ 0 + length records = (told _ opens.represents).records in
    none_of records (omega (arith, number, zero))

pub opens_empty : (segment : ℕ) (it : Opened) (counts : Counts) → OpensLog (gen_setup segment) it → ((s : State) → Represents it.core s → AreCountsOf s counts) → counts.records ≡ 0
    → OpensWith (gen_setup segment) no_saved [] it
opens_empty segment it counts log told zero =
    subst (λ (l : List Entry). OpensWith (gen_setup segment) no_saved l it) (counts_none segment log.records it counts log.opens told zero) log.opens

pub ready_empty : (segment flushed : ℕ) (log : List Entry) (disk : DiskState) (it : Opened) (counts : Counts) → OpensOurs (gen_setup segment) log flushed disk it
    → ((s : State) → Represents it.core s → AreCountsOf s counts) → counts.records ≡ 0 → IsReady (stored (whole segment) [] 0) 0 (growing it.flusher.file disk)
ready_empty segment flushed log disk it counts ours told zero =
    let none : take ours.number log ≡ [] = counts_none segment (take ours.number log) it counts ours.opens told zero in
    let short : length (take ours.number log) ≡ 0 = subst (λ (l : List Entry). length l ≡ 0) (sym none) refl in
    let at : ours.number ≡ 0 = omega (arith, short, length-take ours.number log, ours.high) in
    subst (λ (n : ℕ). IsReady (stored (whole segment) [] n) 0 (growing it.flusher.file disk)) at
    (subst (λ (l : List Entry). IsReady (stored (whole segment) l ours.number) 0 (growing it.flusher.file disk)) none ours.ready)

pub opened_empty : (tells : Type 0) (segment : ℕ) (it : Opened) (counts : Counts) (old new : DiskState) → OpensLog (gen_setup segment) it
    → (tells → (log : List Entry) (flushed : ℕ) → StoresLog (whole segment) log flushed old → IsHonest (whole segment) log flushed old.reads → OpensOurs (gen_setup segment) log flushed new it)
    → ((s : State) → Represents it.core s → AreCountsOf s counts) → counts.records ≡ 0 → (tells → KeepsOf (whole segment) [] old.reads) → OpensEmpty tells segment old new it
opened_empty tells segment it counts old new log ours told zero none = record {
  none = none;
  opens = opens_empty segment it counts log told zero;
  ready = λ tell l flushed stores honest. ready_empty segment flushed l new it counts (ours tell l flushed stores honest) told zero;
}

-- the same of the disk before a reading that changed nothing
pub opened_before : (tells : Type 0) (segment : ℕ) (it : Opened) (old mid new : DiskState) → (tells → Rests old mid) → OpensEmpty tells segment mid new it → OpensEmpty tells segment old new it
opened_before tells segment it old mid new rests empty = record {
  none = λ tell. subst (λ (files : Files). KeepsOf (whole segment) [] files) (rests tell).same (empty.none tell);
  opens = empty.opens;
  ready = λ tell l flushed stores honest.
      empty.ready tell l flushed (stores_rests (whole segment) l flushed _ _ (rests tell) stores) (honest_rests (whole segment) l flushed _ _ (rests tell) honest);
}

-- ---- the run

-- all of a log without records is flushed
open_for : (segment : ℕ) (at : Growing) → IsReady (stored (whole segment) [] 0) 0 at → IsOpenFor (empty_state segment) at
open_for segment at ready =
    let none : 0 ≡ flushed_in (empty_state segment) = omega arith in
    record { behind = 0; few = λ no_zeros. omega arith; ready = subst (λ (n : ℕ). IsReady (stored (whole segment) [] n) 0 at) none ready }

stores_all : (segment : ℕ) (u : State) (p r : Growing) (turns : List FlushTurn) → Keeps (empty_state segment) u turns p r → u.flushed ≡ count_of u.log → StoresLog (whole segment) u.log.records (length u.log.records) r.disk
stores_all segment u p r turns keeps flushed =
    let S : geometry_of u ≡ whole segment = λ i. geometry ((keeps.grows.setup i).segment) ((keeps.grows.log i).base) in
    let all : flushed_in u ≡ length u.log.records = omega (arith, flushed) in
    subst (λ (n : ℕ). StoresLog (whole segment) u.log.records n r.disk) all
    (subst (λ (G : Geometry). StoresLog G u.log.records (flushed_in u) r.disk) S
    (record { shape = keeps.still_open.ready.shape; reach = keeps.still_open.ready.reach; at = keeps.still_open.ready.writes.stores }))

pub filled : {D : Type 0} (view : DiskView D) (segment items start found : ℕ) (summary : Summary) (it : Opened) (x y : Alone) (old : DiskState) (mid new after : D) (file : LastFile)
    → OpensEmpty view.tells segment old (view.state mid) it → x.core ≡ it.core
    → Acted alone view (AreAll start items found) (change_of x (place_of it.flusher.file mid) y (place_of file new))
    → (view.tells → Rests (view.state new) (view.state after))
    → ((s : State) → Represents y.core s → (s.dispatched ≡ count_of s.log) × IsSummaryOf items start found s.log summary)
    → HasFilled view.tells segment items start summary old (view.state after)
filled view segment items start found summary it x y old mid new after file opens same acted rests told =
    let s = empty_state segment in
    let are : Represents x.core s = subst (λ (c : Parts). Represents c s) (sym same) opens.opens.represents in
    let led = acts_lead view acted.acts s x y (place_of it.flusher.file mid) (place_of file new) are acted.happened in
    let sums = told led.reached led.represents in
    let flushed : led.reached.flushed ≡ count_of led.reached.log = omega (arith, sums.0, led.represents.state.dispatched, led.represents.state.flushed) in
    record {
      none = opens.none;
      found = found;
      acts = acted.acts;
      reached = led.reached;
      given = acted.kind;
      runs = led.steps;
      flushed = flushed;
      seen = sums.0;
      leaves = λ tell log n stores honest.
          stores_rests (whole segment) led.reached.log.records (length led.reached.log.records) _ _ (rests tell)
          (stores_all segment led.reached (growing it.flusher.file (view.state mid)) (growing_at view (place_of file new)) (turns_of acted.acts)
          (led.keeps tell (open_for segment (growing it.flusher.file (view.state mid)) (opens.ready tell log n stores honest))) flushed);
      sums = sums.1;
    }
