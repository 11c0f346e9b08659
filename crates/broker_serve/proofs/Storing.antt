-- What the disk stores after a run, by the history that the threads made.
use Rattle.std.proofs.Common.{◌≡◌, ◌∙◌, ℕ, List, length, take, length-take, refl, ap, subst, arith}
use Rattle.mq_bytes.specs.Names.{log_file}
use Rattle.mq_outside.specs.Files.{Files, bytes_of}
use Rattle.mq_outside.specs.Disk.{DiskState, Rests}
use Rattle.mq_outside.proofs.Moments.{rests_start, rests_then}
use Rattle.record_codec.specs.Entry.{Entry}
use Rattle.log_model.specs.Bases.{Geometry, geometry, whole}
use Rattle.log_model.specs.Segments.{IsLogFile}
use Rattle.log_model.specs.Store.{StoresLog}
use Rattle.log_model.specs.Stored.{IsOutside, stored}
use Rattle.log_model.proofs.OutsideLemmas.{outside_then}
use Rattle.segment_files.specs.Turn.{Growing, IsInside, IsReady, growing}
use Rattle.segment_files.specs.declared.last_file.LastFile.{LastFile}
use Rattle.segment_files.proofs.Ready.{ready_as}
use Rattle.broker_model.specs.State.{State, Saved}
use Rattle.broker_model.specs.Run.{opened}
use Rattle.broker_events.specs.declared.event.Setup.{Setup}
use Rattle.core_log.specs.declared.parts.Parts.{Parts}
use Rattle.core_log.specs.Loads.{whole_log}
use Rattle.core_log.specs.Represents.{setup_of}
use Rattle.flush_story.specs.Story as stories
use Rattle.flush_story.specs.Keeping.{flushed_in, geometry_of, IsOpenFor}
use Rattle.flush_story.proofs.Keeps.{keeps_stores}
use Rattle.log_opening.specs.Opens.{OpensOursWith}
use Rattle.log_opening.specs.declared.opening.Opened.{Opened}
use Rattle.session.specs.Serving.{Made}
use Rattle.worker_turns.specs.Acts.{DiskView, Place, change_of, place_of}
use Rattle.exit_status.proofs.LogLemmas.{honest_rests, leaves_around, stays_rests, stores_rests}
use Rattle.serve_threads.specs.Served.{IsMadeBy, Views}
use Rattle.broker_serve.specs.Serves.{BeginsOn, IsAlike, LeavesCore, RunOver, StoresOn, StoresOpened, StoresOurs, before, behind}

-- ---- a disk that is lent

-- nothing was asked of it
pub alike_start : {D : Type 0} (view : DiskView D) (disk : D) → IsAlike view disk disk
alike_start view disk = record { rests = λ told. rests_start (view.state disk); faults = refl; syncs = refl }

pub alike_then : {D : Type 0} (view : DiskView D) (old mid new : D) → IsAlike view old mid → IsAlike view mid new → IsAlike view old new
alike_then view old mid new first second = record {
  rests = λ told. rests_then (first.rests told) (second.rests told);
  faults = second.faults ∙ first.faults;
  syncs = second.syncs ∙ first.syncs;
}

-- the next bytes go where they went
pub inside_rests : (base offset : ℕ) (old new : DiskState) → Rests old new → IsInside base offset old → IsInside base offset new
inside_rests base offset old new rests inside = omega (arith, ap (λ (files : Files). length (bytes_of files (log_file base))) rests.same, inside)

-- ---- the opening

-- a log of ours that was opened on a disk is open on one that is alike
ours_rests : (setup : Setup) (saved : Saved) (log : List Entry) (flushed : ℕ) (old new : DiskState) (it : Opened) → Rests old new
    → OpensOursWith setup saved log flushed old it → OpensOursWith setup saved log flushed new it
ours_rests setup saved log flushed old new it rests ours = record {
  number = ours.number;
  low = ours.low;
  high = ours.high;
  opens = ours.opens;
  ready = ready_as (stored (whole setup.segment) (take ours.number log) ours.number) 0 it.flusher.file old new (stays_rests IsLogFile old new rests) ours.ready;
}

module _ {D : Type 0} (setup : Setup) (saved : Saved) (it : Opened) (view : DiskView D) where
  -- a disk that was lent after the opening
  pub begins_then : (old mid began : D) → BeginsOn setup saved it view old mid → IsAlike view mid began → BeginsOn setup saved it view old began
  begins_then old mid began begins alike = record {
    ours = λ told log flushed stores honest.
        ours_rests setup saved log flushed (view.state mid) (view.state began) it (alike.rests told) (begins.ours told log flushed stores honest);
    leaves = λ told.
        leaves_around (whole setup.segment) (view.state old) (view.state old) (view.state mid) (view.state began) (rests_start (view.state old)) (begins.leaves told) (alike.rests told);
    outside = λ told. outside_then (begins.outside told) (stays_rests IsOutside (view.state mid) (view.state began) (alike.rests told));
    faults = alike.faults ∙ begins.faults;
  }

  -- seen from before the store was opened
  pub begins_before : (old mid began : D) → (view.tells → Rests (view.state old) (view.state mid)) → view.faults mid ≡ view.faults old → BeginsOn setup saved it view mid began
      → BeginsOn setup saved it view old began
  begins_before old mid began rests same begins = record {
    ours = λ told log flushed stores honest.
        begins.ours told log flushed (stores_rests (whole setup.segment) log flushed (view.state old) (view.state mid) (rests told) stores)
        (honest_rests (whole setup.segment) log flushed (view.state old) (view.state mid) (rests told) honest);
    leaves = λ told.
        leaves_around (whole setup.segment) (view.state old) (view.state mid) (view.state began) (view.state began) (rests told) (begins.leaves told) (rests_start (view.state began));
    outside = λ told. outside_then (stays_rests IsOutside (view.state old) (view.state mid) (rests told)) (begins.outside told);
    faults = begins.faults ∙ same;
  }

-- ---- the disk

-- the state of the opening
abbrev pub first_state : Setup → Saved → List Entry → State
first_state setup saved records = opened (setup_of setup) (whole_log records) saved

-- all of the log is flushed
pub open_for : (setup : Setup) (saved : Saved) (records : List Entry) (at : Growing) → IsReady (stored (whole setup.segment) records (length records)) 0 at
    → IsOpenFor (first_state setup saved records) at
open_for setup saved records at ready =
    let none : length records ≡ flushed_in (first_state setup saved records) = omega arith in
    record { behind = 0; few = λ no_zeros. omega arith; ready = subst (λ (n : ℕ). IsReady (stored (whole setup.segment) records n) 0 at) none ready }

-- what the turns of a history flushed is stored, and stays where the disk is given back
pub stores_opened : {D : Type 0} (views : Views D) (failures : ℕ × ℕ) (start : Parts) (file : LastFile) (began : D) (history : Made) (core : Parts) (ended : Place D) (new : DiskState)
    → IsMadeBy views failures history (change_of start (place_of file began) core ended) → views.disk.tells
    → ((S : Geometry) (log : List Entry) (flushed : ℕ) → StoresLog S log flushed (views.disk.state ended.disk) → StoresLog S log flushed new)
    → StoresOpened start file (views.disk.state began) core new
stores_opened views failures start file began history core ended new made told back setup saved records represents ready =
    let s = first_state setup saved records in
    let leads = made.leads s represents in
    let kept = leads.keeps told (open_for setup saved records (growing file (views.disk.state began)) ready) in
    let all : flushed_in s ≡ length records = omega arith in
    let S : geometry_of leads.reached ≡ whole setup.segment = λ i. geometry ((kept.grows.setup i).segment) ((kept.grows.log i).base) in
    record {
      reached = leads.reached;
      represents = leads.represents;
      more = kept.grows.more;
      begins = ap (λ l. l.records) kept.grows.log;
      flushed = omega (arith, kept.flushed, all);
      stores = back (whole setup.segment) leads.reached.log.records (flushed_in leads.reached)
          (subst (λ (G : Geometry). StoresLog G leads.reached.log.records (flushed_in leads.reached) (views.disk.state ended.disk)) S
          (keeps_stores s leads.reached (stories.turns_of leads.story) (growing file (views.disk.state began)) (growing ended.file (views.disk.state ended.disk)) kept));
    }

-- a log of ours that was opened is stored
pub stores_ours : (setup : Setup) (saved : Saved) (log : List Entry) (flushed : ℕ) (disk : DiskState) (it : Opened) (core : Parts) (new : DiskState)
    → OpensOursWith setup saved log flushed disk it → StoresOpened it.core it.flusher.file disk core new → StoresOn setup.segment log flushed core new
stores_ours setup saved log flushed disk it core new ours stores =
    let long : ours.number ≡ length (take ours.number log) = omega (arith, ours.high, length-take ours.number log) in
    record {
      number = ours.number;
      low = ours.low;
      high = ours.high;
      after = stores setup saved (take ours.number log) ours.opens.represents
          (subst (λ (n : ℕ). IsReady (stored (whole setup.segment) (take ours.number log) n) 0 (growing it.flusher.file disk)) long ours.ready);
    }

-- where links were served over it, from the disk that the opening left to the one that came back
pub stores_left : {D : Type 0} (views : Views D) (setup : Setup) (saved : Saved) (it : Opened) (core : Parts) (run : RunOver D) (ends : LeavesCore views it core run)
    → BeginsOn setup saved it views.disk run.disk ends.began → views.disk.tells → StoresOurs setup.segment (before views run) core (behind views run)
stores_left views setup saved it core run ends begins told log flushed was honest =
    stores_ours setup saved log flushed (views.disk.state ends.began) it core (behind views run) (begins.ours told log flushed was honest)
    (stores_opened views ends.failures it.core it.flusher.file ends.began ends.left.history core ends.ended (behind views run) ends.left.made told
    (λ S records number stores. stores_rests S records number (views.disk.state ends.ended.disk) (behind views run) (ends.back.rests told) stores))

-- also from a call before that changed nothing
pub ours_before : (segment : ℕ) (old mid : DiskState) (core : Parts) (new : DiskState) → Rests old mid → StoresOurs segment mid core new → StoresOurs segment old core new
ours_before segment old mid core new rests stores log flushed was honest =
    stores log flushed (stores_rests (whole segment) log flushed old mid rests was) (honest_rests (whole segment) log flushed old mid rests honest)
