-- A run of `pipe` from a log that is open, and what every crash leaves of it.
use Rattle.std.proofs.Math.Seq.{take-length}
use Rattle.std.proofs.Common.{◌≡◌, ⊎_elim, inl, slice_get, ◌∙◌, ℕ, ◌+◌, ◌≤◌, ◌++◌, List, [], ◌∷◌, Option, Some, Result, Ok, Err, length, take, refl, ap, sym, subst, arith, length-take}
use Rattle.mq_outside.specs.Readings.{Giving}
use Rattle.mq_outside.specs.Files.{Files, Same}
use Rattle.mq_outside.specs.Disk.{DiskState, EachImage, Moves, Throughout}
use Rattle.mq_outside.proofs.Moments.{each_same, at_start, goes_on, weaker}
use Rattle.record_codec.specs.Entry.{Entry}
use Rattle.log_model.specs.Bases.{Geometry, geometry, whole}
use Rattle.log_model.specs.Segments.{IsLogFile, Shape, opened, used, shape_of, AreFilesOf, AreSegmentFiles}
use Rattle.log_model.proofs.Lists.{get_take}
use Rattle.log_model.proofs.Steps.{stands_more, stands_exact}
use Rattle.log_model.specs.Store.{Keeps as RecoveryKeeps, StoresLog}
use Rattle.log_model.specs.Stored.{Stored, HasFirst, FlushTurn, KeepsAtLeast, stored, turned_by, turned_in}
use Rattle.log_model.proofs.OutsideLemmas.{stays_start, stays_same}
use Rattle.log_model.proofs.StoredLemmas.{first_keeps, keeps_then}
use Rattle.segment_files.specs.Turn.{IsReady, IsPlaced, NextOpens, Growing, growing}
use Rattle.segment_files.proofs.Ready.{ready_as, ready_first_records}
use Rattle.remoting_frame.specs.declared.frame.Frame.{Frame}
use Rattle.broker_model.specs.State.{State, Saved}
use Rattle.broker_model.specs.Run.{Boot, Move, Steps, Run}
use Rattle.broker_events.specs.declared.event.Event.{Event}
use Rattle.broker_events.specs.declared.said.Said.{Said}
use Rattle.broker_events.specs.Steps.{event_of}
use Rattle.broker_core.specs.declared.alone.Alone.{Alone}
use Rattle.core_log.specs.declared.parts.Parts.{Parts}
use Rattle.core_log.specs.Represents.{Represents}
use Rattle.log_opening.specs.Opens.{OpensWith, OpensKeptWith, OpensOursWith, OpensLogWith}
use Rattle.log_opening.specs.declared.opening.Opened.{Opened}
use Rattle.worker_turns.specs.Acts.{Act, HasUnwritten, Acts, Acted, DiskView, Place, place_of, growing_at, turns_of, steps_of, change_of}
use Rattle.worker_turns.specs.Turning.{AreAllTurns}
use Rattle.pipe_stream.specs.Serving.{Sides, Point, point_at, point_of, acts_of, Begun, Nothing, Asked, Closing, begun_acts, Breaks}
use Rattle.pipe_stream.specs.Piping.{RanToEnd, acts_in}
use Rattle.broker_run.specs.Closing.{ServesToEnd, ReadsPlaced, FlushesPlaced, ending_of, ended_as}
use Rattle.flush_story.specs.Story.{Reaches}
use Rattle.flush_story.specs.Keeping.{IsPlacedFor, flushed_in, geometry_of, log_in, IsOpenFor, AreExact, Keeps}
use Rattle.flush_story.proofs.Keeps.{kept_as}
use Rattle.flush_story.proofs.Turns.{order_on, exact_later, turned_most}
use Rattle.flush_story.specs.Leads.{alone}
use Rattle.flush_story.proofs.ActStory.{acts_lead, acts_written}
use Rattle.exit_status.specs.Stores.{Leaves}
use Rattle.broker_run.specs.Promise.{AreMoves, opened_over, Seen, before, behind, sides_for, Survives, RunFrom, BeginsWithKept, KeepsOn, RunsFromSome, KeepsAfter, LeavesDisk, KeepsOpen, ServedOver, KeepSeen}
use Rattle.pipe_stream.specs.declared.stop.Halt.{Halt}
use Rattle.pipe_stream.specs.declared.stop.Halt.TheVariants.{BadFrame, Read, Stopped}
use Rattle.worker_turns.specs.declared.broken.Broken.{Broken}
use Rattle.worker_turns.specs.declared.broken.Broken.TheVariants as broken
use Rattle.pipe_stream.specs.declared.stop.Stop.TheVariants as stops
use Rattle.store_open.specs.declared.status.Status.{Status}
use Rattle.broker_events.specs.declared.event.Setup.{Setup}
use Rattle.broker_run.specs.declared.ended.Ended.{Ended}
use Rattle.worker_turns.proofs.ActLemmas.{acts_then, unwritten_behind}

-- ---- the model's run

pub moves_of : (steps : List (Event × Option Said)) (s t : State) (before : List State) → Reaches s steps t
    → (moves : List Move) × (boot : Boot) × AreMoves steps moves × Run (record { now = s; before = before }) moves boot × (boot.now ≡ t)
moves_of [] s t before reaches = ([], record { now = s; before = before }, tt, refl, sym reaches)
moves_of (it ∷ steps) s t before reaches =
    let next : Boot = record { now = reaches.0; before = s ∷ before } in
    let rest = moves_of steps reaches.0 t (s ∷ before) reaches.2 in
    (Steps (event_of it.0) reaches.1.answer ∷ rest.0, rest.1, ((reaches.1.answer, refl, reaches.1.says), rest.2), (next, (reaches.1.step, refl), tt, rest.3), rest.4)

-- ---- what happened

ran_happened : {C D A : Type 0} (sides : Sides C D) (result : Result A Halt) (frames : List Frame) (x y : C) (old new : Point D) (ran : RanToEnd sides result frames (change_of x old y new))
    → Acts sides.makes sides.disk (acts_in sides result frames (change_of x old y new) ran) (change_of x old.place y new.place)
ran_happened sides (Ok done) frames x y old new ran = ran.happened
ran_happened sides (Err (BadFrame place)) frames x y old new ran = ran.happened
ran_happened sides (Err Read) frames x y old new ran = ran.happened
ran_happened sides (Err (Stopped stop)) frames x y old new ran = ran.happened

-- ---- the reader is given back

-- a call that changes nothing, behind acts
keeps_same : (s u : State) (turns : List FlushTurn) (p r : Growing) (disk : DiskState) → Moves Same r.disk disk → Keeps s u turns p r → Keeps s u turns p (growing r.file disk)
keeps_same s u turns p r disk moves kept =
    let S = geometry_of u in
    let first = ready_first_records (log_in u) kept.still_open.behind r.file r.disk kept.still_open.ready in
    let still = goes_on (at_start r.disk (HasFirst S u.log.records (flushed_in u)) first) moves (each_same moves first) in
    let during : KeepsAtLeast S u.log.records (λ m. flushed_in u) r.disk disk = record { continues = weaker still (λ files has. tt); each = still.each } in
    record {
      grows = kept.grows;
      flushed = kept.flushed;
      kept = keeps_then S u.log.records (λ m. flushed_in s + turned_by turns m) p.disk r.disk disk kept.kept
          (kept_as S u.log.records (λ m. flushed_in u) (λ m. flushed_in s + turned_by turns m) r.disk disk (λ m. omega (arith, kept.flushed, turned_most turns m)) during);
      order = order_on p.disk.moment r.disk.moment disk.moment turns moves.later kept.order;
      exact = λ none. exact_later S u.log.records (flushed_in s) p.disk.moment turns r.disk disk during.continues kept.order (kept.exact none);
      ahead = kept.ahead;
      still_open = record {
        behind = kept.still_open.behind;
        few = kept.still_open.few;
        ready = ready_as (log_in u) kept.still_open.behind r.file r.disk disk (stays_same (stays_start IsLogFile r.disk) moves) kept.still_open.ready;
      };
    }

-- ---- a run from a log that is open

-- no record comes behind the last
no_next : (setup : Setup) (log : List Entry) → NextOpens (stored (whole setup.segment) log (length log)) → ⊥
no_next setup log opens =
    let got = get_take (length log) (length log) log opens.next (subst (λ (l : List Entry). slice_get l (length log) ≡ Some opens.next) (sym (take-length log)) opens.is) in
    omega (arith, got.1)

-- nothing stands behind the records of a log that was opened
ready_exact : (setup : Setup) (log : List Entry) (at : Growing) → IsReady (stored (whole setup.segment) log (length log)) 0 at → EachImage (AreSegmentFiles (whole setup.segment) log) at.disk
ready_exact setup log at ready =
    let S : Geometry = whole setup.segment in
    let it : Stored = stored S log (length log) in
    let same : ready.shape ≡ shape_of S log = ⊎_elim
    (λ (here : ready.shape ≡ shape_of S (take (length log) log)). here ∙ ap (λ (l : List Entry). shape_of S l) (take-length log))
    (λ (next : (ready.shape ≡ opened (shape_of S (take (length log) log))) × NextOpens it). absurd (no_next setup log next.1))
    ready.laid in
    let low : ready.reach ≤ used ready.shape = ⊎_elim
    (λ (short : ready.reach ≤ at.file.offset + 0). omega (arith, short, ready.writes.place.end))
    (λ (next : (ready.shape ≡ shape_of S (take (length log) log)) × NextOpens it). absurd (no_next setup log next.1))
    ready.short in
    record {
      at = λ files image. subst (λ (shape : Shape). AreFilesOf S shape files) same
          (stands_exact S ready.shape files (stands_more S ready.shape ready.reach (used ready.shape) files low (ready.writes.stores.each.at files image)));
    }

keeps_after : (setup : Setup) (saved : Saved) (log : List Entry) (acts : List Act) (u : State) (p r : Growing) → p.file.ahead ≡ 0
    → EachImage (AreSegmentFiles (whole setup.segment) log) p.disk → Keeps (opened_over setup saved log).now u (turns_of acts) p r → KeepsAfter setup log acts u p.disk r.disk
keeps_after setup saved log acts u p r none opened kept =
    let s = (opened_over setup saved log).now in
    let all : flushed_in s ≡ length log = omega arith in
    let S : geometry_of u ≡ whole setup.segment = λ i. geometry ((kept.grows.setup i).segment) ((kept.grows.log i).base) in
    record {
      kept = subst (λ (n : ℕ). KeepsAtLeast (whole setup.segment) u.log.records (λ m. n + turned_by (turns_of acts) m) p.disk r.disk) all
          (subst (λ (G : Geometry). KeepsAtLeast G u.log.records (λ m. flushed_in s + turned_by (turns_of acts) m) p.disk r.disk) S kept.kept);
      opened = opened;
      order = kept.order;
      exact = subst (λ (n : ℕ). AreExact (whole setup.segment) u.log.records n (turns_of acts) r.disk) all
          (subst (λ (G : Geometry). AreExact G u.log.records (flushed_in s) (turns_of acts) r.disk) S (kept.exact none));
      stores = subst (λ (n : ℕ). StoresLog (whole setup.segment) u.log.records n r.disk) (kept.flushed ∙ ap (λ (n : ℕ). n + turned_in (turns_of acts)) all)
          (subst (λ (G : Geometry). StoresLog G u.log.records (flushed_in u) r.disk) S
          (record { shape = kept.still_open.ready.shape; reach = kept.still_open.ready.reach; at = kept.still_open.ready.writes.stores }));
    }

-- all of the log is flushed
open_for : (setup : Setup) (saved : Saved) (log : List Entry) (at : Growing) → IsReady (stored (whole setup.segment) log (length log)) 0 at → IsOpenFor (opened_over setup saved log).now at
open_for setup saved log at ready =
    let none : length log ≡ flushed_in (opened_over setup saved log).now = omega arith in
    record { behind = 0; few = λ no_zeros. omega arith; ready = subst (λ (n : ℕ). IsReady (stored (whole setup.segment) log n) 0 at) none ready }

pub run_from : {D : Type 0} (it : Opened) (ended : Ended) (seen : Seen D) (setup : Setup) (saved : Saved) (log : List Entry) (x y : Alone) (reads : ℕ) → OpensWith setup saved log it → x.core ≡ it.core
    → ServesToEnd (sides_for seen) ended seen.source x (point_of (place_of it.flusher.file seen.old) reads seen.taken seen.readings) (ending_of y seen.new seen.taken_then seen.readings_then)
    → RunFrom setup saved log (ended_as ended.reading ended.last) seen (λ acts reached. LeavesDisk it seen setup log acts reached × Represents y.core reached)
run_from {D = D} it ended seen setup saved log x y reads opens same served =
    let sides = sides_for seen in
    let s = (opened_over setup saved log).now in
    let place : Place D = place_of it.flusher.file seen.old in
    let start = point_of place reads seen.taken seen.readings in
    let mid = point_at served.mid served.reads seen.taken_then seen.readings_then served.piped.asked in
    let are : Represents x.core s = subst (λ (c : Parts). Represents c s) (sym same) opens.represents in
    let first = acts_in sides ended.reading served.piped.frames (change_of x start served.served mid) served.piped.ran in
    let acts = first ++ served.flushed.acts in
    let happened = acts_then alone seen.disk first served.flushed.acts x served.served y place served.mid served.final
    (ran_happened sides ended.reading served.piped.frames x served.served start mid served.piped.ran) served.flushed.happened in
    let led = acts_lead seen.disk acts s x y place served.final are happened in
    let moves = moves_of (steps_of acts) s led.reached [] led.steps in
    record {
      calls = x;
      served = served.served;
      closed = y;
      place = place;
      mid = served.mid;
      final = served.final;
      reads = reads;
      reads_then = served.reads;
      first = first;
      piped = served.piped;
      first_is = refl;
      flushed = served.flushed;
      reached = led.reached;
      runs = record { moves = moves.0; boot = moves.1; are = moves.2; run = moves.3; reached_is = moves.4 };
      done = (
        λ told none ready. keeps_after setup saved log acts led.reached (growing it.flusher.file (before seen)) (growing served.final.file (behind seen)) none
            (ready_exact setup log (growing it.flusher.file (before seen)) ready)
            (keeps_same s led.reached (turns_of acts) (growing it.flusher.file (before seen)) (growing_at seen.disk served.final) (behind seen) (served.back told)
            (led.keeps told (open_for setup saved log (growing it.flusher.file (before seen)) ready))),
        led.represents,
      );
    }

-- the same run, of whose last state more is said
pub run_with : {D : Type 0} (setup : Setup) (saved : Saved) (log : List Entry) (ended : Result (Unit {0}) Halt) (last : Result (Option ℕ) Broken) (seen : Seen D) (P : List Act → State → Type 0) (R Q : State → Type 0)
    → ((reached : State) → R reached → Q reached) → RunFrom setup saved log (ended_as ended last) seen (λ acts reached. P acts reached × R reached)
    → RunFrom setup saved log (ended_as ended last) seen (λ acts reached. P acts reached × Q reached)
run_with setup saved log ended last seen P R Q as_well ran = record {
  calls = ran.calls;
  served = ran.served;
  closed = ran.closed;
  place = ran.place;
  mid = ran.mid;
  final = ran.final;
  reads = ran.reads;
  reads_then = ran.reads_then;
  first = ran.first;
  piped = ran.piped;
  first_is = ran.first_is;
  flushed = ran.flushed;
  reached = ran.reached;
  runs = ran.runs;
  done = (ran.done.0, as_well ran.reached ran.done.1);
}

-- ---- no batch is misplaced

-- the flusher writes where the log ends, all of which is flushed
placed_for : (setup : Setup) (saved : Saved) (log : List Entry) (it : Opened) → OpensWith setup saved log it → IsPlacedFor (opened_over setup saved log).now it.flusher.file
placed_for setup saved log it opens =
    let none : length log ≡ flushed_in (opened_over setup saved log).now = omega arith in
    record { within = omega arith; placed = subst (λ (n : ℕ). IsPlaced (stored (whole setup.segment) log n) it.flusher.file) none (inl opens.placed) }

begun_unwritten : (gives : Giving) (begun : Begun) (faults faults_then : ℕ) → Breaks gives stops.Misplaced begun faults faults_then → HasUnwritten (begun_acts begun)
begun_unwritten gives Nothing faults faults_then breaks = absurd breaks
begun_unwritten gives (Asked it) faults faults_then breaks = breaks.0
begun_unwritten gives (Closing reading asks acts) faults faults_then breaks = breaks.0

reads_placed : {D A : Type 0} (seen : Seen D) (result : Result A Halt) (frames : List Frame) (s : State) (x y : Alone) (old new : Point D) → Represents x.core s
    → IsPlacedFor s old.place.file → RanToEnd (sides_for seen) result frames (change_of x old y new) → ReadsPlaced result
reads_placed seen (Ok done) frames s x y old new are here ran = tt
reads_placed seen (Err (BadFrame place)) frames s x y old new are here ran = tt
reads_placed seen (Err Read) frames s x y old new are here ran = tt
reads_placed seen (Err (Stopped stops.Clock)) frames s x y old new are here ran = tt
reads_placed seen (Err (Stopped stops.Sink)) frames s x y old new are here ran = tt
reads_placed seen (Err (Stopped stops.Memory)) frames s x y old new are here ran = tt
reads_placed seen (Err (Stopped stops.Misplaced)) frames s x y old new are here ran =
    acts_written seen.disk (acts_of ran.served ++ begun_acts ran.begun) s x y old.place new.place are here ran.happened
    (unwritten_behind (acts_of ran.served) (begun_acts ran.begun) (begun_unwritten seen.gives ran.begun ran.mid new.reads ran.breaks))

flushes_placed : {D : Type 0} (view : DiskView D) (result : Result (Option ℕ) Broken) (s : State) (x y : Alone) (p q : Place D) → Represents x.core s → IsPlacedFor s p.file
    → Acted alone view (AreAllTurns result) (change_of x p y q) → FlushesPlaced result
flushes_placed view (Ok done) s x y p q are here acted = tt
flushes_placed view (Err broken.Misplaced) s x y p q are here acted = acts_written view acted.acts s x y p q are here acted.happened acted.kind
flushes_placed view (Err broken.Memory) s x y p q are here acted = tt

-- nor in a whole run
pub run_placed : {D : Type 0} (it : Opened) (ended : Ended) (seen : Seen D) (setup : Setup) (saved : Saved) (log : List Entry) (x y : Alone) (reads : ℕ) → OpensWith setup saved log it → x.core ≡ it.core
    → ServesToEnd (sides_for seen) ended seen.source x (point_of (place_of it.flusher.file seen.old) reads seen.taken seen.readings) (ending_of y seen.new seen.taken_then seen.readings_then)
    → ReadsPlaced ended.reading × FlushesPlaced ended.last
run_placed {D = D} it ended seen setup saved log x y reads opens same served =
    let sides = sides_for seen in
    let s = (opened_over setup saved log).now in
    let place : Place D = place_of it.flusher.file seen.old in
    let start = point_of place reads seen.taken seen.readings in
    let mid = point_at served.mid served.reads seen.taken_then seen.readings_then served.piped.asked in
    let are : Represents x.core s = subst (λ (c : Parts). Represents c s) (sym same) opens.represents in
    let here = placed_for setup saved log it opens in
    let first = acts_in sides ended.reading served.piped.frames (change_of x start served.served mid) served.piped.ran in
    let led = acts_lead seen.disk first s x served.served place served.mid are
    (ran_happened sides ended.reading served.piped.frames x served.served start mid served.piped.ran) in (
      reads_placed seen ended.reading served.piped.frames s x served.served start mid are here served.piped.ran,
      flushes_placed seen.disk ended.last led.reached served.served y served.mid served.final led.represents (led.places here) served.flushed,
    )

-- ---- seen from before the opening

-- what is seen of a call from the moment on at which the log was open
abbrev pub seen_open : {D : Type 0} → Seen D → D → Seen D
seen_open seen disk = record {
  source = seen.source;
  gives = seen.gives;
  disk = seen.disk;
  sink = seen.sink;
  clock = seen.clock;
  old = disk;
  new = seen.new;
  taken = seen.taken;
  taken_then = seen.taken_then;
  readings = seen.readings;
  readings_then = seen.readings_then;
}

run_as : {D : Type 0} (setup : Setup) (saved : Saved) (log : List Entry) (ended : Result (Unit {0}) Halt) (last : Result (Option ℕ) Broken) (seen : Seen D) (disk : D) (P Q : List Act → State → Type 0)
    → ((acts : List Act) (reached : State) → P acts reached → Q acts reached) → RunFrom setup saved log (ended_as ended last) (seen_open seen disk) P → RunFrom setup saved log (ended_as ended last) seen Q
run_as setup saved log ended last seen disk P Q as_well ran = record {
  calls = ran.calls;
  served = ran.served;
  closed = ran.closed;
  place = ran.place;
  mid = ran.mid;
  final = ran.final;
  reads = ran.reads;
  reads_then = ran.reads_then;
  first = ran.first;
  piped = ran.piped;
  first_is = ran.first_is;
  flushed = ran.flushed;
  reached = ran.reached;
  runs = ran.runs;
  done = as_well (ran.first ++ ran.flushed.acts) ran.reached ran.done;
}

survives : (setup : Setup) (log : List Entry) (flushed : ℕ) (opening : List Entry) (acts : List Act) (reached : State) (old mid new : DiskState)
    → Throughout old mid (Leaves (whole setup.segment) log flushed) → KeepsAfter setup opening acts reached mid new
    → Survives (stored (whole setup.segment) log flushed) opening (turns_of acts) reached.log.records old new
survives setup log flushed opening acts reached old mid new leaves kept = record {
  opening = mid.moment;
  later = leaves.later;
  order = kept.order;
  before = λ m files low high image. leaves.each m files low high (kept.kept.continues.past m files high image);
  opened = λ files image. kept.opened.at files (kept.kept.continues.past mid.moment files (omega arith) image);
  after = λ m files low high image.
      let least : ℕ = length opening + turned_by (turns_of acts) m in
      let first = kept.kept.each m files low high image in
      record { has = first; keeps = first_keeps (whole setup.segment) reached.log.records least files kept.stores.at.well_formed first };
  exact = kept.exact;
  stores = kept.stores;
}

-- what is left of the kept files
pub left_open : {D : Type 0} (it : Opened) (status : Status) (seen : Seen D) (setup : Setup) (saved : Saved) (keep : KeepSeen) → ServedOver it status seen keep → OpensLogWith setup saved it
    → (s : State) × KeepsOpen status keep s
left_open it status seen setup saved keep served opens = let ran = served.runs setup saved opens.records opens.opens in (ran.reached, ran.done.1)

module _ {D : Type 0} (it : Opened) (status : Status) (seen : Seen D) (disk : D) (setup : Setup) (saved : Saved) (keep : KeepSeen) (kept : State → Type 0)
    (as_well : (reached : State) → KeepsOpen status keep reached → kept reached) (served : ServedOver it status (seen_open seen disk) keep) where
  pub runs_some : OpensLogWith setup saved it → RunsFromSome setup saved (ended_as served.ended served.last) seen kept
  runs_some opens = record {
    log = opens.records;
    ran = run_as setup saved opens.records served.ended served.last seen disk _ (λ acts reached. kept reached) (λ acts reached done. as_well reached done.1)
        (served.runs setup saved opens.records opens.opens);
  }

  pub begins_with : (files : Files) → files ≡ (before seen).reads → OpensKeptWith setup saved files it → BeginsWithKept setup saved (ended_as served.ended served.last) seen kept
  begins_with files same opens = record {
    records = opens.records;
    keeps = subst (λ (f : Files). RecoveryKeeps (whole setup.segment) opens.records f) same opens.keeps;
    ran = run_as setup saved opens.records served.ended served.last seen disk _ (λ acts reached. kept reached) (λ acts reached done. as_well reached done.1)
        (served.runs setup saved opens.records opens.opens);
  }

  pub keeps_on : seen.disk.tells → it.flusher.file.ahead ≡ 0 → (log : List Entry) (flushed : ℕ) → OpensOursWith setup saved log flushed (seen.disk.state disk) it → Throughout (before seen) (seen.disk.state disk) (Leaves (whole setup.segment) log flushed)
      → KeepsOn setup saved (stored (whole setup.segment) log flushed) (ended_as served.ended served.last) seen kept
  keeps_on told none log flushed opens leaves =
      let opening = take opens.number log in
      let long : opens.number ≡ length opening = omega (arith, opens.high, length-take opens.number log) in
      record {
        number = opens.number;
        low = opens.low;
        high = opens.high;
        ran = run_as setup saved opening served.ended served.last seen disk _
            (λ acts reached. Survives (stored (whole setup.segment) log flushed) opening (turns_of acts) reached.log.records (before seen) (behind seen) × kept reached)
            (λ acts reached done. (
              survives setup log flushed opening acts reached (before seen) (seen.disk.state disk) (behind seen) leaves
                  (done.0 told none (subst (λ (n : ℕ). IsReady (stored (whole setup.segment) opening n) 0 (growing it.flusher.file (seen.disk.state disk))) long opens.ready)),
              as_well reached done.1,
            ))
            (served.runs setup saved opening opens.opens);
      }
