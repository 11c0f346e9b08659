use Rattle.std.proofs.Common.{◌∙◌, ℕ, sym, subst}
use Rattle.std.specs.Prelude.{IsSome}
use Rattle.log_model.specs.Stored.{StaysOutside}
use Rattle.core_log.specs.declared.parts.Parts.{Parts}
use Rattle.segment_files.specs.declared.last_file.LastFile.{LastFile}
use Rattle.worker_turns.specs.Acts.{change_of, place_of, view_of}
use Rattle.worker_turns.specs.declared.flush.FlushEnd.{FlushEnd}
use Rattle.event_loops.specs.Doors.{GaveAll}
use Rattle.event_loops.specs.declared.event_loop.LoopEnd.{LoopEnd}
use Rattle.flush_rounds.specs.Causes.{BlamesDisk}
use Rattle.serve_threads.specs.Causes.{BlamesWorld, world_faults}
use Rattle.loop_threads.specs.Kept.{keep_over}
use Rattle.serve_threads.specs.Worlds.{Readings, readings_of}
use Rattle.serve_threads.specs.Links.{AreAllThatCame, links_over}
use Rattle.serve_threads.specs.Served.{IsLeft, clocks_over, views_of}
use Rattle.serve_threads.proofs.served.serve.Goals as goal

pub returns-in-Ok-run_seated-clause-left : goal.returns-in-Ok-run_seated-clause-left
returns-in-Ok-run_seated-clause-left g c =
    let devices = c.args.devices in
    let place = place_of devices.flusher.file devices.disk in
    let seated = c.in-Ok-run_seated in
    let readings = g.K.Clock.readings in
    let over = links_over g.P.Link.Link.tells g.P.Ends.Ends.tells g.P.Ends.Ends.entries in
    let views = λ (was now : Readings).
    views_of (over seated.left.ends) g.R.Reader.gives (clocks_over g.K.Clock.tells was now) (view_of g.D.Disk.tells g.D.Disk.state g.D.Disk.faults g.D.Disk.syncs) in
    let was = readings_of readings c.args.loops.world in
    let now = readings_of readings seated.left.world in
    let keep = keep_over g.E.Keep.tells (g.E.Keep.state devices.keep) (g.E.Keep.state c.close.result.keep) in
    let faults = g.R.Reader.faults in
    let failed : ℕ × ℕ = (faults c.close.result.readers.0, faults c.close.result.readers.1) in
    let readers = c.close.ensures.readers in
    subst (λ x. (file : LastFile) × IsLeft (views_of (over x) g.R.Reader.gives
    (clocks_over g.K.Clock.tells was (readings_of readings c.close.result.world)) (view_of g.D.Disk.tells g.D.Disk.state g.D.Disk.faults g.D.Disk.syncs)) failed
    (change_of c.args.core place c.close.result.core (place_of file c.close.result.disk)) keep c.close.result.kept) (sym c.close.ensures.ends.3)
    (subst (λ w. (file : LastFile) × IsLeft (views was (readings_of readings w)) failed (change_of c.args.core place c.close.result.core (place_of file c.close.result.disk)) keep
    c.close.result.kept) (sym c.close.ensures.ends.2)
    (subst (λ r. (file : LastFile) × IsLeft (views was now) (faults r.0, faults r.1) (change_of c.args.core place c.close.result.core (place_of file c.close.result.disk)) keep c.close.result.kept)
    (sym readers)
    (subst (λ (core : Parts). (file : LastFile) × IsLeft (views was now) (faults seated.left.readers.0, faults seated.left.readers.1) (change_of core place c.close.result.core (place_of file c.close.result.disk)) keep c.close.result.kept)
    c.in-Ok-open.ensures.spine.0 (c.close.ensures.left place devices.keep was seated.ensures.made seated.ensures.kept))))

pub returns-in-Ok-run_seated-clause-outside : goal.returns-in-Ok-run_seated-clause-outside
returns-in-Ok-run_seated-clause-outside g c = λ tells.
    subst (λ d. StaysOutside (g.D.Disk.state c.args.devices.disk) (g.D.Disk.state d)) (sym c.close.ensures.disk) (c.in-Ok-run_seated.ensures.outside tells)

pub returns-in-Ok-run_seated-clause-cause : goal.returns-in-Ok-run_seated-clause-cause
returns-in-Ok-run_seated-clause-cause g c =
    let ends = c.close.ensures.ends in
    let seated = c.in-Ok-run_seated in
    let faults = g.D.Disk.faults in
    let world = world_faults g.P.Ready.faults g.P.Door.Door.faults g.K.Clock.faults in
    record {
      loops = subst (λ w. BlamesWorld c.close.result.end (world c.args.loops.world) (world w)) (sym ends.2)
          (subst (λ (e : LoopEnd). BlamesWorld e (world c.args.loops.world) (world seated.left.world)) (sym ends.0) seated.ensures.cause);
      flush = subst (λ d. BlamesDisk c.close.result.last (faults c.args.devices.disk) (faults d)) (sym c.close.ensures.disk)
          (subst (λ (e : FlushEnd). BlamesDisk e (faults c.args.devices.disk) (faults seated.left.disk)) (sym ends.1) seated.ensures.disk_cause);
      keep = c.close.ensures.cause _ seated.ensures.keep_grows;
    }

pub returns-in-Ok-run_seated-clause-came : goal.returns-in-Ok-run_seated-clause-came
returns-in-Ok-run_seated-clause-came g c = λ done.
    let ends = c.close.ensures.ends in
    let gave = g.P.Door.Door.gave in
    subst (λ w. GaveAll c.args.loops.bounds.most (gave c.args.loops.world.door) (gave w.door)) (sym ends.2) (c.in-Ok-run_seated.ensures.came (sym ends.0 ∙ done))

pub returns-in-Ok-run_seated-clause-whole : goal.returns-in-Ok-run_seated-clause-whole
returns-in-Ok-run_seated-clause-whole g c = λ had.
    let ends = c.close.ensures.ends in
    subst (λ x. IsSome x) (sym ends.3) (c.in-Ok-run_seated.ensures.whole (λ is. had (ends.0 ∙ is)))

pub returns-in-Ok-run_seated-clause-all : goal.returns-in-Ok-run_seated-clause-all
returns-in-Ok-run_seated-clause-all g c =
    let ends = c.close.ensures.ends in
    let gave = g.P.Door.Door.gave in
    let over = links_over g.P.Link.Link.tells g.P.Ends.Ends.tells g.P.Ends.Ends.entries in
    let world = c.args.loops.world in
    let seated = c.in-Ok-run_seated in
    subst (λ w. AreAllThatCame (gave world.door) (gave w.door) (over c.close.result.ends)) (sym ends.2)
    (subst (λ x. AreAllThatCame (gave world.door) (gave seated.left.world.door) (over x)) (sym ends.3) seated.ensures.all)
