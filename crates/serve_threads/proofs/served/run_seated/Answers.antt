use Rattle.std.proofs.Common.{◌≤◌, ◌∙◌, ℕ, IfSome, ap, refl, sym, subst}
use Rattle.log_model.specs.Stored.{StaysOutside}
use Rattle.worker_turns.specs.Acts.{place_of, view_of}
use Rattle.story_lock.specs.Passes.{IsPassOf, seen_by, start_of}
use Rattle.serve_threads.proofs.Keys.{some_at}
use Rattle.spine.specs.declared.spine.Spine.{Spine}
use Rattle.serve_threads.specs.Kept.{PutsAlong}
use Rattle.flush_rounds.specs.Asking.{put_of}
use Rattle.event_loops.specs.Tales.{loop_view}
use Rattle.loop_threads.specs.Loops.{part_of, reader_over}
use Rattle.serve_threads.specs.Worlds.{IsParted, Readings, readings_of}
use Rattle.serve_threads.proofs.Parting.{parted_once}
use Rattle.serve_threads.specs.Links.{AreAllThatCame, first_links, second_links, links_over}
use Rattle.flush_rounds.specs.Flushing.{FlushesTo}
use Rattle.flush_rounds.specs.Timing.{clock_from, clock_view}
use Rattle.serve_threads.specs.Served.{HasMade, clocks_over, views_of}
use Rattle.serve_threads.proofs.Flushed.{blames_from, flushed_from, worked_from}
use Rattle.serve_threads.proofs.Keeping.{keeps_along, puts_longer}
use Rattle.serve_threads.proofs.Parts.{answered, looks_of, made_of, met_last, stays_acting, stays_leading, took_first, up_to, worked_leads}
use Rattle.serve_threads.proofs.Whole.{all_came, all_from, first_whole, second_whole}
use Rattle.worker_turns.specs.declared.flush.FlushEnd.{FlushEnd}
use Rattle.flush_rounds.specs.Causes.{BlamesDisk}
use Rattle.flush_rounds.proofs.Working.{worked_none}
use Rattle.serve_threads.proofs.Counting.{came_from, door_stays, gave_all, loops_blame}
use Rattle.serve_threads.specs.Causes.{BlamesWorld, WorldFaults, world_faults}
use Rattle.serve_threads.proofs.served.run_seated.Goals as goal

pub new-requires-clause-opens : goal.new-requires-clause-opens
new-requires-clause-opens g c =
    worked_none _ _ _ (view_of g.D.Disk.tells g.D.Disk.state g.D.Disk.faults g.D.Disk.syncs) (clock_view g.K.Clock.tells g.K.Clock.readings) _
    (record { key = c.seats_of-calls.ensures.key; none_out = c.seats_of-calls.ensures.none_out; inside = c.requires.inside })

pub gather-requires-clause-turns : goal.gather-requires-clause-turns
gather-requires-clause-turns g c κs within =
    let cut = c.seats_of-calls.ensures.cut in
    stays_acting (λ z. z.pass) (view_of g.D.Disk.tells g.D.Disk.state g.D.Disk.faults g.D.Disk.syncs)
    (FlushesTo (clock_from (clock_view g.K.Clock.tells g.K.Clock.readings) c.new-timetable.result.clock c.run_all-ran.result.flushing.timetable.clock) (put_of c.run_all-ran.result.flushing.ways)) c.args.spine.now.story _ _ _ _ cut.turns cut.are.0 cut.of.0
    (flushed_from _ _ _ _ _ _ _ _ c.in-Ok.ensures.story.0 c.run_all-ran.ensures.worked c.requires.none_asked.0)

pub gather-requires-clause-first : goal.gather-requires-clause-first
gather-requires-clause-first g c κs within =
    let cut = c.seats_of-calls.ensures.cut in
    stays_leading (λ z. z.pass) c.args.spine.now.story _ _ cut.first _ cut.are.1 cut.of.1 (worked_leads _ (loop_view g.P.Link.Link.tells g.P.Link.Link.given g.P.Link.Link.taken g.P.Ends.Ends.tells g.P.Ends.Ends.entries) _ _ _ _ c.run_all-ran.ensures.first)

pub gather-requires-clause-second : goal.gather-requires-clause-second
gather-requires-clause-second g c κs within =
    let cut = c.seats_of-calls.ensures.cut in
    stays_leading (λ z. z.pass) c.args.spine.now.story _ _ cut.second _ cut.are.2 cut.of.2 (worked_leads _ (loop_view g.P.Link.Link.tells g.P.Link.Link.given g.P.Link.Link.taken g.P.Ends.Ends.tells g.P.Ends.Ends.entries) _ _ _ _ c.run_all-ran.ensures.second)

pub gather-requires-clause-keeper : goal.gather-requires-clause-keeper
gather-requires-clause-keeper g c κs within =
    let cut = c.seats_of-calls.ensures.cut in
    let kept = c.run_all-ran.ensures.kept in
    stays_leading (λ z. z.pass) c.args.spine.now.story _ _ cut.looks _ cut.are.3 cut.of.3
    (looks_of (λ z. z.pass) (λ z. z.spine.now) (λ (v : Spine). start_of v.story) _ kept.cores _ kept.seen)

pub returns-clause-outside : goal.returns-clause-outside
returns-clause-outside g c = λ tells.
    subst (λ d. StaysOutside (g.D.Disk.state c.args.devices.disk) (g.D.Disk.state d)) (sym c.gather.ensures.disk) ((worked_from _ _ _ _ _ _ _ _ c.in-Ok.ensures.story.0 c.run_all-ran.ensures.worked).outside tells)

pub returns-clause-made : goal.returns-clause-made
returns-clause-made g c =
    let ran = c.run_all-ran in
    let kept = ran.ensures.kept in
    let readings = g.K.Clock.readings in
    let parts = c.part-near.ensures.parted in
    let given : Readings = record {
      first = readings c.part-near.result.0.clock;
      second = readings c.part-near.result.1.clock;
      timer = readings c.new-timetable.result.clock;
    } in
    let view = (loop_view g.P.Link.Link.tells g.P.Link.Link.given g.P.Link.Link.taken g.P.Ends.Ends.tells g.P.Ends.Ends.entries) in
    let ends = c.gather.result.ends in
    let links = links_over view.links.tells view.told view.entries ends in
    let whole = c.gather.ensures.ends in
    let law = c.each_link_of_a_loop_is_answered_in_order.ensures in
    let first = ran.result.first in
    let second = ran.result.second in
    let faults = g.R.Reader.faults in
    let failures : ℕ × ℕ = (faults first.reader, faults second.reader) in
    let readers = c.args.devices.readers in
    let near = reader_over g.R.Reader.gives (faults readers.0) failures.0 in
    let far = reader_over g.R.Reader.gives (faults readers.1) failures.1 in
    let loops = c.requires.loops in
    let one = answered view near _ 0 _ _ (part_of first.calls first.asks first.event_loop.links) loops.0.loops loops.0.none loops.0.fresh ran.ensures.first (law (faults first.reader))
    links.told links.first c.requires.none_asked.1 (first_whole view.told view.entries whole.0 first.event_loop.links second.event_loop.links ends whole.2) in
    let other = answered view far _ 1 _ _ (part_of second.calls second.asks second.event_loop.links) loops.1.loops loops.1.none loops.1.fresh ran.ensures.second (law (faults second.reader))
    links.told links.second c.requires.none_asked.2 (second_whole view.told view.entries whole.0 first.event_loop.links second.event_loop.links ends whole.2) in
    let views = λ (given now : Readings).
    views_of links g.R.Reader.gives (clocks_over g.K.Clock.tells given now) (view_of g.D.Disk.tells g.D.Disk.state g.D.Disk.faults g.D.Disk.syncs) in
    let place = place_of c.args.devices.flusher.file c.args.devices.disk in
    let clocks = c.gather.ensures.clocks in
    let pass = c.gather.result.pass in
    let now : Readings = record {
      first = readings first.outside.clock;
      second = readings second.outside.clock;
      timer = readings ran.result.flushing.timetable.clock;
    } in
    let same = c.gather.ensures.readers in
    let failed : ℕ × ℕ = (faults c.gather.result.readers.0, faults c.gather.result.readers.1) in
    subst (λ (given : Readings). HasMade (views given (readings_of readings c.gather.result.world)) failed place pass c.gather.result.disk)
    (λ i. record {
      first = readings (sym parts.clocks.0 i);
      second = readings (sym parts.clocks.1 i);
      timer = readings ((c.new-timetable.ensures ∙ sym parts.timer_is) i);
    })
    (subst (λ (now : Readings). HasMade (views given now) failed place pass c.gather.result.disk)
    (λ i. record { first = readings (sym clocks.0 i); second = readings (sym clocks.1 i); timer = readings (sym clocks.2 i) })
    (subst (λ (f : ℕ × ℕ). HasMade (views given now) f place pass c.gather.result.disk) (λ i. (faults (sym same.0 i), faults (sym same.1 i)))
    (subst (λ d. HasMade (views given now) failures place pass d) (sym c.gather.ensures.disk)
    (made_of (views given now) failures (λ z. z.pass) (put_of ran.result.flushing.ways) place ran.result.flushing.flusher.file ran.result.flushing.disk c.args.spine.now.story c.args.pass pass _ _ _ _ _ _ _ _
    c.requires.first.1 c.requires.numbers c.seats_of-calls.ensures.cut c.gather.ensures.met
    (flushed_from _ _ _ _ _ _ _ _ c.in-Ok.ensures.story.0 c.run_all-ran.ensures.worked c.requires.none_asked.0)
    (took_first _ (first_links links) _ _ _ 0 _ _ _ _ c.gather.ensures.fronts.0 one) (took_first _ (second_links links) _ _ _ 1 _ _ _ _ c.gather.ensures.fronts.1 other)
    (looks_of (λ z. z.pass) (λ z. z.spine.now) (λ (v : Spine). start_of v.story) _ kept.cores _ kept.seen)))))

pub returns-clause-kept : goal.returns-clause-kept
returns-clause-kept g c = λ told.
    let kept = c.run_all-ran.ensures.kept in
    let met = c.gather.ensures.met in
    let pass = c.gather.result.pass in
    subst (λ k. PutsAlong (start_of c.args.spine.now.story).core (seen_by pass) (g.E.Keep.state c.args.devices.keep) (g.E.Keep.state k)) (sym c.gather.ensures.keep)
    (puts_longer _ (seen_by pass) (seen_by met.looks) _ _ (met_last pass met)
    (subst (λ (v : Spine). PutsAlong (start_of v.story).core (seen_by met.looks) (g.E.Keep.state c.args.devices.keep) (g.E.Keep.state c.run_all-ran.result.keeping.keep)) c.seats_of-calls.ensures.keeper
    (keeps_along (λ z. z.pass) (λ z. z.spine.now) (λ (v : Spine). start_of v.story) _ _ _ met.looks kept met.are.3 told)))

pub gather-requires-clause-door : goal.gather-requires-clause-door
gather-requires-clause-door g c κs within = door_stays _ _ _ c.run_all-ran.ensures.first_cause c.part-near.ensures.door.0

pub returns-clause-cause : goal.returns-clause-cause
returns-clause-cause g c =
    let world = world_faults g.P.Ready.faults g.P.Door.Door.faults g.K.Clock.faults in
    subst (λ (was : WorldFaults). BlamesWorld c.gather.result.end was (world c.gather.result.world)) c.part-near.ensures.counts
    (loops_blame c.gather.result.end _ _ _ _ _ _ _ c.part-near.ensures.door.1 c.gather.ensures.end c.run_all-ran.ensures.first_cause c.run_all-ran.ensures.second_cause c.gather.ensures.counts)

pub returns-clause-disk_cause : goal.returns-clause-disk_cause
returns-clause-disk_cause g c =
    let faults = g.D.Disk.faults in
    subst (λ d. BlamesDisk c.gather.result.last (faults c.args.devices.disk) (faults d)) (sym c.gather.ensures.disk)
    (subst (λ (e : FlushEnd). BlamesDisk e (faults c.args.devices.disk) (faults c.run_all-ran.result.flushing.disk)) (sym c.gather.ensures.last)
    (blames_from _ _ _ _ _ _ _ _ c.in-Ok.ensures.story.0 c.run_all-ran.ensures.worked refl))

pub returns-clause-keep_grows : goal.returns-clause-keep_grows
returns-clause-keep_grows g c =
    subst (λ k. g.E.Keep.faults c.args.devices.keep ≤ g.E.Keep.faults k) (sym c.gather.ensures.keep) c.run_all-ran.ensures.keep_grows

pub gather-requires-clause-pairs : goal.gather-requires-clause-pairs
gather-requires-clause-pairs g c κs within =
    let ran = c.run_all-ran.ensures in
    let ways = (worked_from _ _ _ _ _ _ _ _ c.in-Ok.ensures.story.0 ran.worked).ways in (
      ways.first c.run_all-ran.result.first.asks.way (ran.first.went.took.same c.args.ways.sends.first c.requires.pairs.0),
      ways.second c.run_all-ran.result.second.asks.way (ran.second.went.took.same c.args.ways.sends.second c.requires.pairs.1),
    )

pub returns-clause-came : goal.returns-clause-came
returns-clause-came g c = λ done.
    let both = c.gather.ensures.end.done done in
    let door = c.run_all-ran.ensures.first_door in
    let gave = g.P.Door.Door.gave in
    let entrance = c.part-near.result.0.entrance in
    came_from g.P.Door.Door.faults gave c.args.world.door c.args.bounds entrance c.gather.result.world.door c.part-near.ensures.door.0 c.part-near.ensures.entrance
    (gave_all gave entrance c.run_all-ran.result.first.outside.entrance c.gather.result.world.door door.keeps (door.done both.0) c.gather.ensures.door)

pub returns-clause-whole : goal.returns-clause-whole
returns-clause-whole g c = c.gather.ensures.whole

pub returns-clause-all : goal.returns-clause-all
returns-clause-all g c =
    let view = (loop_view g.P.Link.Link.tells g.P.Link.Link.given g.P.Link.Link.taken g.P.Ends.Ends.tells g.P.Ends.Ends.entries) in
    let ran = c.run_all-ran in
    let first = ran.result.first in
    let second = ran.result.second in
    let loops = c.requires.loops in
    let whole = c.gather.ensures.ends in
    let gave = g.P.Door.Door.gave in
    let door = c.gather.result.world.door in
    let over = links_over view.links.tells view.told view.entries c.gather.result.ends in
    let entrance = c.part-near.result.0.entrance in
    all_from g.P.Door.Door.faults (λ old. AreAllThatCame (gave old) (gave door) over) c.args.world.door c.args.bounds entrance
    c.part-near.ensures.door.0 c.part-near.ensures.entrance
    (all_came view.told view.entries whole.0 first.event_loop.links second.event_loop.links view.links.tells
    (up_to view (reader_over g.R.Reader.gives (g.R.Reader.faults c.args.devices.readers.0) (g.R.Reader.faults first.reader)) _ 0 _ _ (part_of first.calls first.asks first.event_loop.links) loops.0.loops loops.0.none loops.0.fresh ran.ensures.first whole.0)
    (up_to view (reader_over g.R.Reader.gives (g.R.Reader.faults c.args.devices.readers.1) (g.R.Reader.faults second.reader)) _ 1 _ _ (part_of second.calls second.asks second.event_loop.links) loops.1.loops loops.1.none loops.1.fresh ran.ensures.second whole.0)
    gave entrance first.outside.entrance door c.gather.result.ends
    ran.ensures.first_door.keeps c.gather.ensures.door whole.1 whole.2)

pub returns-in-Err-clause-err : goal.returns-in-Err-clause-err
returns-in-Err-clause-err g c =
    let cut = c.seats_of-calls.ensures.cut in
    let back = c.unbegun.ensures in
    let same = c.in-Err.ensures.err in (
      some_at _ _ _ (ap (λ s. s.calls.pass) (sym same) ∙ back.pass) (subst (λ p. IfSome p (λ q. IsPassOf c.args.spine.now.story q)) (sym cut.are.0) cut.of.0),
      back.devices ∙ ap (λ s. record { flusher = s.flusher; disk = s.disk; readers = c.args.devices.readers; keep = c.args.devices.keep }) same,
      parted_once g.P.Door.Door.faults c.args.world c.unbegun.result.1.world c.part-near.result.0 c.part-near.result.1 c.part-near.result.2 c.part-near.ensures.door.0 c.part-near.ensures.parted
          (subst (λ k. IsParted c.unbegun.result.1.world c.part-near.result.0 c.part-near.result.1 k) (ap (λ s. s.timetable.clock) same ∙ c.new-timetable.ensures) back.world),
    )
