use Rattle.std.proofs.Common.{◌≡◌, ◌∙◌, ℕ, sym, ap, subst}
use Rattle.mq_outside.specs.Disk.{Rests}
use Rattle.mq_outside.proofs.Moments.{rests_start}
use Rattle.log_model.specs.Stored.{IsOutside, StaysOutside}
use Rattle.log_model.proofs.OutsideLemmas.{outside_then}
use Rattle.worker_turns.specs.Acts.{change_of, place_of, view_of}
use Rattle.exit_status.proofs.LogLemmas.{stays_rests}
use Rattle.loop_threads.specs.Kept.{keep_over}
use Rattle.serve_threads.specs.Worlds.{Readings, readings_of}
use Rattle.serve_threads.specs.Links.{AreAllThatCame, LinksOver, links_over}
use Rattle.serve_threads.specs.Served.{IsLeft, clocks_over, views_of}
use Rattle.broker_serve.proofs.Serving.{ends_unserved, ends_served}
use Rattle.event_loops.specs.Doors.{GaveAll}
use Rattle.broker_serve.proofs.Telling.{links_left, none_of, some_of, why_unserved, why_served, zero_done}
use Rattle.broker_serve.proofs.Causing.{causes_seven}
use Rattle.broker_serve.proofs.run.serve_open.Goals as goal

pub returns-in-Err-clause-ends : goal.returns-in-Err-clause-ends
returns-in-Err-clause-ends g c =
    let same = ap (λ s. s.keep) c.unserved.ensures.store ∙ ap (λ d. d.keep) c.in-Err.ensures.err.0 in
    ends_unserved _ _ _ _ c.unserved.ensures.core
    (λ tells. subst (λ d. Rests (g.D.Disk.state c.args.devices.disk) (g.D.Disk.state d)) (sym (ap (λ s. s.disk) c.unserved.ensures.store))
    (subst (λ d. Rests (g.D.Disk.state d) (g.D.Disk.state c.give_back.result)) (ap (λ d. d.disk) c.in-Err.ensures.err.0) (c.give_back.ensures.alike.rests tells)))
    (λ told. subst (λ k. Rests (g.E.Keep.state c.args.devices.keep) (g.E.Keep.state k)) (sym same) (rests_start _))

pub returns-in-Err-clause-outside : goal.returns-in-Err-clause-outside
returns-in-Err-clause-outside g c = λ tells.
    subst (λ d. StaysOutside (g.D.Disk.state c.args.devices.disk) (g.D.Disk.state d)) (sym (ap (λ s. s.disk) c.unserved.ensures.store))
    (subst (λ d. StaysOutside (g.D.Disk.state d) (g.D.Disk.state c.give_back.result)) (ap (λ d. d.disk) c.in-Err.ensures.err.0)
    (stays_rests IsOutside _ _ (c.give_back.ensures.alike.rests tells)))

pub returns-in-Ok-clause-ends : goal.returns-in-Ok-clause-ends
returns-in-Ok-clause-ends g c =
    let served = c.in-Ok.served in
    let readings = g.K.Clock.readings in
    let over = links_over g.P.Link.Link.tells g.P.Ends.Ends.tells g.P.Ends.Ends.entries in
    let seen = λ (links : LinksOver) (now : Readings).
    views_of links g.D.Reader.Reader.gives (clocks_over g.K.Clock.tells (readings_of readings c.args.loops.world) now)
    (view_of g.D.Disk.tells g.D.Disk.state g.D.Disk.faults g.D.Disk.syncs) in
    let now = readings_of readings c.ended_of.result.world in
    let ended = place_of c.in-Ok.ensures.left.0 served.disk in
    let failed : ℕ × ℕ = (g.D.Reader.Reader.faults served.readers.0, g.D.Reader.Reader.faults served.readers.1) in
    ends_served (seen (over c.ended_of.result.ends) now) (record { core = c.args.core; flusher = c.args.devices.flusher }) _ _ _ served.end served.last _ ended failed c.ended_of.ensures.core c.ended_of.ensures.tells c.ended_of.ensures.alike c.ended_of.ensures.counted
    (subst (λ x. IsLeft (seen (over x) now) failed (change_of c.args.core (place_of c.args.devices.flusher.file c.args.devices.disk) served.core ended)
    (keep_over g.E.Keep.tells (g.E.Keep.state c.args.devices.keep) (g.E.Keep.state c.ended_of.result.store.keep)) served.kept) (sym c.ended_of.ensures.ends)
    (subst (λ w. IsLeft (seen (over served.ends) (readings_of readings w)) failed (change_of c.args.core (place_of c.args.devices.flusher.file c.args.devices.disk) served.core ended)
    (keep_over g.E.Keep.tells (g.E.Keep.state c.args.devices.keep) (g.E.Keep.state c.ended_of.result.store.keep)) served.kept) (sym c.ended_of.ensures.world)
    (subst (λ k. IsLeft (seen (over served.ends) (readings_of readings served.world)) failed (change_of c.args.core (place_of c.args.devices.flusher.file c.args.devices.disk) served.core ended)
    (keep_over g.E.Keep.tells (g.E.Keep.state c.args.devices.keep) (g.E.Keep.state k)) served.kept) (sym c.ended_of.ensures.keep) c.in-Ok.ensures.left.1)))

pub returns-in-Ok-clause-outside : goal.returns-in-Ok-clause-outside
returns-in-Ok-clause-outside g c = λ tells. outside_then (c.in-Ok.ensures.outside tells) (stays_rests IsOutside _ _ (c.ended_of.ensures.alike.rests tells))

pub returns-in-Err-clause-why : goal.returns-in-Err-clause-why
returns-in-Err-clause-why g c =
    why_unserved (λ s store. s.code ≡ 7) _ _ _ _ _ c.unserved.ensures.core c.unserved.ensures.status c.unserved.ensures.store c.plain.ensures.code

pub returns-in-Ok-clause-why : goal.returns-in-Ok-clause-why
returns-in-Ok-clause-why g c = why_served _ _ _ c.ended_of.ensures.core

pub returns-in-Err-clause-cause : goal.returns-in-Err-clause-cause
returns-in-Err-clause-cause g c = causes_seven c.plain.result c.unserved.result.status _ _ c.unserved.ensures.status c.plain.ensures.code

pub returns-in-Ok-clause-cause : goal.returns-in-Ok-clause-cause
returns-in-Ok-clause-cause g c = c.ended_of.ensures.cause _ c.in-Ok.ensures.cause

pub returns-in-Err-clause-came : goal.returns-in-Err-clause-came
returns-in-Err-clause-came g c = none_of _ _ c.unserved.ensures.core

pub returns-in-Ok-clause-came : goal.returns-in-Ok-clause-came
returns-in-Ok-clause-came g c =
    let gave = g.P.Door.Door.gave in
    let loops = c.args.loops in
    some_of _ _ _ c.ended_of.ensures.core (λ zero. subst (λ w. GaveAll loops.bounds.most (gave loops.world.door) (gave w.door)) (sym c.ended_of.ensures.world)
    (c.in-Ok.ensures.came (zero_done c.ended_of.result.status _ _ _ c.ended_of.ensures.tells zero)))

pub returns-in-Err-clause-links : goal.returns-in-Err-clause-links
returns-in-Err-clause-links g c = none_of _ _ c.unserved.ensures.core

pub returns-in-Ok-clause-links : goal.returns-in-Ok-clause-links
returns-in-Ok-clause-links g c =
    let gave = g.P.Door.Door.gave in
    let served = c.in-Ok.served in
    let world = c.args.loops.world in
    let over = links_over g.P.Link.Link.tells g.P.Ends.Ends.tells g.P.Ends.Ends.entries in
    let told = c.in-Ok.ensures in
    some_of _ _ _ c.ended_of.ensures.core
    (links_left g.P.Link.Link.tells g.P.Ends.Ends.tells g.P.Ends.Ends.entries c.ended_of.result.status served.end served.last served.kept (gave world.door) (gave c.ended_of.result.world.door)
    served.ends c.ended_of.result.ends c.ended_of.ensures.ends c.ended_of.ensures.tells told.whole
    (subst (λ w. AreAllThatCame (gave world.door) (gave w.door) (over served.ends)) (sym c.ended_of.ensures.world) told.all))
