use Rattle.std.proofs.Common.{inr, refl, sym, ap, subst}
use Rattle.mq_outside.specs.Disk.{Rests}
use Rattle.mq_outside.proofs.Moments.{rests_start}
use Rattle.log_model.specs.Stored.{StaysOutside}
use Rattle.log_model.proofs.OutsideLemmas.{outside_start}
use Rattle.worker_turns.specs.Acts.{view_of}
use Rattle.loop_threads.specs.Kept.{keep_over}
use Rattle.serve_threads.specs.Worlds.{Readings, readings_of}
use Rattle.serve_threads.specs.Links.{links_over}
use Rattle.serve_threads.specs.Served.{clocks_over, views_of}
use Rattle.broker_serve.specs.Serves.{EndsOver, run_over}
use Rattle.broker_serve.specs.Statuses.{ShutOut}
use Rattle.broker_serve.proofs.Serving.{ends_unserved}
use Rattle.broker_serve.proofs.Telling.{came_from, links_from, none_of, why_unserved}
use Rattle.serve_threads.specs.Causes.{world_faults}
use Rattle.broker_serve.proofs.Causing.{causes_from, causes_unserved, door_causes}
use Rattle.broker_serve.proofs.run.serve_log.Goals as goal

pub returns-in-Err-clause-ends : goal.returns-in-Err-clause-ends
returns-in-Err-clause-ends g c =
    ends_unserved _ _ _ _ c.unserved.ensures.core
    (λ tells. subst (λ d. Rests (g.D.Disk.state c.args.store.disk) (g.D.Disk.state d)) (sym (ap (λ s. s.disk) c.unserved.ensures.store)) (rests_start _))
    (λ told. subst (λ k. Rests (g.E.Keep.state c.args.store.keep) (g.E.Keep.state k)) (sym (ap (λ s. s.keep) c.unserved.ensures.store)) (rests_start _))

pub returns-in-Err-clause-outside : goal.returns-in-Err-clause-outside
returns-in-Err-clause-outside g c = λ tells.
    subst (λ d. StaysOutside (g.D.Disk.state c.args.store.disk) (g.D.Disk.state d)) (sym (ap (λ s. s.disk) c.unserved.ensures.store)) (outside_start _)

pub returns-in-Err-clause-why : goal.returns-in-Err-clause-why
returns-in-Err-clause-why g c =
    why_unserved (λ s store. ShutOut s (g.D.Disk.faults c.args.store.disk) (g.D.Disk.faults store.disk)) _ _ _ _ _
    c.unserved.ensures.core c.unserved.ensures.status c.unserved.ensures.store (inr c.in-Err.ensures.tells)

pub returns-in-Err-clause-cause : goal.returns-in-Err-clause-cause
returns-in-Err-clause-cause g c =
    causes_unserved (λ s. g.D.Disk.faults s.disk) (λ s. g.E.Keep.faults s.keep) (world_faults g.P.Ready.faults g.P.Door.Door.faults g.K.Clock.faults) _ c.in-Err.status c.unserved.result.status _ _ _ _ c.unserved.ensures.status c.unserved.ensures.store c.unserved.ensures.world
    (door_causes c.in-Err.status _ _ c.in-Err.ensures.cause)

pub returns-in-Ok-clause-cause : goal.returns-in-Ok-clause-cause
returns-in-Ok-clause-cause g c = causes_from c.serve_loops.result.status _ _ _ _ _ _ _ refl refl c.in-Ok.ensures.counts c.serve_loops.ensures.cause

pub returns-in-Ok-clause-ends : goal.returns-in-Ok-clause-ends
returns-in-Ok-clause-ends g c =
    let readings = g.K.Clock.readings in
    let now = readings_of readings c.serve_loops.result.world in
    let keep = keep_over g.E.Keep.tells (g.E.Keep.state c.args.store.keep) (g.E.Keep.state c.serve_loops.result.store.keep) in
    let run = run_over c.serve_loops.result.status c.args.store.disk c.serve_loops.result.store.disk g.D.Disk.reader_faults keep in
    subst (λ (was : Readings). EndsOver (views_of (links_over g.P.Link.Link.tells g.P.Ends.Ends.tells g.P.Ends.Ends.entries c.serve_loops.result.ends) g.D.Reader.Reader.gives (clocks_over g.K.Clock.tells was now)
    (view_of g.D.Disk.tells g.D.Disk.state g.D.Disk.faults g.D.Disk.syncs)) c.args.opened c.serve_loops.result.core run)
    (λ i. record {
      first = readings (c.in-Ok.ensures.clocks.0 i).0;
      second = readings (c.in-Ok.ensures.clocks.0 i).1;
      timer = readings (c.in-Ok.ensures.clocks.1 i);
    })
    c.serve_loops.ensures.ends

pub returns-in-Err-clause-came : goal.returns-in-Err-clause-came
returns-in-Err-clause-came g c = none_of _ _ c.unserved.ensures.core

pub returns-in-Ok-clause-came : goal.returns-in-Ok-clause-came
returns-in-Ok-clause-came g c = came_from c.serve_loops.result.core _ _ _ _ _ _ c.in-Ok.ensures.most c.in-Ok.ensures.gave c.serve_loops.ensures.came

pub returns-in-Err-clause-links : goal.returns-in-Err-clause-links
returns-in-Err-clause-links g c = none_of _ _ c.unserved.ensures.core

pub returns-in-Ok-clause-links : goal.returns-in-Ok-clause-links
returns-in-Ok-clause-links g c =
    links_from c.serve_loops.result.core g.P.Ends.Ends.tells c.serve_loops.result.status _ _ (g.P.Door.Door.gave c.serve_loops.result.world.door)
    (links_over g.P.Link.Link.tells g.P.Ends.Ends.tells g.P.Ends.Ends.entries c.serve_loops.result.ends) c.in-Ok.ensures.gave c.serve_loops.ensures.links
