use Rattle.std.proofs.Common.{refl, sym, ap, subst}
use Rattle.mq_outside.specs.Disk.{Rests}
use Rattle.mq_outside.proofs.Moments.{rests_start}
use Rattle.log_model.specs.Stored.{IsOutside, StaysOutside}
use Rattle.log_model.proofs.OutsideLemmas.{outside_then}
use Rattle.exit_status.proofs.LogLemmas.{stays_rests}
use Rattle.broker_serve.specs.Statuses.{ShutOut}
use Rattle.broker_serve.proofs.Serving.{ends_unserved, ends_lent}
use Rattle.broker_serve.proofs.Storing.{inside_rests}
use Rattle.broker_serve.proofs.Telling.{none_of, why_unserved, why_then, no_reader, out_of_memory}
use Rattle.serve_threads.specs.Causes.{world_faults}
use Rattle.broker_serve.proofs.Causing.{causes_from, causes_unserved, reader_causes}
use Rattle.broker_serve.proofs.run.serve_loops.Goals as goal

pub returns-in-Err-clause-ends : goal.returns-in-Err-clause-ends
returns-in-Err-clause-ends g c =
    ends_unserved _ _ _ _ c.unserved.ensures.core
    (λ tells. subst (λ d. Rests (g.D.Disk.state c.args.store.disk) (g.D.Disk.state d)) (sym (ap (λ s. s.disk) c.unserved.ensures.store)) (c.readers_of.ensures.rests tells))
    (λ told. subst (λ k. Rests (g.E.Keep.state c.args.store.keep) (g.E.Keep.state k)) (sym (ap (λ s. s.keep) c.unserved.ensures.store)) (rests_start _))

pub returns-in-Ok-clause-ends : goal.returns-in-Ok-clause-ends
returns-in-Ok-clause-ends g c =
    ends_lent _ g.D.Disk.reader_faults c.args.opened _ _ _ _ _ _ (record { rests = c.in-Ok.ensures.rests; faults = c.in-Ok.ensures.cause; syncs = c.in-Ok.ensures.syncs }) c.serve_open.ensures.ends

pub serve_open-requires-clause-inside : goal.serve_open-requires-clause-inside
serve_open-requires-clause-inside g c κs within = λ tells. inside_rests _ _ _ _ (c.in-Ok.ensures.rests tells) (c.requires.inside tells)

pub returns-in-Err-clause-outside : goal.returns-in-Err-clause-outside
returns-in-Err-clause-outside g c = λ tells.
    subst (λ d. StaysOutside (g.D.Disk.state c.args.store.disk) (g.D.Disk.state d)) (sym (ap (λ s. s.disk) c.unserved.ensures.store))
    (stays_rests IsOutside _ _ (c.readers_of.ensures.rests tells))

pub returns-in-Ok-clause-outside : goal.returns-in-Ok-clause-outside
returns-in-Ok-clause-outside g c = λ tells. outside_then (stays_rests IsOutside _ _ (c.in-Ok.ensures.rests tells)) (c.serve_open.ensures.outside tells)

pub returns-in-Err-clause-why : goal.returns-in-Err-clause-why
returns-in-Err-clause-why g c =
    why_unserved (λ s store. ShutOut s (g.D.Disk.faults c.args.store.disk) (g.D.Disk.faults store.disk)) _ _ _ _ _
    c.unserved.ensures.core c.unserved.ensures.status c.unserved.ensures.store (no_reader c.status_of_reader-status.result _ _ _ c.status_of_reader-status.ensures.tells c.in-Err.ensures.cause)

pub returns-in-Ok-clause-why : goal.returns-in-Ok-clause-why
returns-in-Ok-clause-why g c = why_then _ (out_of_memory c.serve_open.result.status _ _) c.serve_open.ensures.why

pub returns-in-Err-clause-cause : goal.returns-in-Err-clause-cause
returns-in-Err-clause-cause g c =
    causes_unserved (λ s. g.D.Disk.faults s.disk) (λ s. g.E.Keep.faults s.keep) (world_faults g.P.Ready.faults g.P.Door.Door.faults g.K.Clock.faults) _ c.status_of_reader-status.result c.unserved.result.status _ _ _ _ c.unserved.ensures.status c.unserved.ensures.store c.unserved.ensures.world
    (reader_causes c.status_of_reader-status.result _ _ _ c.status_of_reader-status.ensures.tells c.in-Err.ensures.cause)

pub returns-in-Ok-clause-cause : goal.returns-in-Ok-clause-cause
returns-in-Ok-clause-cause g c = causes_from c.serve_open.result.status _ _ _ _ _ _ _ c.in-Ok.ensures.cause refl refl c.serve_open.ensures.cause

pub returns-in-Err-clause-came : goal.returns-in-Err-clause-came
returns-in-Err-clause-came g c = none_of _ _ c.unserved.ensures.core

pub returns-in-Err-clause-links : goal.returns-in-Err-clause-links
returns-in-Err-clause-links g c = none_of _ _ c.unserved.ensures.core
