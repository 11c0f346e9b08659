use Rattle.std.proofs.Common.{inl, refl, sym, ap, subst}
use Rattle.mq_outside.specs.Disk.{Rests}
use Rattle.mq_outside.proofs.Moments.{rests_start}
use Rattle.log_model.specs.Bases.{whole}
use Rattle.log_model.specs.Stored.{StaysOutside}
use Rattle.log_model.proofs.OutsideLemmas.{outside_then}
use Rattle.log_opening.specs.declared.opening.Opened.{Opened}
use Rattle.exit_status.proofs.LogLemmas.{leaves_flushed, unrecovered}
use Rattle.broker_serve.specs.Statuses.{IsDamagedLog, Unopened}
use Rattle.broker_serve.specs.Unserved.{LeavesLog}
use Rattle.broker_serve.proofs.Serving.{log_unserved, log_served_with}
use Rattle.broker_serve.proofs.Telling.{none_of, why_unserved, why_then, not_recovered, shut_out}
use Rattle.serve_threads.specs.Causes.{world_faults}
use Rattle.broker_serve.proofs.Causing.{causes_from, causes_unserved, log_causes}
use Rattle.broker_serve.proofs.run.serve_config.Goals as goal

pub returns-in-Err-clause-served : goal.returns-in-Err-clause-served
returns-in-Err-clause-served g c =
    let S = whole c.args.segment in
    log_unserved _ _ _ _ _ c.unserved.ensures.core
    (λ told. subst (λ k. Rests (g.E.Keep.state c.args.store.keep) (g.E.Keep.state k)) (sym (ap (λ s. s.keep) c.unserved.ensures.store)) (rests_start _))
    (why_unserved (λ s store. LeavesLog S g.D.Disk.tells s (g.D.Disk.state c.args.store.disk) (g.D.Disk.state store.disk)) _ _ _ _ _
    c.unserved.ensures.core c.unserved.ensures.status c.unserved.ensures.store
    (inl (unrecovered Opened S g.D.Disk.tells c.status_of_fault.result _ _ c.in-Err.fault c.status_of_fault.ensures.tells c.in-Err.ensures.damaged c.in-Err.ensures.untouched c.in-Err.ensures.flushed)))

pub returns-in-Err-clause-outside : goal.returns-in-Err-clause-outside
returns-in-Err-clause-outside g c = λ tells.
    subst (λ d. StaysOutside (g.D.Disk.state c.args.store.disk) (g.D.Disk.state d)) (sym (ap (λ s. s.disk) c.unserved.ensures.store)) (c.open_log_with.ensures.outside tells)

pub returns-clause-served : goal.returns-clause-served
returns-clause-served g c =
    let disk = g.met.D.Disk g.world.𝓛 g.world.𝓜 g.world.𝓡 ((λ s x. x), (λ x. x), (λ x. x), λ x. x) in
    log_served_with _ _ g.D.Disk.reader_faults _ c.as_slice-offsets.result.now _ c.as_slice-topics.result.now c.serve_log.result.core _ _ _ _ _ c.with_zeros-opened.result _ _
    c.as_slice-offsets.ensures.value c.as_slice-topics.ensures.value (λ tells. disk.reads_is_image c.args.store.disk tells)
    (c.with_zeros-opened.ensures.over _ _ c.in-Ok.ensures.represents) (λ tells. c.with_zeros-opened.ensures.kept _ _ _ (c.in-Ok.ensures.kept tells))
    (record {
      ours = λ tells log flushed stores honest. c.with_zeros-opened.ensures.ours _ _ log flushed refl (c.in-Ok.ensures.ours tells log flushed stores honest);
      leaves = λ tells. leaves_flushed (whole c.args.segment) _ _ (c.in-Ok.ensures.flushed tells);
      outside = c.in-Ok.ensures.outside;
      faults = c.in-Ok.ensures.cause;
    })
    c.serve_log.ensures.why c.serve_log.ensures.ends

pub returns-clause-outside : goal.returns-clause-outside
returns-clause-outside g c = λ tells. outside_then (c.in-Ok.ensures.outside tells) (c.serve_log.ensures.outside tells)

pub returns-in-Err-clause-why : goal.returns-in-Err-clause-why
returns-in-Err-clause-why g c =
    let damaged = IsDamagedLog g.D.Disk.tells c.args.segment (g.D.Disk.state c.args.store.disk).reads in
    why_unserved (λ s store. Unopened damaged s (g.D.Disk.faults c.args.store.disk) (g.D.Disk.faults store.disk)) _ _ _ _ _
    c.unserved.ensures.core c.unserved.ensures.status c.unserved.ensures.store
    (not_recovered _ _ _ _ _ _ _ c.status_of_fault.ensures.tells c.in-Err.ensures.damaged c.in-Err.ensures.cause)

pub returns-clause-why : goal.returns-clause-why
returns-clause-why g c =
    let damaged = IsDamagedLog g.D.Disk.tells c.args.segment (g.D.Disk.state c.args.store.disk).reads in
    why_then _ (shut_out damaged c.serve_log.result.status _ _ _ c.in-Ok.ensures.cause) c.serve_log.ensures.why

pub returns-in-Err-clause-cause : goal.returns-in-Err-clause-cause
returns-in-Err-clause-cause g c =
    causes_unserved (λ s. g.D.Disk.faults s.disk) (λ s. g.E.Keep.faults s.keep) (world_faults g.P.Ready.faults g.P.Door.Door.faults g.K.Clock.faults) _ c.status_of_fault.result c.unserved.result.status _ _ _ _ c.unserved.ensures.status c.unserved.ensures.store c.unserved.ensures.world
    (log_causes c.status_of_fault.result _ _ _ c.status_of_fault.ensures.tells c.in-Err.ensures.cause)

pub returns-clause-cause : goal.returns-clause-cause
returns-clause-cause g c = causes_from c.serve_log.result.status _ _ _ _ _ _ _ c.in-Ok.ensures.cause refl refl c.serve_log.ensures.cause

pub returns-in-Err-clause-came : goal.returns-in-Err-clause-came
returns-in-Err-clause-came g c = none_of _ _ c.unserved.ensures.core

pub returns-in-Err-clause-links : goal.returns-in-Err-clause-links
returns-in-Err-clause-links g c = none_of _ _ c.unserved.ensures.core
