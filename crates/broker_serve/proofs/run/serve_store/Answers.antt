use Rattle.std.proofs.Common.{◌⊎◌, inl, refl, sym, ap, subst}
use Rattle.mq_outside.specs.Disk.{Rests}
use Rattle.mq_outside.proofs.Moments.{rests_start}
use Rattle.log_model.specs.Bases.{whole}
use Rattle.log_model.specs.Stored.{StaysOutside}
use Rattle.log_model.proofs.OutsideLemmas.{outside_start}
use Rattle.store_open.specs.Openings.{store_told}
use Rattle.exit_status.specs.Stores.{Misread, store_over}
use Rattle.exit_status.proofs.KeepLemmas.{misread}
use Rattle.broker_serve.specs.Statuses.{IsDamagedIn, Unserved}
use Rattle.broker_serve.specs.Unserved.{LeavesLog}
use Rattle.broker_serve.proofs.Serving.{store_unserved, store_served}
use Rattle.broker_serve.proofs.Telling.{none_of, why_unserved, why_then, not_loaded, not_opened}
use Rattle.serve_threads.specs.Causes.{world_faults}
use Rattle.broker_serve.proofs.Causing.{causes_from, causes_unserved, config_causes}
use Rattle.broker_serve.proofs.run.serve_store.Goals as goal

pub returns-in-Err-clause-served : goal.returns-in-Err-clause-served
returns-in-Err-clause-served g c =
    let before = c.args.store in
    store_unserved _ _ _ _ c.unserved.ensures.core
    (λ told. subst (λ k. Rests (g.E.Keep.state before.keep) (g.E.Keep.state k)) (sym (ap (λ s. s.keep) c.unserved.ensures.store)) (c.load_config.ensures.rests told))
    (why_unserved (λ s store. Misread s (store_over g.D.Disk.tells (g.D.Disk.state before.disk) (g.D.Disk.state store.disk) g.E.Keep.tells (g.E.Keep.state before.keep) (g.E.Keep.state store.keep))
    ⊎ LeavesLog (whole c.args.segment) g.D.Disk.tells s (g.D.Disk.state before.disk) (g.D.Disk.state store.disk)) _ _ _ _ _
    c.unserved.ensures.core c.unserved.ensures.status c.unserved.ensures.store
    (inl (misread c.status_of_config.result _ c.in-Err.fault c.status_of_config.ensures.tells c.in-Err.ensures.bad (λ tells. rests_start _))))

pub returns-in-Err-clause-outside : goal.returns-in-Err-clause-outside
returns-in-Err-clause-outside g c = λ tells.
    subst (λ d. StaysOutside (g.D.Disk.state c.args.store.disk) (g.D.Disk.state d)) (sym (ap (λ s. s.disk) c.unserved.ensures.store)) (outside_start _)

pub returns-in-Ok-clause-served : goal.returns-in-Ok-clause-served
returns-in-Ok-clause-served g c =
    store_served _ _ g.D.Disk.reader_faults _ _ _ _ _ _ _ _ _ _ c.in-Ok.ensures.rests c.in-Ok.ensures.read c.serve_config.ensures.served

pub returns-in-Err-clause-why : goal.returns-in-Err-clause-why
returns-in-Err-clause-why g c =
    let before = c.args.store in
    let damaged = IsDamagedIn c.args.segment (store_told g.D.Disk.tells (g.D.Disk.state before.disk).reads g.E.Keep.tells (g.E.Keep.state before.keep).reads) in
    why_unserved (λ s store. Unserved damaged s (g.D.Disk.faults before.disk) (g.D.Disk.faults store.disk) (g.E.Keep.faults before.keep) (g.E.Keep.faults store.keep)) _ _ _ _ _
    c.unserved.ensures.core c.unserved.ensures.status c.unserved.ensures.store
    (not_loaded _ _ _ _ _ _ _ _ _ _ _ c.status_of_config.ensures.tells c.in-Err.ensures.bad c.in-Err.ensures.cause)

pub returns-in-Ok-clause-why : goal.returns-in-Ok-clause-why
returns-in-Ok-clause-why g c = why_then _ (not_opened _ _ _ _ _ _ _ _ _ _) c.serve_config.ensures.why

pub returns-in-Err-clause-cause : goal.returns-in-Err-clause-cause
returns-in-Err-clause-cause g c =
    causes_unserved (λ s. g.D.Disk.faults s.disk) (λ s. g.E.Keep.faults s.keep) (world_faults g.P.Ready.faults g.P.Door.Door.faults g.K.Clock.faults) _ c.status_of_config.result c.unserved.result.status _ _ _ _ c.unserved.ensures.status c.unserved.ensures.store c.unserved.ensures.world
    (config_causes c.status_of_config.result _ _ _ c.status_of_config.ensures.tells c.in-Err.ensures.cause)

pub returns-in-Ok-clause-cause : goal.returns-in-Ok-clause-cause
returns-in-Ok-clause-cause g c = causes_from c.serve_config.result.status _ _ _ _ _ _ _ refl c.in-Ok.ensures.cause refl c.serve_config.ensures.cause

pub returns-in-Err-clause-came : goal.returns-in-Err-clause-came
returns-in-Err-clause-came g c = none_of _ _ c.unserved.ensures.core

pub returns-in-Err-clause-links : goal.returns-in-Err-clause-links
returns-in-Err-clause-links g c = none_of _ _ c.unserved.ensures.core
