use Rattle.std.proofs.Common.{◌∙◌, refl, inl, inr, ap, sym, subst}
use Rattle.mq_outside.proofs.Moments.{rests_start, rests_call}
use Rattle.log_model.specs.Stored.{StaysOutside}
use Rattle.log_model.proofs.OutsideLemmas.{outside_start, outside_same, outside_then}
use Rattle.store_open.specs.Openings.{FORMAT, store_told}
use Rattle.store_open.specs.Words.{texts_of}
use Rattle.store_open.proofs.SizeLemmas.{serve_asks_sizes}
use Rattle.exit_status.specs.Stores.{store_over}
use Rattle.exit_status.proofs.KeepLemmas.{refused_by}
use Rattle.broker_serve.specs.Statuses.{IsDamagedFor, TellsWhy}
use Rattle.broker_serve.specs.Unserved.{ServesNobody}
use Rattle.broker_serve.proofs.Serving.{run_served, run_unserved, store_others}
use Rattle.broker_serve.proofs.Telling.{all_came, none_of, none_zero, why_unserved, why_then, not_formed, tells_why}
use Rattle.serve_threads.specs.Causes.{counts_of, world_faults}
use Rattle.broker_serve.proofs.Causing.{causes_from, causes_unserved, opening_causes, threads_cause, words_cause}
use Rattle.broker_serve.proofs.run.run_serve.Goals as goal

pub serve_store-requires-clause-size : goal.serve_store-requires-clause-size
serve_store-requires-clause-size g c κs within = (c.in-Ok-open_format.ensures.allowed (serve_asks_sizes _ _ c.in-Ok.ensures.fits)).segment

-- ---- the words don't fit

pub returns-in-Err-clause-unserved : goal.returns-in-Err-clause-unserved
returns-in-Err-clause-unserved g c =
    let before = c.args.store in
    let ended = c.unserved in
    why_unserved (λ s store. ServesNobody (texts_of c.args.words.now) s
    (store_over g.D.Disk.tells (g.D.Disk.state before.disk) (g.D.Disk.state store.disk) g.E.Keep.tells (g.E.Keep.state before.keep) (g.E.Keep.state store.keep))) _ _ _ _ _
    ended.ensures.core ended.ensures.status ended.ensures.store
    (inl (record { why = inl c.at.ensures.code; disk_still = λ tells. rests_start _; keep_still = λ told. rests_start _ }))

-- ---- threads can't be started

pub returns-then-not-can_start_threads-clause-unserved : goal.returns-then-not-can_start_threads-clause-unserved
returns-then-not-can_start_threads-clause-unserved g c =
    let before = c.args.store in
    let ended = c.unserved-then-not-can_start_threads in
    why_unserved (λ s store. ServesNobody (texts_of c.args.words.now) s
    (store_over g.D.Disk.tells (g.D.Disk.state before.disk) (g.D.Disk.state store.disk) g.E.Keep.tells (g.E.Keep.state before.keep) (g.E.Keep.state store.keep))) _ _ _ _ _
    ended.ensures.core ended.ensures.status ended.ensures.store
    (inl (record { why = inr c.plain.ensures.code; disk_still = λ tells. rests_start _; keep_still = λ told. rests_start _ }))

-- ---- the store isn't opened

pub returns-in-Err-open_format-clause-unserved : goal.returns-in-Err-open_format-clause-unserved
returns-in-Err-open_format-clause-unserved g c =
    let before = c.args.store in
    let ended = c.unserved-in-Err-open_format in
    why_unserved (λ s store. ServesNobody (texts_of c.args.words.now) s
    (store_over g.D.Disk.tells (g.D.Disk.state before.disk) (g.D.Disk.state store.disk) g.E.Keep.tells (g.E.Keep.state before.keep) (g.E.Keep.state store.keep))) _ _ _ _ _
    ended.ensures.core ended.ensures.status ended.ensures.store
    (inr (
      c.in-Ok.command,
      c.in-Ok.ensures.fits,
      record {
        why = inl (record {
          refused = refused_by c.in-Err-open_format.status _ _ _ _ c.in-Err-open_format.ensures.cause;
          still = λ tells. rests_call (rests_start _) (c.in-Err-open_format.ensures.rests tells);
        });
        puts = c.in-Err-open_format.ensures.puts;
      },
    ))

pub returns-in-Err-open_format-clause-outside : goal.returns-in-Err-open_format-clause-outside
returns-in-Err-open_format-clause-outside g c = λ tells.
    subst (λ d. StaysOutside (g.D.Disk.state c.args.store.disk) (g.D.Disk.state d)) (sym (ap (λ s. s.disk) c.unserved-in-Err-open_format.ensures.store))
    (outside_same (outside_start _) (c.open_format.ensures.rests tells))

-- ---- the store is open

pub returns-in-Ok-open_format-clause-served : goal.returns-in-Ok-open_format-clause-served
returns-in-Ok-open_format-clause-served g c =
    run_served g.D.Disk.reader_faults _ _ _ _ _ _ _ _ _ _ _ _ _ (λ tells. rests_call (rests_start _) (c.in-Ok-open_format.ensures.rests tells)) c.in-Ok-open_format.ensures.disk_still c.in-Ok.ensures.fits
    c.in-Ok-open_format.ensures.opened c.in-Ok-open_format.ensures.puts c.serve_store.ensures.served

pub returns-in-Ok-open_format-clause-unserved : goal.returns-in-Ok-open_format-clause-unserved
returns-in-Ok-open_format-clause-unserved g c =
    run_unserved g.D.Disk.reader_faults _ _ _ _ _ _ _ _ _ _ _ _ _ (λ tells. rests_call (rests_start _) (c.in-Ok-open_format.ensures.rests tells)) c.in-Ok.ensures.fits
    c.in-Ok-open_format.ensures.opened c.in-Ok-open_format.ensures.puts c.serve_store.ensures.served

pub returns-in-Ok-open_format-clause-outside : goal.returns-in-Ok-open_format-clause-outside
returns-in-Ok-open_format-clause-outside g c = λ tells.
    outside_then (outside_same (outside_start _) (c.in-Ok-open_format.ensures.rests tells)) (c.serve_store.ensures.outside tells)

pub returns-in-Ok-open_format-clause-stands : goal.returns-in-Ok-open_format-clause-stands
returns-in-Ok-open_format-clause-stands g c = λ told text stood.
    store_others _ _ _ _ c.serve_store.ensures.served told FORMAT (λ e. absurd (cc e)) (λ e. absurd (cc e)) ∙ c.in-Ok-open_format.ensures.stands told text stood

pub returns-in-Ok-open_format-clause-kept : goal.returns-in-Ok-open_format-clause-kept
returns-in-Ok-open_format-clause-kept g c = λ told name not_format not_offsets not_topics.
    store_others _ _ _ _ c.serve_store.ensures.served told name not_offsets not_topics ∙ c.in-Ok-open_format.ensures.others told name not_format

-- ---- why no links were served

pub returns-in-Err-clause-why : goal.returns-in-Err-clause-why
returns-in-Err-clause-why g c =
    let before = c.args.store in
    let told = store_told g.D.Disk.tells (g.D.Disk.state before.disk).reads g.E.Keep.tells (g.E.Keep.state before.keep).reads in
    let counts = world_faults g.P.Ready.faults g.P.Door.Door.faults g.K.Clock.faults in
    why_unserved (λ s store. TellsWhy (texts_of c.args.words.now) told s (counts_of (g.D.Disk.faults before.disk) (g.E.Keep.faults before.keep) (counts c.args.world))
    (counts_of (g.D.Disk.faults store.disk) (g.E.Keep.faults store.keep) (counts c.unserved.result.world))) _ _ _ _ _
    c.unserved.ensures.core c.unserved.ensures.status c.unserved.ensures.store (inl c.at.ensures.code)

pub returns-then-not-can_start_threads-clause-why : goal.returns-then-not-can_start_threads-clause-why
returns-then-not-can_start_threads-clause-why g c =
    let before = c.args.store in
    let ended = c.unserved-then-not-can_start_threads in
    let told = store_told g.D.Disk.tells (g.D.Disk.state before.disk).reads g.E.Keep.tells (g.E.Keep.state before.keep).reads in
    let counts = world_faults g.P.Ready.faults g.P.Door.Door.faults g.K.Clock.faults in
    why_unserved (λ s store. TellsWhy (texts_of c.args.words.now) told s (counts_of (g.D.Disk.faults before.disk) (g.E.Keep.faults before.keep) (counts c.args.world))
    (counts_of (g.D.Disk.faults store.disk) (g.E.Keep.faults store.keep) (counts ended.result.world))) _ _ _ _ _
    ended.ensures.core ended.ensures.status ended.ensures.store
    (inr (c.in-Ok.command, c.in-Ok.ensures.fits, inl c.plain.ensures.code))

pub returns-in-Err-open_format-clause-why : goal.returns-in-Err-open_format-clause-why
returns-in-Err-open_format-clause-why g c =
    let before = c.args.store in
    let ended = c.unserved-in-Err-open_format in
    let told = store_told g.D.Disk.tells (g.D.Disk.state before.disk).reads g.E.Keep.tells (g.E.Keep.state before.keep).reads in
    let counts = world_faults g.P.Ready.faults g.P.Door.Door.faults g.K.Clock.faults in
    why_unserved (λ s store. TellsWhy (texts_of c.args.words.now) told s (counts_of (g.D.Disk.faults before.disk) (g.E.Keep.faults before.keep) (counts c.args.world))
    (counts_of (g.D.Disk.faults store.disk) (g.E.Keep.faults store.keep) (counts ended.result.world))) _ _ _ _ _
    ended.ensures.core ended.ensures.status ended.ensures.store
    (inr (c.in-Ok.command, c.in-Ok.ensures.fits, inr (not_formed (IsDamagedFor c.in-Ok.command told) c.in-Err-open_format.status _ _ _ _ c.in-Err-open_format.ensures.cause)))

pub returns-in-Ok-open_format-clause-why : goal.returns-in-Ok-open_format-clause-why
returns-in-Ok-open_format-clause-why g c =
    let counts = world_faults g.P.Ready.faults g.P.Door.Door.faults g.K.Clock.faults in
    why_then _ (tells_why _ c.in-Ok.command c.in-Ok-open_format.sizes _ _ _ _ _ _ _ c.in-Ok-open_format.ensures.rests c.in-Ok-open_format.ensures.opened.sizes_are
    c.in-Ok-open_format.ensures.puts _ _ _ _ _ _ _ (counts c.args.world) (counts c.serve_store.result.world) c.in-Ok.ensures.fits c.in-Ok-open_format.ensures.disk_still c.in-Ok-open_format.ensures.keep_still)
    c.serve_store.ensures.why

-- ---- which device is blamed

pub returns-in-Err-clause-cause : goal.returns-in-Err-clause-cause
returns-in-Err-clause-cause g c =
    causes_unserved (λ s. g.D.Disk.faults s.disk) (λ s. g.E.Keep.faults s.keep) (world_faults g.P.Ready.faults g.P.Door.Door.faults g.K.Clock.faults) _ c.at.result c.unserved.result.status _ _ _ _ c.unserved.ensures.status c.unserved.ensures.store c.unserved.ensures.world
    (words_cause c.at.result _ _ c.at.ensures.code)

pub returns-then-not-can_start_threads-clause-cause : goal.returns-then-not-can_start_threads-clause-cause
returns-then-not-can_start_threads-clause-cause g c =
    causes_unserved (λ s. g.D.Disk.faults s.disk) (λ s. g.E.Keep.faults s.keep) (world_faults g.P.Ready.faults g.P.Door.Door.faults g.K.Clock.faults) _ c.plain.result c.unserved-then-not-can_start_threads.result.status _ _ _ _ c.unserved-then-not-can_start_threads.ensures.status c.unserved-then-not-can_start_threads.ensures.store c.unserved-then-not-can_start_threads.ensures.world
    (threads_cause c.plain.result _ _ c.plain.ensures.code)

pub returns-in-Err-open_format-clause-cause : goal.returns-in-Err-open_format-clause-cause
returns-in-Err-open_format-clause-cause g c =
    causes_unserved (λ s. g.D.Disk.faults s.disk) (λ s. g.E.Keep.faults s.keep) (world_faults g.P.Ready.faults g.P.Door.Door.faults g.K.Clock.faults) _ c.in-Err-open_format.status c.unserved-in-Err-open_format.result.status _ _ _ _ c.unserved-in-Err-open_format.ensures.status c.unserved-in-Err-open_format.ensures.store c.unserved-in-Err-open_format.ensures.world
    (opening_causes c.in-Err-open_format.status _ _ c.in-Err-open_format.ensures.cause)

pub returns-in-Ok-open_format-clause-cause : goal.returns-in-Ok-open_format-clause-cause
returns-in-Ok-open_format-clause-cause g c =
    causes_from c.serve_store.result.status _ _ _ _ _ _ _ c.in-Ok-open_format.ensures.disk_still c.in-Ok-open_format.ensures.keep_still refl c.serve_store.ensures.cause

-- ---- how many links came

pub returns-in-Err-clause-came : goal.returns-in-Err-clause-came
returns-in-Err-clause-came g c = λ zero.
    let before = c.args.store in
    let ended = c.unserved.result in
    let told = store_told g.D.Disk.tells (g.D.Disk.state before.disk).reads g.E.Keep.tells (g.E.Keep.state before.keep).reads in
    let counts = world_faults g.P.Ready.faults g.P.Door.Door.faults g.K.Clock.faults in
    absurd (none_zero ended.core (texts_of c.args.words.now) told ended.status (counts_of (g.D.Disk.faults before.disk) (g.E.Keep.faults before.keep) (counts c.args.world))
    (counts_of (g.D.Disk.faults ended.store.disk) (g.E.Keep.faults ended.store.keep) (counts ended.world)) c.unserved.ensures.core (returns-in-Err-clause-why g c) zero)

pub returns-then-not-can_start_threads-clause-came : goal.returns-then-not-can_start_threads-clause-came
returns-then-not-can_start_threads-clause-came g c = λ zero.
    let before = c.args.store in
    let ended = c.unserved-then-not-can_start_threads.result in
    let told = store_told g.D.Disk.tells (g.D.Disk.state before.disk).reads g.E.Keep.tells (g.E.Keep.state before.keep).reads in
    let counts = world_faults g.P.Ready.faults g.P.Door.Door.faults g.K.Clock.faults in
    absurd (none_zero ended.core (texts_of c.args.words.now) told ended.status (counts_of (g.D.Disk.faults before.disk) (g.E.Keep.faults before.keep) (counts c.args.world))
    (counts_of (g.D.Disk.faults ended.store.disk) (g.E.Keep.faults ended.store.keep) (counts ended.world)) c.unserved-then-not-can_start_threads.ensures.core (returns-then-not-can_start_threads-clause-why g c) zero)

pub returns-in-Err-open_format-clause-came : goal.returns-in-Err-open_format-clause-came
returns-in-Err-open_format-clause-came g c = λ zero.
    let before = c.args.store in
    let ended = c.unserved-in-Err-open_format.result in
    let told = store_told g.D.Disk.tells (g.D.Disk.state before.disk).reads g.E.Keep.tells (g.E.Keep.state before.keep).reads in
    let counts = world_faults g.P.Ready.faults g.P.Door.Door.faults g.K.Clock.faults in
    absurd (none_zero ended.core (texts_of c.args.words.now) told ended.status (counts_of (g.D.Disk.faults before.disk) (g.E.Keep.faults before.keep) (counts c.args.world))
    (counts_of (g.D.Disk.faults ended.store.disk) (g.E.Keep.faults ended.store.keep) (counts ended.world)) c.unserved-in-Err-open_format.ensures.core (returns-in-Err-open_format-clause-why g c) zero)

pub returns-in-Ok-open_format-clause-came : goal.returns-in-Ok-open_format-clause-came
returns-in-Ok-open_format-clause-came g c =
    let before = c.args.store in
    let ended = c.serve_store.result in
    let told = store_told g.D.Disk.tells (g.D.Disk.state before.disk).reads g.E.Keep.tells (g.E.Keep.state before.keep).reads in
    let counts = world_faults g.P.Ready.faults g.P.Door.Door.faults g.K.Clock.faults in
    let gave = g.P.Door.Door.gave in
    all_came ended.core (texts_of c.args.words.now) told ended.status (counts_of (g.D.Disk.faults before.disk) (g.E.Keep.faults before.keep) (counts c.args.world))
    (counts_of (g.D.Disk.faults ended.store.disk) (g.E.Keep.faults ended.store.keep) (counts ended.world)) c.in-Ok.command (gave c.args.world.door) (gave ended.world.door)
    c.in-Ok.ensures.fits (returns-in-Ok-open_format-clause-why g c) c.serve_store.ensures.came

pub returns-in-Err-clause-links : goal.returns-in-Err-clause-links
returns-in-Err-clause-links g c = none_of _ _ c.unserved.ensures.core

pub returns-then-not-can_start_threads-clause-links : goal.returns-then-not-can_start_threads-clause-links
returns-then-not-can_start_threads-clause-links g c = none_of _ _ c.unserved-then-not-can_start_threads.ensures.core

pub returns-in-Err-open_format-clause-links : goal.returns-in-Err-open_format-clause-links
returns-in-Err-open_format-clause-links g c = none_of _ _ c.unserved-in-Err-open_format.ensures.core
