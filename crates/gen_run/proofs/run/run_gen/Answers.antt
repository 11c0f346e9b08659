use Rattle.std.proofs.Common.{◌≡◌, inl, inr, codes, ℕ, List, ap, subst, arith}
use Rattle.mq_outside.proofs.Moments.{rests_start, rests_call, rests_then}
use Rattle.log_model.proofs.OutsideLemmas.{outside_start, outside_same, outside_then}
use Rattle.store_open.specs.declared.format.AskedSizes.{AskedSizes}
use Rattle.store_open.specs.Formats.{no_sizes}
use Rattle.store_open.specs.Openings.{FORMAT, IsForeign, IsOpened, store_told}
use Rattle.mq_outside.specs.Disk.{Moves}
use Rattle.mq_outside.specs.Files.{Same}
use Rattle.tool_run.proofs.RunLemmas.{refused_as, unopened_causes}
use Rattle.gen_run.proofs.EndLemmas.{opening_low, stopped_low, stopped_foreign, stopped_named, unopened_foreign}
use Rattle.gen_run.proofs.EndLemmas.{filled_apart, filled_memory, wrote_nothing, wrote_foreign, filled_causes}
use Rattle.gen_run.proofs.DamageLemmas.{ended_damage, finds_before}
use Rattle.gen_run.proofs.RunLemmas.{filled_before, stopped_causes}
use Rattle.gen_run.proofs.run.run_gen.Goals as goal

-- ---- the store was not opened

pub returns-in-Err-open_format-clause-usage : goal.returns-in-Err-open_format-clause-usage
returns-in-Err-open_format-clause-usage g c one =
    let low = opening_low c.end_unopened.result.status (refused_as c.end_unopened.result.status c.in-Err-open_format.status _ _ _ _ c.end_unopened.ensures.status c.in-Err-open_format.ensures.cause) in
    absurd (omega (arith, low.0, one))

pub returns-in-Err-open_format-clause-wrong : goal.returns-in-Err-open_format-clause-wrong
returns-in-Err-open_format-clause-wrong g c none_fits = absurd (none_fits c.in-Ok.command c.in-Ok.ensures.fits)

pub returns-in-Err-open_format-clause-idle : goal.returns-in-Err-open_format-clause-idle
returns-in-Err-open_format-clause-idle g c one =
    let low = opening_low c.end_unopened.result.status (refused_as c.end_unopened.result.status c.in-Err-open_format.status _ _ _ _ c.end_unopened.ensures.status c.in-Err-open_format.ensures.cause) in
    absurd (omega (arith, low.0, one))

pub returns-in-Err-open_format-clause-did : goal.returns-in-Err-open_format-clause-did
returns-in-Err-open_format-clause-did g c none =
    let low = opening_low c.end_unopened.result.status (refused_as c.end_unopened.result.status c.in-Err-open_format.status _ _ _ _ c.end_unopened.ensures.status c.in-Err-open_format.ensures.cause) in
    absurd (omega (arith, low.0, none))

pub returns-in-Err-open_format-clause-broke : goal.returns-in-Err-open_format-clause-broke
returns-in-Err-open_format-clause-broke g c four =
    let low = opening_low c.end_unopened.result.status (refused_as c.end_unopened.result.status c.in-Err-open_format.status _ _ _ _ c.end_unopened.ensures.status c.in-Err-open_format.ensures.cause) in
    absurd (omega (arith, low.0, four))

pub returns-in-Err-open_format-clause-puts : goal.returns-in-Err-open_format-clause-puts
returns-in-Err-open_format-clause-puts g c whole broke =
    let low = opening_low c.end_unopened.result.status (refused_as c.end_unopened.result.status c.in-Err-open_format.status _ _ _ _ c.end_unopened.ensures.status c.in-Err-open_format.ensures.cause) in
    wrote_foreign c.end_unopened.result.status _ c.end_unopened.ensures.line low.1 (λ other. ap g.K.Sink.taken (c.end_unopened.ensures.nothing other))

pub returns-in-Err-open_format-clause-foreign : goal.returns-in-Err-open_format-clause-foreign
returns-in-Err-open_format-clause-foreign g c tells keeps six =
    inl (unopened_foreign (λ (name : List ℕ). IsForeign (g.D.Disk.state c.args.disk.now).reads ((g.P.Keep.state c.args.keep.now).reads FORMAT) no_sizes name)
    c.end_unopened.result.status c.in-Err-open_format.status c.end_unopened.ensures.status
    (subst (λ (asked : AskedSizes). c.in-Err-open_format.status.code ≡ 6 → IsForeign (g.D.Disk.state c.args.disk.now).reads ((g.P.Keep.state c.args.keep.now).reads FORMAT) asked c.in-Err-open_format.status.name)
    c.none.ensures.none (c.in-Err-open_format.ensures.foreign tells keeps)) six)

pub returns-in-Err-open_format-clause-theirs : goal.returns-in-Err-open_format-clause-theirs
returns-in-Err-open_format-clause-theirs g c keeps six =
    inl (unopened_foreign (λ (name : List ℕ). Moves Same (g.P.Keep.state c.args.keep.now) (g.P.Keep.state c.open_format.new.keep))
    c.end_unopened.result.status c.in-Err-open_format.status c.end_unopened.ensures.status (c.in-Err-open_format.ensures.untouched keeps) six)

pub returns-in-Err-open_format-clause-damaged : goal.returns-in-Err-open_format-clause-damaged
returns-in-Err-open_format-clause-damaged g c tells eight =
    let low = opening_low c.end_unopened.result.status (refused_as c.end_unopened.result.status c.in-Err-open_format.status _ _ _ _ c.end_unopened.ensures.status c.in-Err-open_format.ensures.cause) in
    absurd (low.1 eight)

pub returns-in-Err-open_format-clause-records : goal.returns-in-Err-open_format-clause-records
returns-in-Err-open_format-clause-records g c tells six = rests_call (rests_start _) (c.in-Err-open_format.ensures.rests tells)

pub returns-in-Err-open_format-clause-outside : goal.returns-in-Err-open_format-clause-outside
returns-in-Err-open_format-clause-outside g c tells = outside_same (outside_start _) (c.in-Err-open_format.ensures.rests tells)

pub returns-in-Err-open_format-clause-causes : goal.returns-in-Err-open_format-clause-causes
returns-in-Err-open_format-clause-causes g c =
    unopened_causes c.end_unopened.result.status c.in-Err-open_format.status _ _ c.end_unopened.ensures.status c.in-Err-open_format.ensures.cause

-- ---- the generator stopped

pub returns-in-Err-fill-clause-usage : goal.returns-in-Err-fill-clause-usage
returns-in-Err-fill-clause-usage g c one = absurd (omega (arith, stopped_low c.end_stopped.result.status c.in-Err-fill.status c.end_stopped.ensures.status c.in-Err-fill.ensures.cause.known, one))

pub returns-in-Err-fill-clause-wrong : goal.returns-in-Err-fill-clause-wrong
returns-in-Err-fill-clause-wrong g c none_fits = absurd (none_fits c.in-Ok.command c.in-Ok.ensures.fits)

pub returns-in-Err-fill-clause-idle : goal.returns-in-Err-fill-clause-idle
returns-in-Err-fill-clause-idle g c one = absurd (omega (arith, stopped_low c.end_stopped.result.status c.in-Err-fill.status c.end_stopped.ensures.status c.in-Err-fill.ensures.cause.known, one))

pub returns-in-Err-fill-clause-did : goal.returns-in-Err-fill-clause-did
returns-in-Err-fill-clause-did g c none = absurd (omega (arith, stopped_low c.end_stopped.result.status c.in-Err-fill.status c.end_stopped.ensures.status c.in-Err-fill.ensures.cause.known, none))

pub returns-in-Err-fill-clause-broke : goal.returns-in-Err-fill-clause-broke
returns-in-Err-fill-clause-broke g c four = absurd (omega (arith, stopped_low c.end_stopped.result.status c.in-Err-fill.status c.end_stopped.ensures.status c.in-Err-fill.ensures.cause.known, four))

pub returns-in-Err-fill-clause-foreign : goal.returns-in-Err-fill-clause-foreign
returns-in-Err-fill-clause-foreign g c tells keeps six = inr (record {
  named = stopped_named c.end_stopped.result.status c.in-Err-fill.status (codes "records") c.end_stopped.ensures.same c.in-Err-fill.ensures.cause.foreign
      (stopped_foreign c.end_stopped.result.status c.in-Err-fill.status c.end_stopped.ensures.status six) six;
  sizes = c.in-Ok-open_format.sizes;
  opened_as = subst (λ (asked : AskedSizes). IsOpened asked c.in-Ok-open_format.sizes
      (store_told g.D.Disk.tells (g.D.Disk.state c.args.disk.now).reads g.P.Keep.tells (g.P.Keep.state c.args.keep.now).reads) (g.P.Keep.state c.open_format.new.keep)) c.none.ensures.none
      c.in-Ok-open_format.ensures.opened;
})

pub returns-in-Err-fill-clause-theirs : goal.returns-in-Err-fill-clause-theirs
returns-in-Err-fill-clause-theirs g c keeps six = inr (record {
  named = stopped_named c.end_stopped.result.status c.in-Err-fill.status (codes "records") c.end_stopped.ensures.same c.in-Err-fill.ensures.cause.foreign
      (stopped_foreign c.end_stopped.result.status c.in-Err-fill.status c.end_stopped.ensures.status six) six;
  sizes = c.in-Ok-open_format.sizes;
  opened_as = subst (λ (asked : AskedSizes). IsOpened asked c.in-Ok-open_format.sizes
      (store_told g.D.Disk.tells (g.D.Disk.state c.args.disk.now).reads g.P.Keep.tells (g.P.Keep.state c.args.keep.now).reads) (g.P.Keep.state c.open_format.new.keep)) c.none.ensures.none
      c.in-Ok-open_format.ensures.opened;
})

pub returns-in-Err-fill-clause-damaged : goal.returns-in-Err-fill-clause-damaged
returns-in-Err-fill-clause-damaged g c tells eight = record {
  command = c.in-Ok.command;
  asked = c.in-Ok.ensures.fits;
  sizes = c.in-Ok-open_format.sizes;
  opened_as = subst (λ (asked : AskedSizes). IsOpened asked c.in-Ok-open_format.sizes
      (store_told g.D.Disk.tells (g.D.Disk.state c.args.disk.now).reads g.P.Keep.tells (g.P.Keep.state c.args.keep.now).reads) (g.P.Keep.state c.open_format.new.keep)) c.none.ensures.none
      c.in-Ok-open_format.ensures.opened;
  damage = finds_before c.in-Ok-open_format.sizes.segment c.in-Ok.command.items c.in-Ok.command.start c.end_stopped.result.status _ _ _
      (rests_call (rests_start _) (c.in-Ok-open_format.ensures.rests tells))
      (ended_damage c.in-Ok-open_format.sizes.segment c.in-Ok.command.items c.in-Ok.command.start c.end_stopped.result.status c.in-Err-fill.status _ _ c.end_stopped.ensures.status c.end_stopped.ensures.same
      (c.in-Err-fill.ensures.damaged tells) eight);
}

pub returns-in-Err-fill-clause-records : goal.returns-in-Err-fill-clause-records
returns-in-Err-fill-clause-records g c tells six =
    rests_then (rests_call (rests_start _) (c.in-Ok-open_format.ensures.rests tells)) (c.in-Err-fill.ensures.records tells (stopped_foreign c.end_stopped.result.status c.in-Err-fill.status c.end_stopped.ensures.status six))

pub returns-in-Err-fill-clause-outside : goal.returns-in-Err-fill-clause-outside
returns-in-Err-fill-clause-outside g c tells = outside_then (outside_same (outside_start _) (c.in-Ok-open_format.ensures.rests tells)) (c.in-Err-fill.ensures.outside tells)

pub returns-in-Err-fill-clause-causes : goal.returns-in-Err-fill-clause-causes
returns-in-Err-fill-clause-causes g c =
    stopped_causes c.end_stopped.result.status c.in-Err-fill.status _ _ _ c.in-Ok-open_format.ensures.disk_still c.end_stopped.ensures.status c.in-Err-fill.ensures.cause

-- ---- the store was filled

pub returns-clause-usage : goal.returns-clause-usage
returns-clause-usage g c one = absurd ((filled_apart c.end_filled.result.status c.end_filled.ensures.known).0 one)

pub returns-clause-wrong : goal.returns-clause-wrong
returns-clause-wrong g c none_fits = absurd (none_fits c.in-Ok.command c.in-Ok.ensures.fits)

pub returns-clause-idle : goal.returns-clause-idle
returns-clause-idle g c one = absurd ((filled_apart c.end_filled.result.status c.end_filled.ensures.known).0 one)

pub returns-clause-did : goal.returns-clause-did
returns-clause-did g c none = record {
  command = c.in-Ok.command;
  asked = c.in-Ok.ensures.fits;
  sizes = c.in-Ok-open_format.sizes;
  opened_as = subst (λ (asked : AskedSizes). IsOpened asked c.in-Ok-open_format.sizes
      (store_told g.D.Disk.tells (g.D.Disk.state c.args.disk.now).reads g.P.Keep.tells (g.P.Keep.state c.args.keep.now).reads) (g.P.Keep.state c.open_format.new.keep)) c.none.ensures.none
      c.in-Ok-open_format.ensures.opened;
  summary = c.in-Ok-fill.summary;
  filled = filled_before _ _ _ _ c.in-Ok-fill.summary _ _ _ (λ tells. rests_call (rests_start _) (c.in-Ok-open_format.ensures.rests tells)) c.in-Ok-fill.ensures.filled;
  took = c.end_filled.ensures.done;
  broke = c.end_filled.ensures.failed;
}

pub returns-clause-broke : goal.returns-clause-broke
returns-clause-broke g c four = record {
  command = c.in-Ok.command;
  asked = c.in-Ok.ensures.fits;
  sizes = c.in-Ok-open_format.sizes;
  opened_as = subst (λ (asked : AskedSizes). IsOpened asked c.in-Ok-open_format.sizes
      (store_told g.D.Disk.tells (g.D.Disk.state c.args.disk.now).reads g.P.Keep.tells (g.P.Keep.state c.args.keep.now).reads) (g.P.Keep.state c.open_format.new.keep)) c.none.ensures.none
      c.in-Ok-open_format.ensures.opened;
  summary = c.in-Ok-fill.summary;
  filled = filled_before _ _ _ _ c.in-Ok-fill.summary _ _ _ (λ tells. rests_call (rests_start _) (c.in-Ok-open_format.ensures.rests tells)) c.in-Ok-fill.ensures.filled;
  took = c.end_filled.ensures.done;
  broke = c.end_filled.ensures.failed;
}

pub returns-clause-puts : goal.returns-clause-puts
returns-clause-puts g c whole broke =
    let apart = filled_apart c.end_filled.result.status c.end_filled.ensures.known in
    wrote_nothing c.end_filled.result.status _ apart.1 apart.2 (ap g.K.Sink.taken (c.end_filled.ensures.memory (filled_memory c.end_filled.result.status c.end_filled.ensures.known whole broke)))

pub returns-clause-foreign : goal.returns-clause-foreign
returns-clause-foreign g c tells keeps six = absurd ((filled_apart c.end_filled.result.status c.end_filled.ensures.known).1 six)

pub returns-clause-theirs : goal.returns-clause-theirs
returns-clause-theirs g c keeps six = absurd ((filled_apart c.end_filled.result.status c.end_filled.ensures.known).1 six)

pub returns-clause-damaged : goal.returns-clause-damaged
returns-clause-damaged g c tells eight = absurd ((filled_apart c.end_filled.result.status c.end_filled.ensures.known).2 eight)

pub returns-clause-records : goal.returns-clause-records
returns-clause-records g c tells six = absurd ((filled_apart c.end_filled.result.status c.end_filled.ensures.known).1 six)

pub returns-clause-outside : goal.returns-clause-outside
returns-clause-outside g c tells = outside_then (outside_same (outside_start _) (c.in-Ok-open_format.ensures.rests tells)) (c.in-Ok-fill.ensures.outside tells)

pub returns-clause-causes : goal.returns-clause-causes
returns-clause-causes g c = filled_causes c.end_filled.result.status _ _ c.end_filled.ensures.known (λ four. (c.end_filled.ensures.failed four).rose)
