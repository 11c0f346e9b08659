use Rattle.std.proofs.Common.{◌∙◌, ap, subst, sym, ℕ}
use Rattle.log_model.specs.Stored.{IsOutside}
use Rattle.log_model.proofs.OutsideLemmas.{outside_then}
use Rattle.exit_status.proofs.LogLemmas.{stays_rests}
use Rattle.core_log.specs.Represents.{Represents}
use Rattle.core_log.specs.Shows.{shown_of}
use Rattle.core_log.specs.declared.parts.Parts.{Parts}
use Rattle.worker_turns.specs.Acts.{view_of}
use Rattle.gen_run.proofs.DamageLemmas.{gives_other, stop_sound}
use Rattle.gen_run.proofs.FillLemmas.{filled}
use Rattle.gen_run.proofs.RunLemmas.{counts_then, stop_counts, stop_not_foreign}
use Rattle.gen_run.proofs.opening.fill_opened.Goals as goal

pub give_all-requires-clause-free : goal.give_all-requires-clause-free
give_all-requires-clause-free g c = record { key_is = tt {0}; none_out = ap (λ (p : Parts). (shown_of p).out) c.new-calls.ensures ∙ c.requires.none_out }

pub returns-clause-filled : goal.returns-clause-filled
returns-clause-filled g c before opens =
    filled (view_of g.D.Disk.tells g.D.Disk.state g.D.Disk.faults g.D.Disk.syncs) c.args.segment c.args.items c.args.start c.in-Ok.found c.in-Ok-checked.summary c.args.opened c.new-calls.result c.give_all.new.calls
    (g.D.Disk.state before) c.args.disk.now c.give_all.new.disk c.checked.new.disk c.give_all.new.flusher.file opens c.new-calls.ensures c.in-Ok.ensures.acted c.in-Ok-checked.ensures.rests
    (λ s are. c.in-Ok-checked.ensures.sums s (subst (λ (p : Parts). Represents p s) (sym c.into_core-core.ensures) are))

pub returns-in-Err-clause-cause : goal.returns-in-Err-clause-cause
returns-in-Err-clause-cause g c = stop_counts ℕ _ c.in-Err.stop _ _ c.status_of_stop.ensures.tells c.in-Err.ensures.cause

pub returns-in-Err-clause-others : goal.returns-in-Err-clause-others
returns-in-Err-clause-others g c = stop_not_foreign c.status_of_stop.result c.in-Err.stop c.status_of_stop.ensures.tells

pub returns-in-Err-checked-clause-cause : goal.returns-in-Err-checked-clause-cause
returns-in-Err-checked-clause-cause g c = counts_then _ _ _ _ c.in-Ok.ensures.cause c.in-Err-checked.ensures.cause

pub returns-in-Err-checked-clause-outside : goal.returns-in-Err-checked-clause-outside
returns-in-Err-checked-clause-outside g c = λ tells. outside_then (c.in-Ok.ensures.outside tells) (stays_rests IsOutside _ _ (c.in-Err-checked.ensures.rests tells))

pub returns-clause-outside : goal.returns-clause-outside
returns-clause-outside g c = λ tells. outside_then (c.in-Ok.ensures.outside tells) (stays_rests IsOutside _ _ (c.in-Ok-checked.ensures.rests tells))

pub returns-in-Err-clause-damaged : goal.returns-in-Err-clause-damaged
returns-in-Err-clause-damaged g c = λ before opens tells eight. absurd (stop_sound c.status_of_stop.result c.in-Err.stop c.status_of_stop.ensures.tells eight)

pub returns-in-Err-checked-clause-damaged : goal.returns-in-Err-checked-clause-damaged
returns-in-Err-checked-clause-damaged g c = λ before opens tells eight.
    gives_other (view_of g.D.Disk.tells g.D.Disk.state g.D.Disk.faults g.D.Disk.syncs) c.args.segment c.args.items c.args.start c.in-Ok.found c.in-Err-checked.status c.args.opened c.new-calls.result
    c.give_all.new.calls (g.D.Disk.state before) c.args.disk.now c.give_all.new.disk c.checked.new.disk c.give_all.new.flusher.file tells opens c.new-calls.ensures c.in-Ok.ensures.acted
    (c.in-Err-checked.ensures.rests tells) (c.in-Err-checked.ensures.damaged tells eight)
