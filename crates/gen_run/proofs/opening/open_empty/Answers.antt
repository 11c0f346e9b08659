use Rattle.log_model.specs.Stored.{IsOutside}
use Rattle.log_model.proofs.OutsideLemmas.{outside_then}
use Rattle.exit_status.proofs.LogLemmas.{stays_rests}
use Rattle.gen_run.proofs.DamageLemmas.{none_then, were_before}
use Rattle.gen_run.proofs.FillLemmas.{opened_before}
use Rattle.gen_run.proofs.RunLemmas.{counts_then}
use Rattle.gen_run.proofs.opening.open_empty.Goals as goal

pub returns-in-Err-clause-records : goal.returns-in-Err-clause-records
returns-in-Err-clause-records g c = λ tells six. c.in-Err.ensures.rests tells

pub returns-in-Err-clause-outside : goal.returns-in-Err-clause-outside
returns-in-Err-clause-outside g c = λ tells. stays_rests IsOutside _ _ (c.in-Err.ensures.rests tells)

pub returns-in-Err-open_unfilled-clause-cause : goal.returns-in-Err-open_unfilled-clause-cause
returns-in-Err-open_unfilled-clause-cause g c = counts_then _ _ _ _ c.in-Ok.ensures.still c.in-Err-open_unfilled.ensures.cause

pub returns-in-Err-open_unfilled-clause-records : goal.returns-in-Err-open_unfilled-clause-records
returns-in-Err-open_unfilled-clause-records g c = λ tells six. absurd (c.in-Err-open_unfilled.ensures.others six)

pub returns-in-Err-open_unfilled-clause-outside : goal.returns-in-Err-open_unfilled-clause-outside
returns-in-Err-open_unfilled-clause-outside g c = λ tells. outside_then (stays_rests IsOutside _ _ (c.in-Ok.ensures.rests tells)) (c.in-Err-open_unfilled.ensures.outside tells)

pub returns-in-Ok-open_unfilled-clause-opens : goal.returns-in-Ok-open_unfilled-clause-opens
returns-in-Ok-open_unfilled-clause-opens g c =
    opened_before _ c.args.segment c.in-Ok-open_unfilled.opened _ _ _ (λ tells. c.in-Ok.ensures.rests tells) c.in-Ok-open_unfilled.ensures.opens

pub returns-in-Ok-open_unfilled-clause-outside : goal.returns-in-Ok-open_unfilled-clause-outside
returns-in-Ok-open_unfilled-clause-outside g c = λ tells. outside_then (stays_rests IsOutside _ _ (c.in-Ok.ensures.rests tells)) (c.in-Ok-open_unfilled.ensures.outside tells)

pub returns-in-Err-clause-damaged : goal.returns-in-Err-clause-damaged
returns-in-Err-clause-damaged g c = λ tells eight. record { damaged = c.in-Err.ensures.damaged tells eight; rests = c.in-Err.ensures.rests tells }

pub returns-in-Err-open_unfilled-clause-damaged : goal.returns-in-Err-open_unfilled-clause-damaged
returns-in-Err-open_unfilled-clause-damaged g c = λ tells eight.
    were_before c.args.segment _ _ _ _ (c.in-Ok.ensures.rests tells)
    (c.in-Err-open_unfilled.ensures.damaged (λ told. none_then c.args.segment _ _ (c.in-Ok.ensures.rests told) (c.in-Ok.ensures.none told)) tells eight)
