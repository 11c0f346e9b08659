use Rattle.std.proofs.Common.{ap, inl, inr}
use Rattle.broker_events.specs.Shown.{Shown}
use Rattle.log_model.proofs.OutsideLemmas.{outside_then}
use Rattle.gen_run.proofs.RunLemmas.{counts_then}
use Rattle.gen_run.proofs.opening.fill.Goals as goal

pub fill_opened-requires-clause-none_out : goal.fill_opened-requires-clause-none_out
fill_opened-requires-clause-none_out g c = ap (λ (s : Shown). s.out) c.in-Ok.ensures.opens.opens.shown

pub returns-in-Err-fill_opened-clause-cause : goal.returns-in-Err-fill_opened-clause-cause
returns-in-Err-fill_opened-clause-cause g c = counts_then _ _ _ _ c.in-Ok.ensures.still c.in-Err-fill_opened.ensures.cause

pub returns-in-Err-fill_opened-clause-records : goal.returns-in-Err-fill_opened-clause-records
returns-in-Err-fill_opened-clause-records g c = λ tells six. absurd (c.in-Err-fill_opened.ensures.others six)

pub returns-in-Err-fill_opened-clause-outside : goal.returns-in-Err-fill_opened-clause-outside
returns-in-Err-fill_opened-clause-outside g c = λ tells. outside_then (c.in-Ok.ensures.outside tells) (c.in-Err-fill_opened.ensures.outside tells)

pub returns-in-Ok-fill_opened-clause-filled : goal.returns-in-Ok-fill_opened-clause-filled
returns-in-Ok-fill_opened-clause-filled g c = c.in-Ok-fill_opened.ensures.filled c.args.disk.now c.in-Ok.ensures.opens

pub returns-in-Ok-fill_opened-clause-outside : goal.returns-in-Ok-fill_opened-clause-outside
returns-in-Ok-fill_opened-clause-outside g c = λ tells. outside_then (c.in-Ok.ensures.outside tells) (c.in-Ok-fill_opened.ensures.outside tells)

pub returns-in-Err-clause-damaged : goal.returns-in-Err-clause-damaged
returns-in-Err-clause-damaged g c = λ tells eight. inl (c.in-Err.ensures.damaged tells eight)

pub returns-in-Err-fill_opened-clause-damaged : goal.returns-in-Err-fill_opened-clause-damaged
returns-in-Err-fill_opened-clause-damaged g c = λ tells eight. inr (c.in-Err-fill_opened.ensures.damaged c.args.disk.now c.in-Ok.ensures.opens tells eight)
