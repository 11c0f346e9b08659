use Rattle.std.proofs.Common.{refl}
use Rattle.log_model.proofs.OutsideLemmas.{outside_then}
use Rattle.pipe_stream.proofs.DueLemmas.{asked_broke, asked_served, heard_at}
use Rattle.pipe_stream.proofs.request.serve_at.Goals as goal

pub returns-in-Err-clause-served : goal.returns-in-Err-clause-served
returns-in-Err-clause-served g c = λ frame is. asked_broke _ frame c.args.now c.in-Err.stop _ _ _ _ (c.in-Err.ensures.asked (g.R.Reader.faults c.args.reader.now))

pub returns-in-Ok-clause-served : goal.returns-in-Ok-clause-served
returns-in-Ok-clause-served g c = λ frame is.
    asked_served _ frame c.args.now c.answer_heard.result _ _ _ _ _ _ (c.in-Ok.ensures.asked (g.R.Reader.faults c.args.reader.now)) refl refl
    (heard_at _ frame c.args.now c.answer_heard.result _ _ _ _ _ _ _ _ c.ask_due.new.asked (c.answer_heard.ensures.answered frame is))

pub returns-in-Ok-clause-outside : goal.returns-in-Ok-clause-outside
returns-in-Ok-clause-outside g c tells = outside_then (c.in-Ok.ensures.outside tells) (c.answer_heard.ensures.outside tells)
