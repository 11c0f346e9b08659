use Rattle.std.proofs.Common.{rules, refl}
use Rattle.std.proofs.lemmas.Int.{to_z-of_z}
use Rattle.std.specs.Int.{w32}
use Rattle.log_model.proofs.OutsideLemmas.{outside_then}
use Rattle.pipe_stream.proofs.TellingLemmas.{heard_broken, heard_by}
use Rattle.pipe_stream.proofs.request.answer_heard.Goals as goal

pub returns-in-Err-clause-answered : goal.returns-in-Err-clause-answered
returns-in-Err-clause-answered g c = λ frame is.
    heard_broken _ frame c.args.now c.in-Err.broken c.stop_of.result _ _ _ _ c.stop_of.ensures c.in-Err.ensures.acted refl

pub returns-in-Ok-clause-answered : goal.returns-in-Ok-clause-answered
returns-in-Ok-clause-answered g c = λ frame is.
    heard_by _ frame c.args.now c.args.heard c.in-Ok.answer _ c.caller-caller.result c.answer_request.result _ _ _ _ _ _ (to_z-of_z w32 c.args.heard.code (search rules))
    c.caller-caller.ensures is c.in-Ok.ensures.acted refl refl c.answer_request.ensures.answered

pub returns-in-Ok-clause-outside : goal.returns-in-Ok-clause-outside
returns-in-Ok-clause-outside g c tells = outside_then (c.in-Ok.ensures.outside tells) (c.answer_request.ensures.outside tells)
