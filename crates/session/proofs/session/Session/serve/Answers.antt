use Rattle.std.proofs.Common.{None, ap, subst}
use Rattle.reply_fields.specs.Refusals.{fault_reply}
use Rattle.session.specs.Serving.{OwesOne, refusal_in}
use Rattle.session.specs.declared.caller.Caller.{Caller}
use Rattle.session.proofs.ServingSteps.{serves_refused}
use Rattle.session.proofs.session.Session.serve.Goals as goal

pub returns-in-Err-clause-serves : goal.returns-in-Err-clause-serves
returns-in-Err-clause-serves g c =
    let owes = subst (λ (w : Caller). OwesOne (record { caller = w; reply = fault_reply c.in-Err.fault; awaits = None }) c.args.self.now c.refuse.result c.refuse.new.self)
    c.caller-caller.ensures c.refuse.ensures.owes in
    serves_refused g.C.Calls.makes c.args.calls.now c.args.now c.args.heard c.in-Err.fault c.args.self.now c.refuse.new.self c.refuse.result
    (ap (refusal_in c.args.heard.code) c.in-Err.is) owes c.refuse.ensures.held
