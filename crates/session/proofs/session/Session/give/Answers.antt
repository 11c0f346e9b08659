use Rattle.std.proofs.Common.{rules, ◌≡◌, false, None, Ok, subst}
use Rattle.std.proofs.lemmas.Int.{to_z-of_z}
use Rattle.std.specs.Prelude.{ℤ}
use Rattle.std.specs.Int.{w32}
use Rattle.broker_events.specs.Served.{is_served}
use Rattle.request_fields.specs.declared.fault.RequestFault.TheVariants.{Unsupported}
use Rattle.reply_fields.specs.Refusals.{fault_reply}
use Rattle.session.specs.Serving.{OwesOne, heard_from}
use Rattle.session.proofs.ServingSteps.{refuses_unserved, serves_refused}
use Rattle.session.proofs.session.Session.give.Goals as goal

pub returns-then-not-is_served-clause-serves : goal.returns-then-not-is_served-clause-serves
returns-then-not-is_served-clause-serves g c =
    let unserved : is_served c.args.request ≡ false = search rules in
    let owes = subst (λ (z : ℤ). OwesOne (record { caller = c.args.caller; reply = fault_reply (Unsupported z); awaits = None }) c.args.self.now c.refuse.result c.refuse.new.self)
    (to_z-of_z w32 c.args.code c.ranges.code) c.refuse.ensures.owes in
    serves_refused g.C.Calls.makes c.args.calls.now c.args.now (heard_from c.args.caller c.args.code (Ok c.args.request)) (Unsupported c.args.code)
    c.args.self.now c.refuse.new.self c.refuse.result (refuses_unserved c.args.code c.args.request unserved) owes c.refuse.ensures.held
