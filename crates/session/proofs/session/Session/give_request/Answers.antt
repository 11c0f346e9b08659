use Rattle.std.proofs.Common.{◌≡◌, ◌∙◌, Some, None, Ok, Err, ap, refl, subst}
use Rattle.std.proofs.lemmas.Int.{to_z-of_z}
use Rattle.std.specs.Prelude.{ℤ}
use Rattle.std.specs.Int.{w32}
use Rattle.reply_fields.specs.Refusals.{fault_reply}
use Rattle.request_fields.specs.declared.fault.RequestFault.TheVariants.{Memory}
use Rattle.session.specs.Owing.{applied_of}
use Rattle.session.specs.Serving.{heard_from}
use Rattle.session.specs.declared.serving.Halt.TheVariants as halts
use Rattle.session.proofs.ServingSteps.{serves_room, serves_full, looked_room}
use Rattle.session.proofs.session.Session.give_request.Goals as goal

pub returns-in-Ok-Owes-clause-serves : goal.returns-in-Ok-Owes-clause-serves
returns-in-Ok-Owes-clause-serves g c =
    let said = c.in-Ok-Owes.ensures in
    serves_room g.C.Calls.makes c.args.calls.now c.apply.new.calls c.args.self.now c.link.result c.host.result c.args.now c.args.caller c.args.code c.args.request
    c.link.ensures c.host.ensures c.requires.served said.what said.made c.in-Ok-Owes.reply c.in-Ok-Owes.awaits c.owe.result c.owe.new.self (said.told ∙ ap Some c.in-Ok-Owes.field-0-is)
    c.owe.ensures.owes c.owe.ensures.held

pub returns-in-Ok-Full-clause-serves : goal.returns-in-Ok-Full-clause-serves
returns-in-Ok-Full-clause-serves g c =
    let said = c.in-Ok-Full.ensures in
    let held = subst (λ (z : ℤ). c.hold.new.self.held ≡ Some (record { heard = heard_from c.args.caller z (Ok c.args.request); pending = c.in-Ok-Full.pending; before = c.look-before.result }))
    (to_z-of_z w32 c.args.code c.ranges.code) c.hold.ensures.held in
    serves_full g.C.Calls.makes c.args.calls.now c.apply.new.calls c.args.self.now c.link.result c.host.result c.args.now c.args.caller c.args.code c.args.request
    c.link.ensures c.host.ensures c.requires.served said.what said.made c.in-Ok-Full.pending c.look-before.result c.look-before.new.calls c.hold.new.self
    (said.told ∙ ap Some c.in-Ok-Full.field-0-is)
    (looked_room g.C.Calls.makes c.apply.new.calls c.look-before.new.calls c.awaits_room.result c.in-Ok-Full.pending c.look-before.result c.awaits_room.ensures c.look-before.ensures)
    held c.hold.ensures.owed

pub returns-in-Err-clause-serves : goal.returns-in-Err-clause-serves
returns-in-Err-clause-serves g c =
    let said = c.in-Err.ensures in
    serves_room g.C.Calls.makes c.args.calls.now c.apply.new.calls c.args.self.now c.link.result c.host.result c.args.now c.args.caller c.args.code c.args.request
    c.link.ensures c.host.ensures c.requires.served said.what said.made (fault_reply Memory) None (Err halts.Memory) c.args.self.now (ap applied_of said.told) refl refl
