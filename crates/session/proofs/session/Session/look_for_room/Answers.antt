use Rattle.std.proofs.Common.{◌∙◌, Some, None, Ok, ap, refl, sym}
use Rattle.session.proofs.RoomLemmas.{looks_by, gives_up_by}
use Rattle.session.proofs.ServingSteps.{looked_room}
use Rattle.session.proofs.session.Session.look_for_room.Goals as goal

pub returns-in-Some-new_failure-clause-looks : goal.returns-in-Some-new_failure-clause-looks
returns-in-Some-new_failure-clause-looks g c =
    let old = c.args.self.now in
    looks_by g.C.Calls.makes c.args.calls.now c.look-what.new.calls old.held c.in-Some.pending c.in-Some.before c.look-what.result (Some c.in-Some-new_failure.count) old c.give_up.new.self c.give_up.result
    (sym c.waiting.ensures ∙ c.in-Some.is)
    (looked_room g.C.Calls.makes c.args.calls.now c.look-what.new.calls c.awaits_room.result c.in-Some.pending c.look-what.result c.awaits_room.ensures c.look-what.ensures)
    (sym c.in-Some-new_failure.is ∙ c.new_failure.ensures)
    (gives_up_by old.held c.in-Some-new_failure.count c.look-what.result old c.give_up.new.self c.give_up.result c.give_up.ensures.gives_up c.give_up.ensures.held)

pub returns-in-None-clause-looks : goal.returns-in-None-clause-looks
returns-in-None-clause-looks g c =
    let old = c.args.self.now in
    looks_by g.C.Calls.makes c.args.calls.now c.look-what.new.calls old.held c.in-Some.pending c.in-Some.before c.look-what.result None old old (Ok c.is_flushed.result)
    (sym c.waiting.ensures ∙ c.in-Some.is)
    (looked_room g.C.Calls.makes c.args.calls.now c.look-what.new.calls c.awaits_room.result c.in-Some.pending c.look-what.result c.awaits_room.ensures c.look-what.ensures)
    (sym c.in-None.is ∙ c.new_failure.ensures)
    (λ request is. (ap Ok c.is_flushed.ensures, is, refl))
