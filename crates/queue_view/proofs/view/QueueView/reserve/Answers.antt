use Rattle.std.proofs.Common.{◌∙◌, refl, subst, sym, ap, List}
use Rattle.queue_view.specs.Tables.{Table, number_of}
use Rattle.queue_view.specs.Added.{AreTablesOf}
use Rattle.queue_view.proofs.NumberedLemmas.{numbered_set, number_of-changed, number_within}
use Rattle.queue_view.proofs.AddedLemmas.{room_tables, made_tables, room_there, room_made}
use Rattle.queue_view.proofs.view.QueueView.reserve.Goals as goal

pub invariant_of-self : goal.invariant_of-self
invariant_of-self c =
    let number = ap (λ (ts : List Table). number_of ts c.args.topic.now c.args.queue) c.self.view_is ∙ sym c.find.ensures ∙ c.in-Some.is in
    numbered_set c.self.inside.tables.items c.make_room.new.tables.items c.self.inside.numbers c.in-Some.table c.self.invariant
    (number_within c.self.inside.tables.items c.args.topic.now c.args.queue c.in-Some.table number)
    (λ t at. let changed = c.make_room.ensures t at in (record t { spare = changed.0 }, refl, refl, changed.3))

pub invariant_of-self-in-Some : goal.invariant_of-self-in-Some
invariant_of-self-in-Some c =
    let number = ap (λ (ts : List Table). number_of ts c.args.topic.now c.args.queue) c.self.view_is ∙ sym c.find.ensures ∙ c.in-Some.is in
    numbered_set c.self.inside.tables.items c.make_room.new.tables.items c.self.inside.numbers c.in-Some.table c.self.invariant
    (number_within c.self.inside.tables.items c.args.topic.now c.args.queue c.in-Some.table number)
    (λ t at. let changed = c.make_room.ensures t at in (record t { spare = changed.0 }, refl, refl, changed.3))

pub returns-in_ok-make_room-in-Some-clause-number : goal.returns-in_ok-make_room-in-Some-clause-number
returns-in_ok-make_room-in-Some-clause-number c =
    let number = ap (λ (ts : List Table). number_of ts c.args.topic.now c.args.queue) c.self.view_is ∙ sym c.find.ensures ∙ c.in-Some.is in
    number_of-changed c.self.inside.tables.items c.make_room.new.tables.items c.in-Some.table
    (number_within c.self.inside.tables.items c.args.topic.now c.args.queue c.in-Some.table number)
    (λ t at. let changed = c.make_room.ensures t at in (record t { spare = changed.0 }, refl, refl, changed.3)) c.args.topic.now c.args.queue
    ∙ number

pub returns-in_err-make_room-in-Some-clause-records : goal.returns-in_err-make_room-in-Some-clause-records
returns-in_err-make_room-in-Some-clause-records c low added n are =
    let number = ap (λ (ts : List Table). number_of ts c.args.topic.now c.args.queue) c.self.view_is ∙ sym c.find.ensures ∙ c.in-Some.is in
    room_tables low added n c.self.inside.tables.items c.make_room.new.tables.items c.in-Some.table (subst (λ (ts : List Table). AreTablesOf low added n ts) (sym c.self.view_is) are)
    (number_within c.self.inside.tables.items c.args.topic.now c.args.queue c.in-Some.table number)
    (λ t at. let changed = c.make_room.ensures t at in (changed.0, changed.3))

pub returns-in_ok-make_room-in-Some-clause-records : goal.returns-in_ok-make_room-in-Some-clause-records
returns-in_ok-make_room-in-Some-clause-records c low added n are =
    let number = ap (λ (ts : List Table). number_of ts c.args.topic.now c.args.queue) c.self.view_is ∙ sym c.find.ensures ∙ c.in-Some.is in
    room_tables low added n c.self.inside.tables.items c.make_room.new.tables.items c.in-Some.table (subst (λ (ts : List Table). AreTablesOf low added n ts) (sym c.self.view_is) are)
    (number_within c.self.inside.tables.items c.args.topic.now c.args.queue c.in-Some.table number)
    (λ t at. let changed = c.make_room.ensures t at in (changed.0, changed.3))

pub returns-in-None-clause-records : goal.returns-in-None-clause-records
returns-in-None-clause-records c low added n are =
    made_tables c.make.result low added n c.args.self.now c.make.new.self c.args.topic.now c.args.queue c.args.additional (sym c.find.ensures ∙ c.in-None.is) c.make.ensures.made c.make.ensures.same are

pub returns-in_ok-make_room-in-Some-clause-room : goal.returns-in_ok-make_room-in-Some-clause-room
returns-in_ok-make_room-in-Some-clause-room c =
    let number = ap (λ (ts : List Table). number_of ts c.args.topic.now c.args.queue) c.self.view_is ∙ sym c.find.ensures ∙ c.in-Some.is in
    room_there c.self.inside.tables.items c.make_room.new.tables.items c.in-Some.table c.args.additional
    (number_within c.self.inside.tables.items c.args.topic.now c.args.queue c.in-Some.table number)
    (λ t at. let changed = c.in_ok-make_room-in-Some.ensures t at in (changed.0, changed.2, changed.3))

pub returns-in-None-clause-room : goal.returns-in-None-clause-room
returns-in-None-clause-room c =
    room_made c.make.result c.args.self.now c.make.new.self c.args.topic.now c.args.queue c.args.additional c.make.ensures.last c.make.ensures.made
