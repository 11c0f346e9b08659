use Rattle.std.proofs.Common.{refl, sym, subst, ◌∷◌, []}
use Rattle.record_codec.specs.Drafts.{entry_of}
use Rattle.queue_view.proofs.NumberedLemmas.{number_within}
use Rattle.broker_model.specs.Step.{with_records}
use Rattle.core_log.specs.declared.parts.Parts.{Parts}
use Rattle.core_log.specs.Represents.{Represents}
use Rattle.core_log.proofs.AppendLemmas.{represents_appended, has_unit, rows_few}
use Rattle.core_log.proofs.parts.Parts.append.Goals as goal

pub stand-requires-clause-there : goal.stand-requires-clause-there
stand-requires-clause-there c = number_within c.args.self.now.queues c.args.draft.now.topic c.args.draft.now.queue c.args.table c.requires.table

pub stand-requires-clause-room : goal.stand-requires-clause-room
stand-requires-clause-room c = record { row = c.requires.room.row; unit = c.requires.room.unit; keys = c.requires.room.keys }

pub stand-requires-clause-few : goal.stand-requires-clause-few
stand-requires-clause-few c = rows_few c.args.self.now c.requires.some.0 c.requires.some.1

pub returns-clause-appended : goal.returns-clause-appended
returns-clause-appended c s halves levels are may whole =
    let old = c.args.self.now in
    let d = c.args.draft.now in
    let p = c.args.place.now in
    let r = entry_of d p in
    let new = c.stand.new.self in
    subst (λ (core : Parts). Represents (record core { halves = halves; levels = levels }) (with_records s p.store (r ∷ []))) (sym c.stand.ensures.rest)
    (represents_appended old s d p c.args.table c.append.new.self new.queues new.rows new.keys halves levels are may c.in_ok-append.ensures.a_record c.requires.table
    c.in_ok-append.ensures.appended (c.in_ok-append.ensures.log s.log are.pending)
    (has_unit old.queues new.queues c.args.table d.topic d.queue _ r refl c.requires.table c.stand.ensures.table c.stand.ensures.records)
    c.stand.ensures.items (c.stand.ensures.log s.log are.rows) (c.stand.ensures.keys s.log are.keys) (whole c.in_ok-append.ensures.a_record))

pub returns-clause-plain : goal.returns-clause-plain
returns-clause-plain c s are may whole =
    let old = c.args.self.now in
    let d = c.args.draft.now in
    let p = c.args.place.now in
    let r = entry_of d p in
    let new = c.stand.new.self in
    subst (λ (core : Parts). Represents core (with_records s p.store (r ∷ []))) (sym c.stand.ensures.rest)
    (represents_appended old s d p c.args.table c.append.new.self new.queues new.rows new.keys old.halves old.levels are may c.in_ok-append.ensures.a_record c.requires.table
    c.in_ok-append.ensures.appended (c.in_ok-append.ensures.log s.log are.pending)
    (has_unit old.queues new.queues c.args.table d.topic d.queue _ r refl c.requires.table c.stand.ensures.table c.stand.ensures.records)
    c.stand.ensures.items (c.stand.ensures.log s.log are.rows) (c.stand.ensures.keys s.log are.keys) (whole c.in_ok-append.ensures.a_record))
