use Rattle.std.proofs.Common.{◌≡◌, ◌∙◌, sym, subst, arith, ℕ, [], ◌∷◌, Option, None}
use Rattle.record_codec.specs.Drafts.{draft_fault}
use Rattle.record_codec.specs.declared.draft.Draft.{Draft}
use Rattle.log_model.specs.Admissible.{half_topic}
use Rattle.log_model.specs.Numbered.{next_records, place_end, queue_max}
use Rattle.log_model.specs.declared.origin.OriginState.TheVariants.{Discarded}
use Rattle.broker_events.specs.declared.said.Said.{Said}
use Rattle.core_log.specs.Rooms.{IsOwnRefusal}
use Rattle.broker_core.proofs.CheckLemmas.{is_free, finds_no_room}
use Rattle.broker_core.proofs.RoomLemmas.{segment_is}
use Rattle.core_log.proofs.SettleLemmas.{copies, op_may, earlier}
use Rattle.broker_core.proofs.check_back.give_up.Goals as goal

pub size_of-requires : goal.size_of-requires
size_of-requires c =
    let it = c.requires.some in
    let s = it.0 in
    let are = it.2 in
    let may = copies s c.args.now c.args.origin Discarded it.1 c.args.copy.now c.args.op.now are.state it.3 0 c.args.parts.now.halves.view (record { queue_offset = 0; offset = place_end s.log; store = 0 }) are.halves.view (omega arith) in
    subst (λ (S : ℕ). draft_fault S c.args.copy.now ≡ None) (sym (segment_is c.args.parts.now s are)) may.stands.passes

pub size_of-requires-2 : goal.size_of-requires-2
size_of-requires-2 c =
    let it = c.requires.some in
    let s = it.0 in
    let are = it.2 in
    let is = it.3 in
    let may = op_may s c.args.origin is.first are.state is.named c.args.now (queue_max s.log half_topic 0) (record { queue_offset = 0; offset = 0; store = 0 }) is.time (earlier s c.args.origin is.first are.state is.named) in
    subst (λ (S : ℕ). draft_fault S c.args.op.now ≡ None) (sym (segment_is c.args.parts.now s are))
    (subst (λ (d : Draft). draft_fault s.setup.segment d ≡ None) (sym is.op_is) may.passes)

pub append_given_up-requires-clause-room : goal.append_given_up-requires-clause-room
append_given_up-requires-clause-room c s are =
    sym (c.room_for_two.ensures s c.args.copy.now c.args.op.now c.args.now are c.size_of.ensures c.size_of-2.ensures)
    ∙ is_free c.room_for_two.result (subst (λ (o : Option Said). IsOwnRefusal c.room_for_two.result o) c.in-None.is c.refuse_own.ensures)

pub returns-in-Some-clause-checked : goal.returns-in-Some-clause-checked
returns-in-Some-clause-checked c s half are is =
    finds_no_room s c.args.now c.args.origin (next_records s.setup.segment c.args.now s.log (c.args.copy.now ∷ c.args.op.now ∷ [])) c.room_for_two.result c.in-Some.said c.args.parts.now
    (c.room_for_two.ensures s c.args.copy.now c.args.op.now c.args.now are c.size_of.ensures c.size_of-2.ensures)
    (subst (λ (o : Option Said). IsOwnRefusal c.room_for_two.result o) c.in-Some.is c.refuse_own.ensures) are
