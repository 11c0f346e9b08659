use Rattle.std.proofs.Common.{◌≡◌, ◌∙◌, sym, subst, ℕ, [], ◌∷◌, Option, None}
use Rattle.record_codec.specs.Drafts.{draft_fault}
use Rattle.log_model.specs.Numbered.{next_records}
use Rattle.broker_events.specs.declared.said.Said.{Said}
use Rattle.core_log.specs.Rooms.{IsOwnRefusal}
use Rattle.broker_core.proofs.CheckLemmas.{is_free, finds_no_room}
use Rattle.broker_core.proofs.RenewalPlaces.{fault_free}
use Rattle.broker_core.proofs.RoomLemmas.{segment_is}
use Rattle.broker_core.proofs.check_back.renew.Goals as goal

pub size_of-size-requires : goal.size_of-size-requires
size_of-size-requires c =
    let it = c.requires.some in
    subst (λ (S : ℕ). draft_fault S c.args.draft.now ≡ None) (sym (segment_is c.args.parts.now it.0 it.2)) (fault_free c.args.parts.now it.0 c.args.now c.args.origin it.1 c.args.draft.now it.2 it.3)

pub append_renewal-requires-clause-room : goal.append_renewal-requires-clause-room
append_renewal-requires-clause-room c s are =
    sym (c.room.ensures s c.args.draft.now c.args.now are c.size_of-size.ensures)
    ∙ is_free c.room.result (subst (λ (o : Option Said). IsOwnRefusal c.room.result o) c.in-None.is c.refuse_own.ensures)

pub returns-in-Some-clause-checked : goal.returns-in-Some-clause-checked
returns-in-Some-clause-checked c s first are by =
    finds_no_room s c.args.now c.args.origin (next_records s.setup.segment c.args.now s.log (c.args.draft.now ∷ [])) c.room.result c.in-Some.said c.args.parts.now
    (c.room.ensures s c.args.draft.now c.args.now are c.size_of-size.ensures) (subst (λ (o : Option Said). IsOwnRefusal c.room.result o) c.in-Some.is c.refuse_own.ensures) are
