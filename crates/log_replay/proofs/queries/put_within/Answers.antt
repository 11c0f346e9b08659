use Rattle.std.proofs.Common.{◌++◌, ℕ, List, ap, ◌∙◌}
use Rattle.std.specs.Prelude.{◌-◌}
use Rattle.log_replay.proofs.Replies.{reply_ends, reply_goes_on, places_of}
use Rattle.log_model.specs.Keys.{within}
use Rattle.std.proofs.Common.{◌+◌, [], ◌∷◌, drop, get_or, arith}
use Rattle.log_replay.proofs.queries.put_within.Goals as goal

pub returns-then-from-room : goal.returns-then-from-room
returns-then-from-room c = λ rs same.
    let i = c.loop-place.place-index in
    reply_ends c.args.records.now rs same i c.loop-place-test.true c.loop-place.places.items c.loop-place.room (omega (arith, c.if-from-room.true, c.from.ensures))
    ∙ c.loop-place.invariant rs same

pub loop-place-preserved : goal.loop-place-preserved
loop-place-preserved c = λ rs same.
    let i = c.loop-place.place-index in
    let pairs = c.args.records.now in
    let left : List ℕ → ℕ → List ℕ = λ l n. l ++ places_of (within (c.loop-place.room - n) (drop (i + 1) rs)) in
    ap (λ (l : List ℕ). left l c.from-room.result) c.in_ok-push.ensures.items
    ∙ ap (left (c.loop-place.places.items ++ (get_or pairs i (0, 0)).0 ∷ [])) c.from-room.ensures
    ∙ reply_goes_on pairs rs same i c.loop-place-test.true c.loop-place.places.items c.loop-place.room (omega (arith, c.if-from-room.false, c.from.ensures))
    ∙ c.loop-place.invariant rs same
