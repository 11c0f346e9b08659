use Rattle.std.proofs.Common.{◌≡◌, ℕ, List, map, reverse, sym, ap, subst, ◌∙◌}
use Rattle.std.specs.Prelude.{ℤ, FitsSigned}
use mir.Val.{to_z, of_z}
use Rattle.std.specs.Int.{w32, w64, w128}
use Rattle.std.proofs.lemmas.Int.{to_z-of_z}
use Rattle.record_codec.specs.Entry.{Entry}
use Rattle.log_model.specs.Keys.{asked_number, newest_with_key, cut_to}
use Rattle.log_model.specs.Queues.{entries_of}
use Rattle.log_replay.specs.Told.{place_and_size}
use Rattle.log_replay.proofs.Replies.{newest_are, reverse-map}
use Rattle.log_replay.proofs.Widths.{wide, wide32}
use Rattle.log_replay.proofs.queries.query_reply.Goals as goal

bound : (y z : ℤ) → y ≡ to_z w64 (of_z w64 z) → FitsSigned w64 z → to_z w128 (of_z w128 y) ≡ z
bound y z is fits =
    let same : y ≡ z = is ∙ to_z-of_z w64 z fits in
    to_z-of_z w128 y (subst (λ (x : ℤ). FitsSigned w128 x) (sym same) (wide z fits)) ∙ same

number : (y z : ℤ) → y ≡ to_z w32 (of_z w32 z) → FitsSigned w32 z → to_z w64 (of_z w64 y) ≡ z
number y z is fits =
    let same : y ≡ z = is ∙ to_z-of_z w32 z fits in
    to_z-of_z w64 y (subst (λ (x : ℤ). FitsSigned w64 x) (sym same) (wide32 z fits)) ∙ same

pub returns : goal.returns
returns c =
    let are = newest_are (entries_of c.args.log.now) c.args.topic.now c.args.key.now c.key_hash-hash.result c.asked-most.result _ _ c.args.from c.args.to c.args.most
    c.key_hash-hash.ensures
    (bound c.from-2.result c.args.from c.from-2.ensures c.ranges.from)
    (bound c.from-3.result c.args.to c.from-3.ensures c.ranges.to)
    (c.asked-most.ensures ∙ ap (asked_number 64) (number c.from.result c.args.most c.from.ensures c.ranges.most)) in
    let records = newest_with_key (entries_of c.args.log.now) c.args.topic.now c.args.key.now c.args.from c.args.to c.args.most in
    c.reverse.ensures.items
    ∙ ap (λ (l : List ℕ). reverse l) (c.in_ok-places.ensures records (c.deref.ensures.value ∙ c.in_ok-found.ensures ∙ ap (λ (rs : List Entry). map place_and_size rs) are))
    ∙ reverse-map (λ (r : Entry). r.offset) (cut_to 8388608 records)
