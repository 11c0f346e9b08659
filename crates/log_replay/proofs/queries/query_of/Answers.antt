use Rattle.std.proofs.Common.{◌≡◌, ℕ, ◌<◌, ◌^◌, List, map, sym, ap, subst, ◌∙◌}
use Rattle.std.specs.Prelude.{ℤ, pos, FitsSigned}
use Rattle.std.specs.Int.{w64, w128}
use Rattle.std.proofs.lemmas.Int.{to_z-of_z}
use Rattle.log_model.specs.Keys.{asked_number}
use Rattle.log_model.specs.Queues.{entries_of}
use Rattle.log_replay.proofs.Replies.{newest_are, firsts, places_of}
use Rattle.log_replay.proofs.Widths.{wide_pos, wide_pos32}
use Rattle.log_replay.proofs.queries.query_of.Goals as goal

wider : (z : ℤ) (n : ℕ) → z ≡ pos n → n < 2 ^ 64 → FitsSigned w128 z
wider z n is low = subst (λ (y : ℤ). FitsSigned w128 y) (sym is) (wide_pos n low)

wider32 : (z : ℤ) (n : ℕ) → z ≡ pos n → n < 2 ^ 32 → FitsSigned w64 z
wider32 z n is low = subst (λ (y : ℤ). FitsSigned w64 y) (sym is) (wide_pos32 n low)

pub returns : goal.returns
returns c =
    let are = newest_are (entries_of c.args.log.now) c.args.topic.now c.args.key.now c.key_hash-hash.result c.asked-most.result _ _ (pos c.args.from) (pos c.args.to) (pos c.args.most)
    c.key_hash-hash.ensures
    (to_z-of_z w128 c.from-2.result (wider c.from-2.result c.args.from c.from-2.ensures c.ranges.from.fits) ∙ c.from-2.ensures)
    (to_z-of_z w128 c.from-3.result (wider c.from-3.result c.args.to c.from-3.ensures c.ranges.to.fits) ∙ c.from-3.ensures)
    (c.asked-most.ensures ∙ ap (asked_number 64) (to_z-of_z w64 c.from.result (wider32 c.from.result c.args.most c.from.ensures c.ranges.most.fits) ∙ c.from.ensures)) in
    c.in_ok-places.ensures ∙ ap (λ (l : List (ℕ × ℕ)). map (λ (p : ℕ × ℕ). p.0) l) (c.deref.ensures.value ∙ c.in_ok-found.ensures) ∙ firsts _ ∙ ap places_of are
