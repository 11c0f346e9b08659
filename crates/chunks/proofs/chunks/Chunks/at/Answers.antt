use Rattle.std.proofs.Common.{sym, ◌≡◌, subst, arith, ◌<◌, ◌≤◌, ◌/◌, ◌+◌, length, slice_get, get_or, ◌-◌, ◌*◌, Some}
use Rattle.chunks.proofs.ChunkLemmas.{place_within, found_full, found_last, within_last, whole_there}
use Rattle.chunks.specs.Lists.{Roomy}
use Rattle.chunks.proofs.chunks.Chunks.at.Goals as goal

pub overflow_add-place : goal.overflow_add-place
overflow_add-place g c =
    let inside = c.self.inside in
    let within = subst (λ (v : Roomy _). c.args.index < length v.items) (sym c.self.view_is) c.requires in
    let place = place_within inside.full inside.last inside.next inside.skipped c.self.invariant c.args.index within in
    let few = c.self.invariant.few in
    let short = c.self.invariant.short in
    omega (arith, place, few, short)

pub item_in-requires-clause-chunk : goal.item_in-requires-clause-chunk
item_in-requires-clause-chunk g c chunk there =
    let inside = c.self.inside in
    let place = c.args.index + inside.skipped in
    let whole = whole_there inside.full inside.last inside.next inside.skipped c.self.invariant chunk (place / 1024) there in
    omega (arith, whole, chunk.ok.0)

pub index-requires : goal.index-requires
index-requires g c =
    let inside = c.self.inside in
    let few = subst (λ n. n ≤ (c.args.index + inside.skipped) / 1024) c.len.ensures c.if-k-len.false in
    let within = subst (λ (v : Roomy _). c.args.index < length v.items) (sym c.self.view_is) c.requires in
    rw c.len-else-k-len.ensures (within_last inside.full inside.last inside.next inside.skipped c.self.invariant c.args.index few within)

pub returns-then-k-len : goal.returns-then-k-len
returns-then-k-len g c =
    let inside = c.self.inside in
    let many = subst (λ n. (c.args.index + inside.skipped) / 1024 < n) c.len.ensures c.if-k-len.true in
    subst (λ (v : Roomy _). slice_get v.items c.args.index ≡ Some c.item_in.result) c.self.view_is
    (found_full inside.full inside.last inside.next inside.skipped c.self.invariant c.args.index c.item_in.result many c.item_in.ensures)

pub returns-else-k-len : goal.returns-else-k-len
returns-else-k-len g c =
    let inside = c.self.inside in
    let few = subst (λ n. n ≤ (c.args.index + inside.skipped) / 1024) c.len.ensures c.if-k-len.false in
    let within = subst (λ (v : Roomy _). c.args.index < length v.items) (sym c.self.view_is) c.requires in
    let found = subst (λ n. c.index.result.now ≡ get_or inside.last.items (c.args.index + inside.skipped - n * 1024) c.index.result.now) c.len-else-k-len.ensures c.index.ensures in
    subst (λ (v : Roomy _). slice_get v.items c.args.index ≡ Some c.index.result.now) c.self.view_is
    (found_last inside.full inside.last inside.next inside.skipped c.self.invariant c.args.index c.index.result.now few within found)
