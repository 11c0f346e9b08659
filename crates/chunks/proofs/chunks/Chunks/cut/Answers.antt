use Rattle.std.proofs.Common.{◌∙◌, ap, subst, sym, arith, min, ◌+◌, ◌/◌, ◌≤◌, length, drop}
use Rattle.chunks.proofs.ChunkLemmas.{IsCut, place_within_cut, cut_are, cut_items}
use Rattle.chunks.specs.Lists.{Roomy}
use Rattle.chunks.proofs.chunks.Chunks.cut.Goals as goal

pub overflow_add-place : goal.overflow_add-place
overflow_add-place g c =
    let inside = c.self.inside in
    let within = subst (λ (v : Roomy _). c.args.count ≤ length v.items) (sym c.self.view_is) c.requires in
    let place = place_within_cut inside.full inside.last inside.next inside.skipped c.self.invariant c.args.count within in
    let few = c.self.invariant.few in
    let short = c.self.invariant.short in
    omega (arith, place, few, short)

pub invariant_of-self : goal.invariant_of-self
invariant_of-self g c =
    let inside = c.self.inside in
    let is : IsCut inside.full inside.last inside.next inside.skipped c.self.invariant c.args.count c.min-chunks.result c.drop_front.new.full = record {
      within = subst (λ (v : Roomy _). c.args.count ≤ length v.items) (sym c.self.view_is) c.requires;
      chunks_is = c.min-chunks.ensures ∙ ap (λ n. min ((inside.skipped + c.args.count) / 1024) n) c.len.ensures;
      items = c.drop_front.ensures.items;
      len = c.drop_front.ensures.len;
      capacity = c.drop_front.ensures.capacity;
    } in
    cut_are inside.full inside.last inside.next inside.skipped c.self.invariant c.args.count c.min-chunks.result c.drop_front.new.full is

pub returns-clause-items : goal.returns-clause-items
returns-clause-items g c =
    let inside = c.self.inside in
    let is : IsCut inside.full inside.last inside.next inside.skipped c.self.invariant c.args.count c.min-chunks.result c.drop_front.new.full = record {
      within = subst (λ (v : Roomy _). c.args.count ≤ length v.items) (sym c.self.view_is) c.requires;
      chunks_is = c.min-chunks.ensures ∙ ap (λ n. min ((inside.skipped + c.args.count) / 1024) n) c.len.ensures;
      items = c.drop_front.ensures.items;
      len = c.drop_front.ensures.len;
      capacity = c.drop_front.ensures.capacity;
    } in
    cut_items inside.full inside.last inside.next inside.skipped c.self.invariant c.args.count c.min-chunks.result c.drop_front.new.full is
    ∙ ap (λ (v : Roomy _). drop c.args.count v.items) c.self.view_is
