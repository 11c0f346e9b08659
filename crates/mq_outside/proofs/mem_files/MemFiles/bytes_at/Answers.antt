use Rattle.std.proofs.Common.{arith, ◌≡◌, ◌∙◌, ap, sym, ◌+◌, ◌-◌, ℕ, List, take, drop, Some}
use Rattle.std.proofs.lemmas.List.{drop-drop}
use Rattle.mq_outside.proofs.MemFilesLemmas.{found_ends, found_bytes}
use Rattle.mq_outside.proofs.mem_files.MemFiles.bytes_at.Goals as goal

pub overflow_add-start : goal.overflow_add-start
overflow_add-start c =
    let ends = found_ends c.args.self.now.extents.items c.args.self.now.buffer.items c.args.name.now c.args.place c.args.self.now.filled c.requires.place c.requires.found c.index-extent.result.now c.index-extent.result.now (sym c.index-extent.ensures) in
    omega (arith, ends)

pub overflow_add-result : goal.overflow_add-result
overflow_add-result c =
    let ends = found_ends c.args.self.now.extents.items c.args.self.now.buffer.items c.args.name.now c.args.place c.args.self.now.filled c.requires.place c.requires.found c.index-extent.result.now c.index-extent.result.now (sym c.index-extent.ensures) in
    omega (arith, ends)

pub slice_bounds-result-end : goal.slice_bounds-result-end
slice_bounds-result-end c =
    let ends = found_ends c.args.self.now.extents.items c.args.self.now.buffer.items c.args.name.now c.args.place c.args.self.now.filled c.requires.place c.requires.found c.index-extent.result.now c.index-extent.result.now (sym c.index-extent.ensures) in
    omega (arith, ends, c.deref.ensures.len)

pub returns : goal.returns
returns c =
    let bytes = found_bytes c.args.self.now.extents.items c.args.self.now.buffer.items c.args.name.now c.args.place c.args.self.now.filled c.requires.place c.requires.found c.index-extent.result.now c.index-extent.result.now (sym c.index-extent.ensures) in
    let size : c.args.place.start + c.index-extent.result.now.name + c.index-extent.result.now.size - (c.args.place.start + c.index-extent.result.now.name) ≡ c.index-extent.result.now.size = omega arith in
    ap (λ (k : ℕ). Some (take k (drop (c.args.place.start + c.index-extent.result.now.name) c.deref.result.now))) size
    ∙ ap (λ (l : List ℕ). Some (take c.index-extent.result.now.size (drop (c.args.place.start + c.index-extent.result.now.name) l))) c.deref.ensures.value
    ∙ ap (λ (l : List ℕ). Some (take c.index-extent.result.now.size l)) (sym (drop-drop c.index-extent.result.now.name c.args.place.start c.args.self.now.buffer.items))
    ∙ sym bytes
