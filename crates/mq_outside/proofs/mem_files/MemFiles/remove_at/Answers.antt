use Rattle.std.proofs.Common.{arith, ◌≡◌, ◌∙◌, ap, sym, subst, ℕ, List, length}
use Rattle.std.specs.List.{remove}
use Rattle.mq_outside.specs.Named.{content, names_of, IsAscending, AreTexts}
use Rattle.mq_outside.specs.MemFiles.{files_in, total}
use Rattle.mq_outside.specs.declared.mem_files.Extent.{Extent}
use Rattle.mq_outside.proofs.MemFilesLemmas.{found_ends, removed_total, removed_ascending, removed_texts, removed_content}
use Rattle.mq_outside.proofs.mem_files.MemFiles.remove_at.Goals as goal

pub overflow_add-extent : goal.overflow_add-extent
overflow_add-extent c =
    let ends = found_ends c.args.self.now.extents.items c.args.self.now.buffer.items c.args.name.now c.args.place c.args.self.now.filled c.requires.place c.requires.found c.index-extent.result.now c.index-extent.result.now (sym c.index-extent.ensures) in
    omega (arith, ends)

pub delete_bytes-requires : goal.delete_bytes-requires
delete_bytes-requires c =
    let ends = found_ends c.args.self.now.extents.items c.args.self.now.buffer.items c.args.name.now c.args.place c.args.self.now.filled c.requires.place c.requires.found c.index-extent.result.now c.index-extent.result.now (sym c.index-extent.ensures) in
    omega (arith, ends)

pub invariant_of-self-clause-filled : goal.invariant_of-self-clause-filled
invariant_of-self-clause-filled c =
    let taken : c.remove.new.self.items ≡ remove c.args.self.now.extents.items c.args.place.index = c.remove.ensures.items in
    ap total taken ∙ removed_total c.args.self.now.extents.items c.args.self.now.buffer.items c.args.name.now c.args.place c.args.self.now.filled c.requires.place c.requires.found c.index-extent.result.now c.index-extent.result.now (sym c.index-extent.ensures) ∙ sym (ap length c.delete_bytes.ensures.items)

pub invariant_of-self-clause-ordered : goal.invariant_of-self-clause-ordered
invariant_of-self-clause-ordered c =
    let taken : c.remove.new.self.items ≡ remove c.args.self.now.extents.items c.args.place.index = c.remove.ensures.items in
    subst (λ (l : List Extent). IsAscending (names_of (files_in l c.delete_bytes.new.buffer.items))) (sym taken)
    (subst (λ (l : List ℕ). IsAscending (names_of (files_in (remove c.args.self.now.extents.items c.args.place.index) l))) (sym c.delete_bytes.ensures.items)
    (removed_ascending c.args.self.now.extents.items c.args.self.now.buffer.items c.args.name.now c.args.place c.args.self.now.filled c.requires.place c.requires.found c.index-extent.result.now c.index-extent.result.now (sym c.index-extent.ensures) c.args.self.now.ordered))

pub invariant_of-self-clause-texts : goal.invariant_of-self-clause-texts
invariant_of-self-clause-texts c =
    let taken : c.remove.new.self.items ≡ remove c.args.self.now.extents.items c.args.place.index = c.remove.ensures.items in
    subst (λ (l : List Extent). AreTexts (names_of (files_in l c.delete_bytes.new.buffer.items))) (sym taken)
    (subst (λ (l : List ℕ). AreTexts (names_of (files_in (remove c.args.self.now.extents.items c.args.place.index) l))) (sym c.delete_bytes.ensures.items)
    (removed_texts c.args.self.now.extents.items c.args.self.now.buffer.items c.args.name.now c.args.place c.args.self.now.filled c.requires.place c.requires.found c.index-extent.result.now c.index-extent.result.now (sym c.index-extent.ensures) c.args.self.now.texts))

pub returns-clause-gone : goal.returns-clause-gone
returns-clause-gone c other =
    let taken : c.remove.new.self.items ≡ remove c.args.self.now.extents.items c.args.place.index = c.remove.ensures.items in
    ap (λ (l : List Extent). content (files_in l c.delete_bytes.new.buffer.items) other) taken
    ∙ ap (λ (l : List ℕ). content (files_in (remove c.args.self.now.extents.items c.args.place.index) l) other) c.delete_bytes.ensures.items
    ∙ removed_content c.args.self.now.extents.items c.args.self.now.buffer.items c.args.name.now c.args.place c.args.self.now.filled c.requires.place c.requires.found c.index-extent.result.now c.index-extent.result.now (sym c.index-extent.ensures) c.args.self.now.ordered other
