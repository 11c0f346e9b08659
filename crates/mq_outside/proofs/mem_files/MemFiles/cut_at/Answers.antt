use Rattle.std.proofs.Common.{arith, ◌≡◌, ◌∙◌, ap, sym, subst, refl, ◌+◌, ◌-◌, ◌++◌, [], ℕ, List, length, take, drop, Some, Option, min, set}
use Rattle.std.proofs.lemmas.List.{append-nil, drop_all, take_min}
use Rattle.std.specs.Option.{option_map}
use Rattle.mq_outside.specs.Files.{bytes_in}
use Rattle.mq_outside.specs.Calls.{put_file}
use Rattle.mq_outside.specs.Named.{content, names_of, IsAscending, AreTexts}
use Rattle.mq_outside.specs.MemFiles.{files_in}
use Rattle.mq_outside.specs.MemDisk.{files_of}
use Rattle.mq_outside.proofs.MemFilesLemmas.{found_ends, found_size, found_bytes, replaced_total, replaced_content, replaced_ascending, replaced_texts}
use Rattle.std.proofs.lemmas.List.{length-set}
use Rattle.mq_outside.proofs.mem_files.MemFiles.cut_at.Goals as goal

pub overflow_add-place : goal.overflow_add-place
overflow_add-place c =
    let ends = found_ends c.args.self.now.extents.items c.args.self.now.buffer.items c.args.name.now c.args.place c.args.self.now.filled c.requires.place c.requires.found c.index-extent.result.now c.index-extent.result.now (sym c.index-extent.ensures) in
    omega (arith, ends)

pub overflow_add-place-2 : goal.overflow_add-place-2
overflow_add-place-2 c =
    let ends = found_ends c.args.self.now.extents.items c.args.self.now.buffer.items c.args.name.now c.args.place c.args.self.now.filled c.requires.place c.requires.found c.index-extent.result.now c.index-extent.result.now (sym c.index-extent.ensures) in
    omega (arith, ends)

pub delete_bytes-requires : goal.delete_bytes-requires
delete_bytes-requires c =
    let ends = found_ends c.args.self.now.extents.items c.args.self.now.buffer.items c.args.name.now c.args.place c.args.self.now.filled c.requires.place c.requires.found c.index-extent.result.now c.index-extent.result.now (sym c.index-extent.ensures) in
    omega (arith, ends)

pub invariant_of-self-clause-filled : goal.invariant_of-self-clause-filled
invariant_of-self-clause-filled c =
    let front = take (c.args.place.start + c.index-extent.result.now.name + c.min-size.result) c.args.self.now.buffer.items in
    let back = drop (c.args.place.start + c.index-extent.result.now.name + c.min-size.result + (c.index-extent.result.now.size - c.min-size.result)) c.args.self.now.buffer.items in
    let after : c.delete_bytes.new.buffer.items ≡ front ++ [] ++ back = c.delete_bytes.ensures.items ∙ ap (λ (l : List ℕ). l ++ back) (sym (append-nil front)) in
    replaced_total c.args.self.now.extents.items c.args.self.now.buffer.items c.args.name.now c.args.place c.args.self.now.filled c.requires.place c.requires.found c.index-extent.result.now c.index-extent.result.now (sym c.index-extent.ensures) (record { name = c.index-extent.result.now.name; size = c.min-size.result }) [] c.min-size.result (c.index-extent.result.now.size - c.min-size.result) (omega arith) refl (omega arith) ∙ sym (ap length after)

pub invariant_of-self-clause-ordered : goal.invariant_of-self-clause-ordered
invariant_of-self-clause-ordered c =
    let front = take (c.args.place.start + c.index-extent.result.now.name + c.min-size.result) c.args.self.now.buffer.items in
    let back = drop (c.args.place.start + c.index-extent.result.now.name + c.min-size.result + (c.index-extent.result.now.size - c.min-size.result)) c.args.self.now.buffer.items in
    let after : c.delete_bytes.new.buffer.items ≡ front ++ [] ++ back = c.delete_bytes.ensures.items ∙ ap (λ (l : List ℕ). l ++ back) (sym (append-nil front)) in
    subst (λ (l : List ℕ). IsAscending (names_of (files_in (set c.args.self.now.extents.items c.args.place.index (record { name = c.index-extent.result.now.name; size = c.min-size.result })) l))) (sym after)
    (replaced_ascending c.args.self.now.extents.items c.args.self.now.buffer.items c.args.name.now c.args.place c.args.self.now.filled c.requires.place c.requires.found c.index-extent.result.now c.index-extent.result.now (sym c.index-extent.ensures) (record { name = c.index-extent.result.now.name; size = c.min-size.result }) [] c.min-size.result (c.index-extent.result.now.size - c.min-size.result) (omega arith) refl (omega arith) c.args.self.now.ordered)

pub invariant_of-self-clause-texts : goal.invariant_of-self-clause-texts
invariant_of-self-clause-texts c =
    let front = take (c.args.place.start + c.index-extent.result.now.name + c.min-size.result) c.args.self.now.buffer.items in
    let back = drop (c.args.place.start + c.index-extent.result.now.name + c.min-size.result + (c.index-extent.result.now.size - c.min-size.result)) c.args.self.now.buffer.items in
    let after : c.delete_bytes.new.buffer.items ≡ front ++ [] ++ back = c.delete_bytes.ensures.items ∙ ap (λ (l : List ℕ). l ++ back) (sym (append-nil front)) in
    subst (λ (l : List ℕ). AreTexts (names_of (files_in (set c.args.self.now.extents.items c.args.place.index (record { name = c.index-extent.result.now.name; size = c.min-size.result })) l))) (sym after)
    (replaced_texts c.args.self.now.extents.items c.args.self.now.buffer.items c.args.name.now c.args.place c.args.self.now.filled c.requires.place c.requires.found c.index-extent.result.now c.index-extent.result.now (sym c.index-extent.ensures) (record { name = c.index-extent.result.now.name; size = c.min-size.result }) [] c.min-size.result (c.index-extent.result.now.size - c.min-size.result) (omega arith) refl (omega arith) c.args.self.now.texts)

pub returns-clause-cut : goal.returns-clause-cut
returns-clause-cut c other =
    let front = take (c.args.place.start + c.index-extent.result.now.name + c.min-size.result) c.args.self.now.buffer.items in
    let back = drop (c.args.place.start + c.index-extent.result.now.name + c.min-size.result + (c.index-extent.result.now.size - c.min-size.result)) c.args.self.now.buffer.items in
    let after : c.delete_bytes.new.buffer.items ≡ front ++ [] ++ back = c.delete_bytes.ensures.items ∙ ap (λ (l : List ℕ). l ++ back) (sym (append-nil front)) in
    let bytes = found_bytes c.args.self.now.extents.items c.args.self.now.buffer.items c.args.name.now c.args.place c.args.self.now.filled c.requires.place c.requires.found c.index-extent.result.now c.index-extent.result.now (sym c.index-extent.ensures) in
    let size = found_size c.args.self.now.extents.items c.args.self.now.buffer.items c.args.name.now c.args.place c.args.self.now.filled c.requires.place c.requires.found c.index-extent.result.now c.index-extent.result.now (sym c.index-extent.ensures) in
    let old = take c.index-extent.result.now.size (drop c.index-extent.result.now.name (drop c.args.place.start c.args.self.now.buffer.items)) in
    let long : length old ≡ c.index-extent.result.now.size = ap (λ (o : Option (List ℕ)). length (bytes_in o)) (sym bytes) ∙ size in
    let past : drop (c.min-size.result + (c.index-extent.result.now.size - c.min-size.result)) old ≡ [] = drop_all (c.min-size.result + (c.index-extent.result.now.size - c.min-size.result)) old (omega (arith, long)) in
    let low : take c.min-size.result old ≡ take c.args.len old = ap (λ (k : ℕ). take k old) (c.min-size.ensures ∙ ap (λ (k : ℕ). min c.args.len k) (sym long)) ∙ take_min c.args.len old in
    let cut_bytes : take c.min-size.result old ++ [] ++ drop (c.min-size.result + (c.index-extent.result.now.size - c.min-size.result)) old ≡ take c.args.len old =
    ap (λ (l : List ℕ). take c.min-size.result old ++ [] ++ l) past ∙ append-nil (take c.min-size.result old ++ []) ∙ append-nil (take c.min-size.result old) ∙ low in
    ap (λ (l : List ℕ). content (files_in (set c.args.self.now.extents.items c.args.place.index (record { name = c.index-extent.result.now.name; size = c.min-size.result })) l) other) after
    ∙ replaced_content c.args.self.now.extents.items c.args.self.now.buffer.items c.args.name.now c.args.place c.args.self.now.filled c.requires.place c.requires.found c.index-extent.result.now c.index-extent.result.now (sym c.index-extent.ensures) (record { name = c.index-extent.result.now.name; size = c.min-size.result }) [] c.min-size.result (c.index-extent.result.now.size - c.min-size.result) (omega arith) refl (omega arith) other
    ∙ ap (λ (l : List ℕ). put_file c.args.name.now (Some l) (content (files_of c.args.self.now)) other) cut_bytes
    ∙ ap (λ (o : Option (List ℕ)). put_file c.args.name.now (option_map (λ (l : List ℕ). take c.args.len l) o) (content (files_of c.args.self.now)) other) (sym bytes)

pub invariant_of-self-clause-files_within : goal.invariant_of-self-clause-files_within
invariant_of-self-clause-files_within c =
    omega (arith, c.args.self.now.files_within, length-set c.args.self.now.extents.items c.args.place.index (record { name = c.index-extent.result.now.name; size = c.min-size.result }))
