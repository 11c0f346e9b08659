use Rattle.std.proofs.Common.{arith, ◌≡◌, ◌∙◌, ap, sym, subst, refl, ◌+◌, ◌-◌, ◌<◌, ◌++◌, ℕ, List, length, take, drop, Some, Option, set, length-append, length-take-le, length-drop}
use Rattle.std.proofs.lemmas.List.{length-set}
use Rattle.mq_outside.specs.Files.{bytes_in, overwritten}
use Rattle.mq_outside.specs.Calls.{put_file}
use Rattle.mq_outside.specs.Named.{content, names_of, IsAscending, AreTexts}
use Rattle.mq_outside.specs.MemFiles.{files_in}
use Rattle.mq_outside.specs.MemDisk.{files_of, more_files, more_bytes, HasRoomToAdd}
use Rattle.mq_outside.proofs.MemFilesLemmas.{found_ends, found_size, found_bytes, replaced_total, replaced_content, replaced_ascending, replaced_texts, written_over}
use Rattle.mq_outside.proofs.mem_files.MemFiles.write_over.Goals as goal

pub overflow_sub-extent : goal.overflow_sub-extent
overflow_sub-extent c =
    let ends = found_ends c.args.self.now.extents.items c.args.self.now.buffer.items c.args.name.now c.args.place c.args.self.now.filled c.requires.place c.requires.found c.index-extent.result.now c.index-extent.result.now (sym c.index-extent.ensures) in
    let size = found_size c.args.self.now.extents.items c.args.self.now.buffer.items c.args.name.now c.args.place c.args.self.now.filled c.requires.place c.requires.found c.index-extent.result.now c.index-extent.result.now (sym c.index-extent.ensures) in
    omega (arith, ends, size)

pub overflow_add-place : goal.overflow_add-place
overflow_add-place c =
    let ends = found_ends c.args.self.now.extents.items c.args.self.now.buffer.items c.args.name.now c.args.place c.args.self.now.filled c.requires.place c.requires.found c.index-extent.result.now c.index-extent.result.now (sym c.index-extent.ensures) in
    let size = found_size c.args.self.now.extents.items c.args.self.now.buffer.items c.args.name.now c.args.place c.args.self.now.filled c.requires.place c.requires.found c.index-extent.result.now c.index-extent.result.now (sym c.index-extent.ensures) in
    omega (arith, ends, size)

pub overflow_add-place-2 : goal.overflow_add-place-2
overflow_add-place-2 c =
    let ends = found_ends c.args.self.now.extents.items c.args.self.now.buffer.items c.args.name.now c.args.place c.args.self.now.filled c.requires.place c.requires.found c.index-extent.result.now c.index-extent.result.now (sym c.index-extent.ensures) in
    let size = found_size c.args.self.now.extents.items c.args.self.now.buffer.items c.args.name.now c.args.place c.args.self.now.filled c.requires.place c.requires.found c.index-extent.result.now c.index-extent.result.now (sym c.index-extent.ensures) in
    omega (arith, ends, size)

pub replace_bytes-requires-clause-within : goal.replace_bytes-requires-clause-within
replace_bytes-requires-clause-within c =
    let ends = found_ends c.args.self.now.extents.items c.args.self.now.buffer.items c.args.name.now c.args.place c.args.self.now.filled c.requires.place c.requires.found c.index-extent.result.now c.index-extent.result.now (sym c.index-extent.ensures) in
    let size = found_size c.args.self.now.extents.items c.args.self.now.buffer.items c.args.name.now c.args.place c.args.self.now.filled c.requires.place c.requires.found c.index-extent.result.now c.index-extent.result.now (sym c.index-extent.ensures) in
    omega (arith, ends, size)

pub overflow_add-extent : goal.overflow_add-extent
overflow_add-extent c =
    let ends = found_ends c.args.self.now.extents.items c.args.self.now.buffer.items c.args.name.now c.args.place c.args.self.now.filled c.requires.place c.requires.found c.index-extent.result.now c.index-extent.result.now (sym c.index-extent.ensures) in
    let size = found_size c.args.self.now.extents.items c.args.self.now.buffer.items c.args.name.now c.args.place c.args.self.now.filled c.requires.place c.requires.found c.index-extent.result.now c.index-extent.result.now (sym c.index-extent.ensures) in
    omega (arith, ends, size)

pub invariant_of-self-clause-filled : goal.invariant_of-self-clause-filled
invariant_of-self-clause-filled c =
    let size = found_size c.args.self.now.extents.items c.args.self.now.buffer.items c.args.name.now c.args.place c.args.self.now.filled c.requires.place c.requires.found c.index-extent.result.now c.index-extent.result.now (sym c.index-extent.ensures) in
    replaced_total c.args.self.now.extents.items c.args.self.now.buffer.items c.args.name.now c.args.place c.args.self.now.filled c.requires.place c.requires.found c.index-extent.result.now c.index-extent.result.now (sym c.index-extent.ensures) (record { name = c.index-extent.result.now.name; size = c.index-extent.result.now.size + (length c.args.piece.now - c.min-count.result) }) c.args.piece.now c.args.at c.min-count.result (omega (arith, size)) refl (omega (arith, size)) ∙ sym (ap length c.replace_bytes.ensures.items)

pub invariant_of-self-clause-ordered : goal.invariant_of-self-clause-ordered
invariant_of-self-clause-ordered c =
    let size = found_size c.args.self.now.extents.items c.args.self.now.buffer.items c.args.name.now c.args.place c.args.self.now.filled c.requires.place c.requires.found c.index-extent.result.now c.index-extent.result.now (sym c.index-extent.ensures) in
    subst (λ (l : List ℕ). IsAscending (names_of (files_in (set c.args.self.now.extents.items c.args.place.index (record { name = c.index-extent.result.now.name; size = c.index-extent.result.now.size + (length c.args.piece.now - c.min-count.result) })) l))) (sym c.replace_bytes.ensures.items)
    (replaced_ascending c.args.self.now.extents.items c.args.self.now.buffer.items c.args.name.now c.args.place c.args.self.now.filled c.requires.place c.requires.found c.index-extent.result.now c.index-extent.result.now (sym c.index-extent.ensures) (record { name = c.index-extent.result.now.name; size = c.index-extent.result.now.size + (length c.args.piece.now - c.min-count.result) }) c.args.piece.now c.args.at c.min-count.result (omega (arith, size)) refl (omega (arith, size)) c.args.self.now.ordered)

pub invariant_of-self-clause-texts : goal.invariant_of-self-clause-texts
invariant_of-self-clause-texts c =
    let size = found_size c.args.self.now.extents.items c.args.self.now.buffer.items c.args.name.now c.args.place c.args.self.now.filled c.requires.place c.requires.found c.index-extent.result.now c.index-extent.result.now (sym c.index-extent.ensures) in
    subst (λ (l : List ℕ). AreTexts (names_of (files_in (set c.args.self.now.extents.items c.args.place.index (record { name = c.index-extent.result.now.name; size = c.index-extent.result.now.size + (length c.args.piece.now - c.min-count.result) })) l))) (sym c.replace_bytes.ensures.items)
    (replaced_texts c.args.self.now.extents.items c.args.self.now.buffer.items c.args.name.now c.args.place c.args.self.now.filled c.requires.place c.requires.found c.index-extent.result.now c.index-extent.result.now (sym c.index-extent.ensures) (record { name = c.index-extent.result.now.name; size = c.index-extent.result.now.size + (length c.args.piece.now - c.min-count.result) }) c.args.piece.now c.args.at c.min-count.result (omega (arith, size)) refl (omega (arith, size)) c.args.self.now.texts)

pub returns-clause-written : goal.returns-clause-written
returns-clause-written c other =
    let size = found_size c.args.self.now.extents.items c.args.self.now.buffer.items c.args.name.now c.args.place c.args.self.now.filled c.requires.place c.requires.found c.index-extent.result.now c.index-extent.result.now (sym c.index-extent.ensures) in
    let bytes = found_bytes c.args.self.now.extents.items c.args.self.now.buffer.items c.args.name.now c.args.place c.args.self.now.filled c.requires.place c.requires.found c.index-extent.result.now c.index-extent.result.now (sym c.index-extent.ensures) in
    let old = take c.index-extent.result.now.size (drop c.index-extent.result.now.name (drop c.args.place.start c.args.self.now.buffer.items)) in
    let long : length old ≡ c.index-extent.result.now.size = ap (λ (o : Option (List ℕ)). length (bytes_in o)) (sym bytes) ∙ size in
    let same : take c.args.at old ++ c.args.piece.now ++ drop (c.args.at + c.min-count.result) old ≡ overwritten c.args.at c.args.piece.now (bytes_in (content (files_of c.args.self.now) c.args.name.now)) =
    written_over c.args.at c.min-count.result c.args.piece.now old (omega (arith, long)) (omega (arith, size, long)) ∙ ap (λ (o : Option (List ℕ)). overwritten c.args.at c.args.piece.now (bytes_in o)) (sym bytes) in
    ap (λ (l : List ℕ). content (files_in (set c.args.self.now.extents.items c.args.place.index (record { name = c.index-extent.result.now.name; size = c.index-extent.result.now.size + (length c.args.piece.now - c.min-count.result) })) l) other) c.replace_bytes.ensures.items
    ∙ replaced_content c.args.self.now.extents.items c.args.self.now.buffer.items c.args.name.now c.args.place c.args.self.now.filled c.requires.place c.requires.found c.index-extent.result.now c.index-extent.result.now (sym c.index-extent.ensures) (record { name = c.index-extent.result.now.name; size = c.index-extent.result.now.size + (length c.args.piece.now - c.min-count.result) }) c.args.piece.now c.args.at c.min-count.result (omega (arith, size)) refl (omega (arith, size)) other
    ∙ ap (λ (l : List ℕ). put_file c.args.name.now (Some l) (content (files_of c.args.self.now)) other) same

pub returns-then-more-self-clause-refused : goal.returns-then-more-self-clause-refused
returns-then-more-self-clause-refused c =
    let size = found_size c.args.self.now.extents.items c.args.self.now.buffer.items c.args.name.now c.args.place c.args.self.now.filled c.requires.place c.requires.found c.index-extent.result.now c.index-extent.result.now (sym c.index-extent.ensures) in
    let bytes = found_bytes c.args.self.now.extents.items c.args.self.now.buffer.items c.args.name.now c.args.place c.args.self.now.filled c.requires.place c.requires.found c.index-extent.result.now c.index-extent.result.now (sym c.index-extent.ensures) in
    let old = take c.index-extent.result.now.size (drop c.index-extent.result.now.name (drop c.args.place.start c.args.self.now.buffer.items)) in
    let long : length old ≡ c.index-extent.result.now.size = ap (λ (o : Option (List ℕ)). length (bytes_in o)) (sym bytes) ∙ size in
    let past : c.args.self.now.most_bytes < length c.args.self.now.buffer.items + (c.args.at + length c.args.piece.now - length old) = grind (arith, long, size) in
    subst (λ (o : Option (List ℕ)). ¬ HasRoomToAdd c.args.self.now (more_files o) (more_bytes c.args.name.now c.args.at c.args.piece.now o)) (sym bytes) (λ fits. absurd (omega (arith, past, fits.bytes_fit)))

pub returns-clause-grows : goal.returns-clause-grows
returns-clause-grows c =
    let ends = found_ends c.args.self.now.extents.items c.args.self.now.buffer.items c.args.name.now c.args.place c.args.self.now.filled c.requires.place c.requires.found c.index-extent.result.now c.index-extent.result.now (sym c.index-extent.ensures) in
    let size = found_size c.args.self.now.extents.items c.args.self.now.buffer.items c.args.name.now c.args.place c.args.self.now.filled c.requires.place c.requires.found c.index-extent.result.now c.index-extent.result.now (sym c.index-extent.ensures) in
    let bytes = found_bytes c.args.self.now.extents.items c.args.self.now.buffer.items c.args.name.now c.args.place c.args.self.now.filled c.requires.place c.requires.found c.index-extent.result.now c.index-extent.result.now (sym c.index-extent.ensures) in
    let old = take c.index-extent.result.now.size (drop c.index-extent.result.now.name (drop c.args.place.start c.args.self.now.buffer.items)) in
    let long : length old ≡ c.index-extent.result.now.size = ap (λ (o : Option (List ℕ)). length (bytes_in o)) (sym bytes) ∙ size in
    let from = c.args.place.start + c.index-extent.result.now.name + c.args.at in
    let front = take from c.args.self.now.buffer.items in
    let behind = drop (from + c.min-count.result) c.args.self.now.buffer.items in
    let none : more_files (content (files_of c.args.self.now) c.args.name.now) ≡ 0 = ap more_files bytes in
    let added : more_bytes c.args.name.now c.args.at c.args.piece.now (content (files_of c.args.self.now) c.args.name.now) ≡ c.args.at + length c.args.piece.now - length old = ap (more_bytes c.args.name.now c.args.at c.args.piece.now) bytes in
    record {
      files = omega (arith, none, length-set c.args.self.now.extents.items c.args.place.index (record { name = c.index-extent.result.now.name; size = c.index-extent.result.now.size + (length c.args.piece.now - c.min-count.result) }));
      bytes = omega (
        arith,
        ap length c.replace_bytes.ensures.items,
        length-append (front ++ c.args.piece.now) behind,
        length-append front c.args.piece.now,
        length-take-le from c.args.self.now.buffer.items (omega (arith, ends, size)),
        length-drop (from + c.min-count.result) c.args.self.now.buffer.items,
        ends,
        size,
        long,
        added,
      );
      most_files = refl;
      most_bytes = refl;
    }

pub returns-clause-fits : goal.returns-clause-fits
returns-clause-fits c =
    let size = found_size c.args.self.now.extents.items c.args.self.now.buffer.items c.args.name.now c.args.place c.args.self.now.filled c.requires.place c.requires.found c.index-extent.result.now c.index-extent.result.now (sym c.index-extent.ensures) in
    let bytes = found_bytes c.args.self.now.extents.items c.args.self.now.buffer.items c.args.name.now c.args.place c.args.self.now.filled c.requires.place c.requires.found c.index-extent.result.now c.index-extent.result.now (sym c.index-extent.ensures) in
    let old = take c.index-extent.result.now.size (drop c.index-extent.result.now.name (drop c.args.place.start c.args.self.now.buffer.items)) in
    let long : length old ≡ c.index-extent.result.now.size = ap (λ (o : Option (List ℕ)). length (bytes_in o)) (sym bytes) ∙ size in
    subst (λ (o : Option (List ℕ)). HasRoomToAdd c.args.self.now (more_files o) (more_bytes c.args.name.now c.args.at c.args.piece.now o)) (sym bytes)
    (record { files_fit = omega (arith, c.args.self.now.files_within); bytes_fit = grind (arith, long, size, c.args.self.now.bytes_within) })

pub invariant_of-self-clause-files_within : goal.invariant_of-self-clause-files_within
invariant_of-self-clause-files_within c = omega (arith, c.args.self.now.files_within, length-set c.args.self.now.extents.items c.args.place.index (record { name = c.index-extent.result.now.name; size = c.index-extent.result.now.size + (length c.args.piece.now - c.min-count.result) }))

pub invariant_of-self-clause-bytes_within : goal.invariant_of-self-clause-bytes_within
invariant_of-self-clause-bytes_within c =
    let ends = found_ends c.args.self.now.extents.items c.args.self.now.buffer.items c.args.name.now c.args.place c.args.self.now.filled c.requires.place c.requires.found c.index-extent.result.now c.index-extent.result.now (sym c.index-extent.ensures) in
    let size = found_size c.args.self.now.extents.items c.args.self.now.buffer.items c.args.name.now c.args.place c.args.self.now.filled c.requires.place c.requires.found c.index-extent.result.now c.index-extent.result.now (sym c.index-extent.ensures) in
    let from = c.args.place.start + c.index-extent.result.now.name + c.args.at in
    let front = take from c.args.self.now.buffer.items in
    let behind = drop (from + c.min-count.result) c.args.self.now.buffer.items in
    let long : length c.replace_bytes.new.buffer.items ≡ length c.args.self.now.buffer.items + (length c.args.piece.now - c.min-count.result) = omega (
      arith,
      ap length c.replace_bytes.ensures.items,
      length-append (front ++ c.args.piece.now) behind,
      length-append front c.args.piece.now,
      length-take-le from c.args.self.now.buffer.items (omega (arith, ends, size)),
      length-drop (from + c.min-count.result) c.args.self.now.buffer.items,
      ends,
      size,
    ) in
    grind (arith, long, c.args.self.now.bytes_within)
