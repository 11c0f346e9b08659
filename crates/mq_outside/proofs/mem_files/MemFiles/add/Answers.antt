use Rattle.std.proofs.Common.{rules, arith, ◌≡◌, ◌∙◌, ap, sym, subst, refl, ◌++◌, List, length, length-append, length-take-le, take, drop}
use Rattle.std.proofs.lemmas.Str.{is_utf8-from_IsUtf8}
use Rattle.std.specs.List.{insert}
use Rattle.mq_outside.specs.Named.{content, names_of, IsAscending, AreTexts}
use Rattle.mq_outside.specs.MemFiles.{files_in, total}
use Rattle.mq_outside.specs.declared.mem_files.Extent.{Extent}
use Rattle.mq_outside.proofs.MemFilesLemmas.{place_within, added_total, added_content, added_ascending, added_texts}
use Rattle.mq_outside.proofs.mem_files.MemFiles.add.Goals as goal

pub insert_bytes-requires-clause-place : goal.insert_bytes-requires-clause-place
insert_bytes-requires-clause-place c = place_within c.args.self.now.extents.items c.args.self.now.buffer.items c.args.name.now c.args.place c.args.self.now.filled c.requires.place c.requires.absent

pub insert_bytes-requires-2-clause-place : goal.insert_bytes-requires-2-clause-place
insert_bytes-requires-2-clause-place c =
    let within = place_within c.args.self.now.extents.items c.args.self.now.buffer.items c.args.name.now c.args.place c.args.self.now.filled c.requires.place c.requires.absent in
    omega (
      arith,
      within,
      ap length c.insert_bytes.ensures.items,
      length-append (take c.args.place.start c.args.self.now.buffer.items ++ c.args.piece.now) (drop c.args.place.start c.args.self.now.buffer.items),
      length-append (take c.args.place.start c.args.self.now.buffer.items) c.args.piece.now,
      length-take-le c.args.place.start c.args.self.now.buffer.items within,
    )

pub invariant_of-self-clause-filled : goal.invariant_of-self-clause-filled
invariant_of-self-clause-filled c =
    let named : c.insert_bytes-2.new.buffer.items ≡ take c.args.place.start c.insert_bytes.new.buffer.items ++ c.args.name.now ++ drop c.args.place.start c.insert_bytes.new.buffer.items = search rules in
    let inserted : c.insert.new.self.items ≡ insert c.args.self.now.extents.items c.args.place.index (record { name = length c.args.name.now; size = length c.args.piece.now }) = search rules in
    ap total inserted ∙ added_total c.args.self.now.extents.items c.args.self.now.buffer.items c.args.name.now c.args.place c.args.self.now.filled c.requires.place c.requires.absent (record { name = length c.args.name.now; size = length c.args.piece.now }) c.args.piece.now c.insert_bytes.new.buffer.items c.insert_bytes-2.new.buffer.items refl refl c.insert_bytes.ensures.items named

pub invariant_of-self-clause-ordered : goal.invariant_of-self-clause-ordered
invariant_of-self-clause-ordered c =
    let named : c.insert_bytes-2.new.buffer.items ≡ take c.args.place.start c.insert_bytes.new.buffer.items ++ c.args.name.now ++ drop c.args.place.start c.insert_bytes.new.buffer.items = search rules in
    let inserted : c.insert.new.self.items ≡ insert c.args.self.now.extents.items c.args.place.index (record { name = length c.args.name.now; size = length c.args.piece.now }) = search rules in
    subst (λ (l : List Extent). IsAscending (names_of (files_in l c.insert_bytes-2.new.buffer.items))) (sym inserted)
    (added_ascending c.args.self.now.extents.items c.args.self.now.buffer.items c.args.name.now c.args.place c.args.self.now.filled c.requires.place c.requires.absent (record { name = length c.args.name.now; size = length c.args.piece.now }) c.args.piece.now c.insert_bytes.new.buffer.items c.insert_bytes-2.new.buffer.items refl refl c.insert_bytes.ensures.items named c.args.self.now.ordered)

pub invariant_of-self-clause-texts : goal.invariant_of-self-clause-texts
invariant_of-self-clause-texts c =
    let named : c.insert_bytes-2.new.buffer.items ≡ take c.args.place.start c.insert_bytes.new.buffer.items ++ c.args.name.now ++ drop c.args.place.start c.insert_bytes.new.buffer.items = search rules in
    let inserted : c.insert.new.self.items ≡ insert c.args.self.now.extents.items c.args.place.index (record { name = length c.args.name.now; size = length c.args.piece.now }) = search rules in
    subst (λ (l : List Extent). AreTexts (names_of (files_in l c.insert_bytes-2.new.buffer.items))) (sym inserted)
    (added_texts c.args.self.now.extents.items c.args.self.now.buffer.items c.args.name.now c.args.place c.args.self.now.filled c.requires.place c.requires.absent (record { name = length c.args.name.now; size = length c.args.piece.now }) c.args.piece.now c.insert_bytes.new.buffer.items c.insert_bytes-2.new.buffer.items refl refl c.insert_bytes.ensures.items named c.args.self.now.texts (is_utf8-from_IsUtf8 c.args.name.now c.utf8.name))

pub returns-clause-added : goal.returns-clause-added
returns-clause-added c other =
    let named : c.insert_bytes-2.new.buffer.items ≡ take c.args.place.start c.insert_bytes.new.buffer.items ++ c.args.name.now ++ drop c.args.place.start c.insert_bytes.new.buffer.items = search rules in
    let inserted : c.insert.new.self.items ≡ insert c.args.self.now.extents.items c.args.place.index (record { name = length c.args.name.now; size = length c.args.piece.now }) = search rules in
    ap (λ (l : List Extent). content (files_in l c.insert_bytes-2.new.buffer.items) other) inserted ∙ added_content c.args.self.now.extents.items c.args.self.now.buffer.items c.args.name.now c.args.place c.args.self.now.filled c.requires.place c.requires.absent (record { name = length c.args.name.now; size = length c.args.piece.now }) c.args.piece.now c.insert_bytes.new.buffer.items c.insert_bytes-2.new.buffer.items refl refl c.insert_bytes.ensures.items named other
