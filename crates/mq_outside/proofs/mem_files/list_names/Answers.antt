use Rattle.std.proofs.Common.{rules, arith, ◌≡◌, ◌∙◌, ap, sym, refl, ◌+◌, ◌-◌, ◌++◌, ◌∷◌, [], ℕ, List, map, string_bytes, take, drop, slice_index_or, String, Global}
use Rattle.std.proofs.lemmas.List.{map-append}
use Rattle.std.specs.Str.{is_utf8}
use Rattle.mq_outside.specs.Named.{names_of}
use Rattle.mq_outside.specs.MemFiles.{files_in}
use Rattle.mq_outside.proofs.MemFilesLemmas.{ends_within, next_start, text_here, names_more}
use Rattle.mq_outside.proofs.mem_files.list_names.Goals as goal

pub overflow_add-start : goal.overflow_add-start
overflow_add-start c =
    let ends = ends_within c.args.extents.now c.args.buffer.now c.loop-i.i c.loop-i.start (slice_index_or c.args.extents.now c.loop-i.i (record { name = 0; size = 0 })) (record { name = 0; size = 0 }) c.requires.filled c.loop-i.invariant.0 c.loop-i-test.true refl in
    omega (arith, ends)

pub slice_bounds-text_of-end : goal.slice_bounds-text_of-end
slice_bounds-text_of-end c =
    let ends = ends_within c.args.extents.now c.args.buffer.now c.loop-i.i c.loop-i.start (slice_index_or c.args.extents.now c.loop-i.i (record { name = 0; size = 0 })) (record { name = 0; size = 0 }) c.requires.filled c.loop-i.invariant.0 c.loop-i-test.true refl in
    omega (arith, ends)

pub overflow_add-start-in-loop-i : goal.overflow_add-start-in-loop-i
overflow_add-start-in-loop-i c =
    let ends = ends_within c.args.extents.now c.args.buffer.now c.loop-i.i c.loop-i.start (slice_index_or c.args.extents.now c.loop-i.i (record { name = 0; size = 0 })) (record { name = 0; size = 0 }) c.requires.filled c.loop-i.invariant.0 c.loop-i-test.true refl in
    omega (arith, ends)

pub overflow_add-start-in-loop-i-2 : goal.overflow_add-start-in-loop-i-2
overflow_add-start-in-loop-i-2 c =
    let ends = ends_within c.args.extents.now c.args.buffer.now c.loop-i.i c.loop-i.start (slice_index_or c.args.extents.now c.loop-i.i (record { name = 0; size = 0 })) (record { name = 0; size = 0 }) c.requires.filled c.loop-i.invariant.0 c.loop-i-test.true refl in
    omega (arith, ends)

pub text_of-requires : goal.text_of-requires
text_of-requires c =
    let e = slice_index_or c.args.extents.now c.loop-i.i (record { name = 0; size = 0 }) in
    let size : c.loop-i.start + e.name - c.loop-i.start ≡ e.name = omega arith in
    ap (λ (k : ℕ). is_utf8 (take k (drop c.loop-i.start c.args.buffer.now))) size ∙ text_here c.args.extents.now c.args.buffer.now c.loop-i.i c.loop-i.start (slice_index_or c.args.extents.now c.loop-i.i (record { name = 0; size = 0 })) (record { name = 0; size = 0 }) c.requires.filled c.loop-i.invariant.0 c.loop-i-test.true refl c.requires.texts

pub loop-i-preserved : goal.loop-i-preserved
loop-i-preserved c =
    let e = slice_index_or c.args.extents.now c.loop-i.i (record { name = 0; size = 0 }) in
    let size : c.loop-i.start + e.name - c.loop-i.start ≡ e.name = omega arith in
    let pushed : c.push.new.self.items ≡ c.loop-i.names.items ++ c.in_ok-name.name ∷ [] = search rules in
    let named : string_bytes c.in_ok-name.name ≡ take e.name (drop c.loop-i.start c.args.buffer.now) = c.in_ok-name.ensures ∙ ap (λ (k : ℕ). take k (drop c.loop-i.start c.args.buffer.now)) size in (
      next_start c.args.extents.now c.args.buffer.now c.loop-i.i c.loop-i.start (slice_index_or c.args.extents.now c.loop-i.i (record { name = 0; size = 0 })) (record { name = 0; size = 0 }) c.requires.filled c.loop-i.invariant.0 c.loop-i-test.true refl,
      ap (λ (l : List (String Global)). map (λ name. string_bytes name) l) pushed
          ∙ map-append (λ (name : String Global). string_bytes name) c.loop-i.names.items (c.in_ok-name.name ∷ [])
          ∙ ap (λ (l : List (List ℕ)). l ++ string_bytes c.in_ok-name.name ∷ []) c.loop-i.invariant.1
          ∙ ap (λ (l : List ℕ). names_of (files_in (take c.loop-i.i c.args.extents.now) (take c.loop-i.start c.args.buffer.now)) ++ l ∷ []) named
          ∙ sym (names_more c.args.extents.now c.args.buffer.now c.loop-i.i c.loop-i.start (slice_index_or c.args.extents.now c.loop-i.i (record { name = 0; size = 0 })) (record { name = 0; size = 0 }) c.requires.filled c.loop-i.invariant.0 c.loop-i-test.true refl),
    )
