use Rattle.std.proofs.Common.{arith, refl, slice_index_or}
use Rattle.mq_outside.proofs.MemFilesLemmas.{ends_within, found_place, absent_place, behind_place}
use Rattle.mq_outside.proofs.mem_files.find.Goals as goal

pub overflow_add-held : goal.overflow_add-held
overflow_add-held c =
    let ends = ends_within c.args.extents.now c.args.buffer.now c.loop-i.i c.loop-i.start (slice_index_or c.args.extents.now c.loop-i.i (record { name = 0; size = 0 })) (record { name = 0; size = 0 }) c.requires.filled c.loop-i.invariant.0 c.loop-i-test.true refl in
    omega (arith, ends)

pub slice_bounds-held-end : goal.slice_bounds-held-end
slice_bounds-held-end c =
    let ends = ends_within c.args.extents.now c.args.buffer.now c.loop-i.i c.loop-i.start (slice_index_or c.args.extents.now c.loop-i.i (record { name = 0; size = 0 })) (record { name = 0; size = 0 }) c.requires.filled c.loop-i.invariant.0 c.loop-i-test.true refl in
    omega (arith, ends)

pub overflow_add-start : goal.overflow_add-start
overflow_add-start c =
    let ends = ends_within c.args.extents.now c.args.buffer.now c.loop-i.i c.loop-i.start (slice_index_or c.args.extents.now c.loop-i.i (record { name = 0; size = 0 })) (record { name = 0; size = 0 }) c.requires.filled c.loop-i.invariant.0 c.loop-i-test.true refl in
    omega (arith, ends)

pub overflow_add-start-in-loop-i : goal.overflow_add-start-in-loop-i
overflow_add-start-in-loop-i c =
    let ends = ends_within c.args.extents.now c.args.buffer.now c.loop-i.i c.loop-i.start (slice_index_or c.args.extents.now c.loop-i.i (record { name = 0; size = 0 })) (record { name = 0; size = 0 }) c.requires.filled c.loop-i.invariant.0 c.loop-i-test.true refl in
    omega (arith, ends)

pub returns-in-Equal : goal.returns-in-Equal
returns-in-Equal c =
    found_place c.args.extents.now c.args.buffer.now c.args.name.now c.loop-i.i c.loop-i.start _ (slice_index_or c.args.extents.now c.loop-i.i (record { name = 0; size = 0 })) (record { name = 0; size = 0 })
    c.requires.filled c.loop-i.invariant.0 c.loop-i-test.true refl (omega arith) c.loop-i.invariant.1 c.in-Equal.ensures

pub returns-in-Greater : goal.returns-in-Greater
returns-in-Greater c =
    absent_place c.args.extents.now c.args.buffer.now c.args.name.now c.loop-i.i c.loop-i.start _ (slice_index_or c.args.extents.now c.loop-i.i (record { name = 0; size = 0 })) (record { name = 0; size = 0 })
    c.requires.filled c.loop-i.invariant.0 c.loop-i-test.true refl (omega arith) c.loop-i.invariant.1 c.in-Greater.ensures c.requires.ordered

pub loop-i-preserved : goal.loop-i-preserved
loop-i-preserved c =
    behind_place c.args.extents.now c.args.buffer.now c.args.name.now c.loop-i.i c.loop-i.start _ (slice_index_or c.args.extents.now c.loop-i.i (record { name = 0; size = 0 })) (record { name = 0; size = 0 })
    c.requires.filled c.loop-i.invariant.0 c.loop-i-test.true refl (omega arith) c.loop-i.invariant.1 c.in-Less.ensures
