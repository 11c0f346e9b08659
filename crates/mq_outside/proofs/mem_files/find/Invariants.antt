use Rattle.std.proofs.Common.{◌≡◌, take}
use Rattle.mq_outside.specs.Named.{names_of, AreBelow}
use Rattle.mq_outside.specs.MemFiles.{total, files_in}
use Rattle.mq_outside.proofs.mem_files.find.Given as goal

abbrev pub invariant-loop-i : goal.invariant-loop-i
invariant-loop-i l =
    (l.start ≡ total (take l.i l.extents)) × AreBelow (names_of (files_in (take l.i l.extents) (take l.start l.buffer))) l.name
