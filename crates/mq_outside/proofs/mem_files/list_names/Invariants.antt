use Rattle.std.proofs.Common.{◌≡◌, take, map, string_bytes}
use Rattle.mq_outside.specs.Named.{names_of}
use Rattle.mq_outside.specs.MemFiles.{total, files_in}
use Rattle.mq_outside.proofs.mem_files.list_names.Given as goal

abbrev pub invariant-loop-i : goal.invariant-loop-i
invariant-loop-i l =
    (l.start ≡ total (take l.i l.extents)) × (map (λ name. string_bytes name) l.names.items ≡ names_of (files_in (take l.i l.extents) (take l.start l.buffer)))
