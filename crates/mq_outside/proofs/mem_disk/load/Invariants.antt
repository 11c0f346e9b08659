use Rattle.std.proofs.Common.{◌≡◌, ◌≤◌, ℕ, List, length, take}
use Rattle.mq_outside.specs.Named.{content, size_of}
use Rattle.mq_outside.specs.MemDisk.{files_of, given_files}
use Rattle.mq_outside.proofs.mem_disk.load.Given as goal

abbrev pub invariant-loop-i : goal.invariant-loop-i
invariant-loop-i l = record {
  same : (name : List ℕ) → content (files_of l.held) name ≡ content (take l.i (given_files l.files)) name;
  files : length l.held.extents.items ≤ l.i;
  bytes : length l.held.buffer.items ≤ size_of (take l.i (given_files l.files));
  most_files : l.held.most_files ≡ l.initial.held.most_files;
  most_bytes : l.held.most_bytes ≡ l.initial.held.most_bytes;
}
