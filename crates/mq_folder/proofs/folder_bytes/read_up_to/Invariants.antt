use Rattle.std.proofs.Common.{◌≤◌, length}
use Rattle.mq_folder.proofs.folder_bytes.read_up_to.Given as goal

abbrev pub invariant-loop : goal.invariant-loop
invariant-loop l = l.done ≤ length l.out
