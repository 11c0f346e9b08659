use Rattle.std.proofs.Common.{◌≡◌, take}
use Rattle.log_opening.proofs.loading.are_same.Given as goal

abbrev pub invariant-loop-i : goal.invariant-loop-i
invariant-loop-i l = take l.i l.topics ≡ take l.i l.others
