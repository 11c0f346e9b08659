-- Some of the keys stand in the table, and the others are left.
use Rattle.std.proofs.Common.{length}
use Rattle.table_check.proofs.KeyLemmas.{HasMet}
use Rattle.table_check.proofs.keys.end_of_keys.Given as goal

abbrev pub invariant-loop-hash : goal.invariant-loop-hash
invariant-loop-hash l = HasMet l.table.entries l.place l.store l.from l.initial.left l.left l.at

abbrev pub decreases-loop-hash : goal.decreases-loop-hash
decreases-loop-hash l = length l.left
