use Rattle.std.proofs.Common.{◌*◌, ◌-◌}
use Rattle.serve_tests.proofs.sharing_tests.+callers+fn-callers-join+arg2.Given as goal

abbrev pub decreases-callers : goal.decreases-callers
decreases-callers g l = 2 * l.count

abbrev pub decreases-join+arg2 : goal.decreases-join+arg2
decreases-join+arg2 g l = 2 * l.count - 1
