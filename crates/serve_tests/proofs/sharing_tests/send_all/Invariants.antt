use Rattle.std.proofs.Common.{◌≡◌}
use Rattle.serve_tests.proofs.sharing_tests.send_all.Given as goal

abbrev pub invariant-loop : goal.invariant-loop
invariant-loop g l = l.calls.spine.now ≡ l.fn.calls.spine.now
