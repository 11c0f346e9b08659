use Rattle.std.specs.Prelude.{All}
use Rattle.log_model.specs.Queues.{IsStored}
use Rattle.log_tests.proofs.replay_tests.log_with.Given as goal

abbrev pub invariant-loop-bytes : goal.invariant-loop-bytes
invariant-loop-bytes l = All IsStored l.log.items
