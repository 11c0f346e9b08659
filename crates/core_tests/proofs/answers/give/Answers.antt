use Rattle.core_log.specs.Shows.{shown_of}
use Rattle.core_tests.proofs.answers.give.Goals as goal

pub call-requires-clause-accepted : goal.call-requires-clause-accepted
call-requires-clause-accepted c = c.requires.accepted (shown_of c.args.alone.now.core)
