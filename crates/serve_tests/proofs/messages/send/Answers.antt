use Rattle.spine.specs.Seen.{shown_by}
use Rattle.serve_tests.proofs.messages.send.Goals as goal

pub call-requires-clause-accepted : goal.call-requires-clause-accepted
call-requires-clause-accepted g c = c.may_always.ensures.accepted c.if-not-may_always.false (shown_by c.args.calls.now.pass)
