use Rattle.std.proofs.Common.{arith}
use Rattle.event_loops.specs.Tales.{loop_view}
use Rattle.loop_threads.specs.Loops.{reader_over}
use Rattle.loop_threads.proofs.Working.{worked_then}
use Rattle.loop_threads.proofs.threads.run_loops.Goals as goal

pub returns-clause-first : goal.returns-clause-first
returns-clause-first g c =
    worked_then g.C.Calls.makes (loop_view g.P.Link.Link.tells g.P.Link.Link.given g.P.Link.Link.taken g.P.Ends.Ends.tells g.P.Ends.Ends.entries) (reader_over g.R.Reader.gives (g.R.Reader.faults c.args.first.reader) (g.R.Reader.faults c.join-first.result.0.reader)) _ _ _ _ _
    c.join-first.ensures.first.0 (c.refuse_left.ensures.went (g.R.Reader.faults c.join-first.result.0.reader) (omega arith)) c.refuse_left.ensures.slots

pub returns-clause-second : goal.returns-clause-second
returns-clause-second g c =
    worked_then g.C.Calls.makes (loop_view g.P.Link.Link.tells g.P.Link.Link.given g.P.Link.Link.taken g.P.Ends.Ends.tells g.P.Ends.Ends.entries) (reader_over g.R.Reader.gives (g.R.Reader.faults c.args.second.reader) (g.R.Reader.faults c.join-first.result.1.reader)) _ _ _ _ _
    c.join-first.ensures.second.0 (c.refuse_left-2.ensures.went (g.R.Reader.faults c.join-first.result.1.reader) (omega arith)) c.refuse_left-2.ensures.slots
