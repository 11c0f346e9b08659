use Rattle.std.proofs.Common.{arith, ◌<◌, inr}
use Rattle.broker_model.specs.Run.{Anything, Steps}
use Rattle.core_laws.proofs.Pulls.{step_slice, pulled_at}
use Rattle.core_laws.proofs.Runs.{run_good, goes_good, opening_sound}
use Rattle.broker_model.specs.Events
use Rattle.std.proofs.Common.{Some}
use Rattle.core_laws.proofs.laws.pulls_are_slices.Goals as goal

pub returns-clause-slice : goal.returns-clause-slice
returns-clause-slice x b c a p reply is goes = step_slice b.now c.now a p reply is goes.0

pub returns-clause-flushed : goal.returns-clause-flushed
returns-clause-flushed x b c moves opening run = (run_good Anything b moves c (opening_sound b opening) run).0.state.dispatched

pub returns-clause-grows : goal.returns-clause-grows
returns-clause-grows x b c d moves more opening run next =
    let rest = run_good Anything c more d (run_good Anything b moves c (opening_sound b opening) run).0 next in
    (rest.1.dispatched, rest.1.flushed)

pub returns-clause-stays : goal.returns-clause-stays
returns-clause-stays x b c d e moves more a p reply k r opening run is pulls next at =
    let first = run_good Anything b moves c (opening_sound b opening) run in
    let pull = goes_good c (Steps (Events.Asks a) (Some (Events.Replies reply))) d first.0 pulls in
    let rest = run_good Anything d more e pull.0 next in
    let there = pulled_at c.now d.now a p reply k r first.0.state is pulls.0 at in
    let low : there.0 < c.now.flushed = omega (arith, there.1, first.0.state.dispatched) in
    (there.0, there.1, there.2, rest.1.stays there.0 r (omega (arith, low, pull.1.flushed)) (pull.1.stays there.0 r low (inr there.2)))
