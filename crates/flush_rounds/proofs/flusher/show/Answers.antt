use Rattle.std.proofs.Common.{Some, subst}
use Rattle.broker_events.specs.declared.event.Event.TheVariants.{Dispatch}
use Rattle.broker_events.specs.declared.said.Said.TheVariants as said
use Rattle.worker_turns.specs.Turning.{most_seen}
use Rattle.flush_rounds.proofs.flusher.show.Goals as goal

pub returns-clause-made : goal.returns-clause-made
returns-clause-made g c = (
  c.dispatch_turn.result,
  subst (g.C.Calls.makes c.args.calls.now (Dispatch most_seen) (Some (said.Moved c.dispatch_turn.result))) c.dispatch_turn.ensures.2 c.dispatch_turn.ensures.1,
)
