use Rattle.std.proofs.Common.{Some, refl, subst}
use Rattle.broker_events.specs.declared.event.Event.TheVariants.{Dispatch}
use Rattle.broker_events.specs.declared.said.Said.TheVariants as said
use Rattle.worker_turns.specs.Turning.{most_seen}
use Rattle.worker_turns.proofs.ActLemmas.{free_step}
use Rattle.worker_turns.proofs.turning.dispatch.Goals as goal

pub returns-clause-acted : goal.returns-clause-acted
returns-clause-acted g c = (
  c.dispatch_turn.result,
  subst (g.C.Calls.makes c.args.calls.now (Dispatch most_seen) (Some (said.Moved c.dispatch_turn.result))) c.dispatch_turn.ensures.2 c.dispatch_turn.ensures.1,
)

pub returns-clause-free : goal.returns-clause-free
returns-clause-free g c =
    free_step _ _ _ _ (Dispatch most_seen) (Some (said.Moved c.dispatch_turn.result)) _ g.met.C.Calls.key_stays g.met.C.Calls.shown_moves
    (subst (g.C.Calls.makes c.args.calls.now (Dispatch most_seen) (Some (said.Moved c.dispatch_turn.result))) c.dispatch_turn.ensures.2 c.dispatch_turn.ensures.1)
    refl c.requires.free
