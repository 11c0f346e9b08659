use Rattle.std.proofs.Common.{inr, arith}
use Rattle.worker_turns.specs.Acts.{place_of}
use Rattle.flush_rounds.specs.Asking.{asking_of}
use Rattle.flush_rounds.proofs.Asking.{ways_still}
use Rattle.flush_rounds.proofs.Counting.{turn_grows, turn_blamed}
use Rattle.flush_rounds.proofs.Turns.{flushes_still, idle_turns, shown_turns}
use Rattle.flush_rounds.proofs.state.FlushState.turn.Goals as goal

pub returns-then-is_idle : goal.returns-then-is_idle
returns-then-is_idle g c =
    let did = c.flush_turn-end.ensures in
    let end = c.flush_turn-end.result in
    record {
      acted = flushes_still g.C.Calls.makes _ g.K.Clock.tells (g.K.Clock.readings c.args.self.now.timetable.clock) _ _ _ _ (asking_of c.args.self.now.ways)
          (idle_turns g.C.Calls.makes _ end _ _ _ _ (c.is_idle.ensures c.if-is_idle.true) did.ended
          (λ none. let rests = did.rests none in λ i. place_of ((rests.0 i).file) (rests.1 i)) did.placed did.cause);
      ways = ways_still _;
      outside = did.outside;
      grow = turn_grows end _ _ did.cause;
      cause = inr (turn_blamed end _ _ _ (omega arith) did.cause);
      ready = record { key = did.key; none_out = did.none_out; inside = did.inside };
    }

pub returns : goal.returns
returns g c =
    let did = c.flush_turn-end.ensures in
    let end = c.flush_turn-end.result in
    record {
      acted = flushes_still g.C.Calls.makes _ g.K.Clock.tells (g.K.Clock.readings c.args.self.now.timetable.clock) _ _ _ _ (asking_of c.args.self.now.ways)
          (shown_turns g.C.Calls.makes _ end _ _ _ _ _ did.ended
          (λ none. let rests = did.rests none in λ i. place_of ((rests.0 i).file) (rests.1 i)) did.placed did.cause c.show-seen.ensures.made);
      ways = ways_still _;
      outside = did.outside;
      grow = turn_grows end _ _ did.cause;
      cause = inr (turn_blamed end _ _ _ (omega arith) did.cause);
      ready = record { key = c.show-seen.ensures.key; none_out = c.show-seen.ensures.none_out; inside = did.inside };
    }
