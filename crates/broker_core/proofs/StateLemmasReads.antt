-- Which states requests that read leave: a later time, and other stored offsets.
use Rattle.std.proofs.Common.{arith, ℕ, ◌^◌, ◌<◌, ◌≤◌, List, Option, Some, None}
use Rattle.broker_model.specs.Tables.{OffsetRow}
use Rattle.broker_model.specs.Lawful.{IsState, IsTurn, IfOut}
use Rattle.broker_model.specs.State.{State, Out}

-- the turn that is out is one of the other state too
pub turn_remains : (t s : State) (o : Option Out) → ((out : Out) → IsTurn s out → IsTurn t out) → IfOut o (IsTurn s) → IfOut o (IsTurn t)
turn_remains t s None stays is = tt
turn_remains t s (Some out) stays is = stays out is

-- time went on, and offsets were stored
pub read_state : (s : State) (offsets : List OffsetRow) (now : ℕ) → IsState s → s.now ≤ now → now < 2 ^ 62 → IsState (record s { offsets = offsets; now = now })
read_state s offsets now is later low = record {
  log = is.log;
  base = is.base;
  dispatched = is.dispatched;
  flushed = is.flushed;
  out = turn_remains (record s { offsets = offsets; now = now }) s s.out (λ out turn. record { some = turn.some; few = turn.few; held = turn.held; grows = turn.grows }) is.out;
  now = λ i r at. let before = is.now i r at in omega (arith, before, later);
  saved = record { ahead = is.saved.ahead; cut = is.saved.cut; dispatched = is.saved.dispatched };
  failed = λ k d h. let f = is.failed k d h in record { from = f.from; held = f.held; turn = f.turn };
  host = is.host;
  time = low;
  topics = is.topics;
  order = is.order;
}
