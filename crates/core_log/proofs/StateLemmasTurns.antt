-- Which states flush turns, a dispatch and the end of a link leave.
use Rattle.std.proofs.Common.{◌≡◌, subst, arith, ℕ, zero, suc, ◌+◌, ◌^◌, ◌<◌, ◌≤◌, List, [], ◌∷◌, ◌++◌, All, Option, Some, None}
use Rattle.std.specs.List.{AllPairs}
use Rattle.std.proofs.lemmas.List.Elements.{All-append}
use Rattle.log_model.specs.Numbered.{count_of}
use Rattle.broker_model.specs.Clients.{ClientTable}
use Rattle.broker_model.specs.Lawful.{IsState, IsTurn, IsFailedTurn, IfOut}
use Rattle.broker_model.specs.State.{State, Out, FailedTurn}
use Rattle.broker_model.specs.Step.{next_turn, failed_turns}

-- ---- one item more

all_one : {A : Type 0} (P : A → Type 0) (x : A) → P x → All P (x ∷ [])
all_one P x is zero d h = is
all_one P x is (suc k) d h = absurd (let none : ⊥ = omega (arith, h) in none)

pairs_push : {A : Type 0} (R : A → A → Type 0) (xs : List A) (x : A) → AllPairs R xs → All (λ y. R y x) xs → AllPairs R (xs ++ x ∷ [])
pairs_push R [] x pairs all i j d before within = absurd (let none : ⊥ = omega (arith, before, within) in none)
pairs_push R (y ∷ xs) x pairs all i zero d before within = absurd (let none : ⊥ = omega (arith, before) in none)
pairs_push R (y ∷ xs) x pairs all zero (suc j) d before within =
    All-append (λ z. R y z) xs (x ∷ []) (λ k e h. pairs 0 (suc k) e (omega arith) (omega (arith, h))) (all_one (λ z. R y z) x (all 0 x (omega arith))) j d (omega (arith, within))
pairs_push R (y ∷ xs) x pairs all (suc i) (suc j) d before within =
    pairs_push R xs x (λ a b e low high. pairs (suc a) (suc b) e (omega (arith, low)) (omega (arith, high))) (λ k e h. all (suc k) e (omega (arith, h))) i j d (omega (arith, before)) (omega (arith, within))

-- ---- flush turns

-- a turn began with a batch of so many records
pub taken_state : (s : State) (count : ℕ) → IsState s → s.turns < 2 ^ 64 → 0 < count → s.flushed + count ≤ count_of s.log
    → IsState (record s { out = Some (record { count = count; held = count_of s.log }); turns = next_turn s.turns })
taken_state s count is few some within = record {
  log = is.log;
  base = is.base;
  dispatched = is.dispatched;
  flushed = is.flushed;
  out = record { some = some; few = within; held = omega arith; grows = λ k d h. (is.failed k d h).held };
  now = is.now;
  saved = record { ahead = is.saved.ahead; cut = is.saved.cut; dispatched = is.saved.dispatched };
  failed = λ k d h. let f = is.failed k d h in let turn = f.turn in record { from = f.from; held = f.held; turn = omega (arith, turn, few) };
  host = is.host;
  time = is.time;
  topics = is.topics;
  order = is.order;
}

-- its records are on the disk
pub flushed_state : (s : State) (count : ℕ) → IsState s → s.flushed + count ≤ count_of s.log → IsState (record s { flushed = s.flushed + count; out = None })
flushed_state s count is within = record {
  log = is.log;
  base = is.base;
  dispatched = let low = is.dispatched in omega (arith, low);
  flushed = within;
  out = tt;
  now = is.now;
  saved = record { ahead = is.saved.ahead; cut = is.saved.cut; dispatched = is.saved.dispatched };
  failed = λ k d h. let f = is.failed k d h in let from = f.from in record { from = omega (arith, from); held = f.held; turn = f.turn };
  host = is.host;
  time = is.time;
  topics = is.topics;
  order = is.order;
}

-- it failed
pub failed_state : (s : State) (out : Out) (count : ℕ) → IsState s → s.out ≡ Some out → IsState (record s { failed = failed_turns s count (Some out); out = None })
failed_state s out count is there =
    let turn : IsTurn s out = subst (λ (o : Option Out). IfOut o (IsTurn s)) there is.out in
    let last : FailedTurn = record { turn = s.turns; from = s.flushed; held = out.held; count = count } in
    let t : State = record s { failed = s.failed ++ last ∷ []; out = None } in
    record {
      log = is.log;
      base = is.base;
      dispatched = is.dispatched;
      flushed = is.flushed;
      out = tt;
      now = is.now;
      saved = record { ahead = is.saved.ahead; cut = is.saved.cut; dispatched = is.saved.dispatched };
      failed = All-append (IsFailedTurn t) s.failed (last ∷ []) (λ k d h. let f = is.failed k d h in record { from = f.from; held = f.held; turn = f.turn })
          (all_one (IsFailedTurn t) last (record { from = omega arith; held = turn.held; turn = omega arith }));
      host = is.host;
      time = is.time;
      topics = is.topics;
      order = pairs_push (λ (f g : FailedTurn). (f.held ≤ g.held) × (f.turn ≤ g.turn)) s.failed last is.order (λ k d h. (turn.grows k d h, (is.failed k d h).turn));
    }

-- ---- other events

-- the turn that is out is one of the other state too
turn_stays : (t s : State) (o : Option Out) → ((out : Out) → IsTurn s out → IsTurn t out) → IfOut o (IsTurn s) → IfOut o (IsTurn t)
turn_stays t s None stays is = tt
turn_stays t s (Some out) stays is = stays out is

-- more records are seen
pub dispatched_state : (s : State) (to : ℕ) → IsState s → s.dispatched ≤ to → to ≤ s.flushed → IsState (record s { dispatched = to })
dispatched_state s to is more within = record {
  log = is.log;
  base = let low = is.base in omega (arith, low, more);
  dispatched = within;
  flushed = is.flushed;
  out = turn_stays (record s { dispatched = to }) s s.out (λ out turn. record { some = turn.some; few = turn.few; held = turn.held; grows = turn.grows }) is.out;
  now = is.now;
  saved = record { ahead = is.saved.ahead; cut = is.saved.cut; dispatched = let low = is.saved.dispatched in omega (arith, low, more) };
  failed = λ k d h. let f = is.failed k d h in record { from = f.from; held = f.held; turn = f.turn };
  host = is.host;
  time = is.time;
  topics = is.topics;
  order = is.order;
}

-- some clients are gone
pub left_state : (s : State) (clients : ClientTable) → IsState s → IsState (record s { clients = clients })
left_state s clients is = record {
  log = is.log;
  base = is.base;
  dispatched = is.dispatched;
  flushed = is.flushed;
  out = turn_stays (record s { clients = clients }) s s.out (λ out turn. record { some = turn.some; few = turn.few; held = turn.held; grows = turn.grows }) is.out;
  now = is.now;
  saved = record { ahead = is.saved.ahead; cut = is.saved.cut; dispatched = is.saved.dispatched };
  failed = λ k d h. let f = is.failed k d h in record { from = f.from; held = f.held; turn = f.turn };
  host = is.host;
  time = is.time;
  topics = is.topics;
  order = is.order;
}
