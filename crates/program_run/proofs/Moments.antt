-- The moment at which the last of some flush turns ended, and how many records were flushed by then.
use Rattle.std.proofs.Common.{◌≡◌, ℕ, ◌≤◌, nat_le, cond, List, [], ◌∷◌, ◌++◌, refl, ap, arith}
use Rattle.std.proofs.lemmas.Bool.{le-leb}
use Rattle.std.proofs.lemmas.List.Sums.{sum_by-cons}
use Rattle.log_model.specs.Stored.{FlushTurn, turned_by, turned_in}
use Rattle.flush_story.specs.Keeping.{AreInOrder}
use Rattle.program_run.specs.Acknowledged.{last_moment}

-- of turns behind others
pub last_then : (low : ℕ) (first later : List FlushTurn) → last_moment low (first ++ later) ≡ last_moment (last_moment low first) later
last_then low [] later = refl
last_then low (turn ∷ first) later = last_then turn.moment first later

-- turns in order end between the two moments
pub order_low : (low high : ℕ) (turns : List FlushTurn) → AreInOrder low turns high → low ≤ last_moment low turns
order_low low high [] order = omega arith
order_low low high (turn ∷ turns) order = omega (arith, order.0, order_low turn.moment high turns order.1)

pub order_high : (low high : ℕ) (turns : List FlushTurn) → AreInOrder low turns high → last_moment low turns ≤ high
order_high low high [] order = order
order_high low high (turn ∷ turns) order = order_high turn.moment high turns order.1

-- of turns in order those behind the first ones are, and so are these
pub order_later : (low high : ℕ) (first later : List FlushTurn) → AreInOrder low (first ++ later) high → AreInOrder (last_moment low first) later high
order_later low high [] later order = order
order_later low high (turn ∷ first) later order = order_later turn.moment high first later order.1

pub order_first : (low high : ℕ) (first later : List FlushTurn) → AreInOrder low (first ++ later) high → AreInOrder low first (last_moment low first)
order_first low high [] later order = omega arith
order_first low high (turn ∷ first) later order = (order.0, order_first turn.moment high first later order.1)

-- of turns in order, what the first ones flushed is flushed by the moment at which the last of these ended, and later
pub turned_front : (low high m : ℕ) (first later : List FlushTurn) → AreInOrder low (first ++ later) high → last_moment low first ≤ m
    → turned_in first ≤ turned_by (first ++ later) m
turned_front low high m [] later order reached = omega arith
turned_front low high m (turn ∷ first) later order reached =
    let here : turn.moment ≤ m = omega (arith, reached, order_low turn.moment (last_moment turn.moment first) first (order_first turn.moment high first later order.1)) in
    let counted : cond (nat_le turn.moment m) turn.count 0 ≡ turn.count = ap (λ b. cond b turn.count 0) (le-leb turn.moment m here) in
    omega (
      arith,
      counted,
      sum_by-cons (λ (t : FlushTurn). cond (nat_le t.moment m) t.count 0) turn (first ++ later),
      sum_by-cons (λ (t : FlushTurn). t.count) turn first,
      turned_front turn.moment high m first later order.1 reached,
    )
